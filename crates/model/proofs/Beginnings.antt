-- The beginnings of the two files decide the listing: 2,085 bytes of the table, 257 of the schedule. A longer table is refused by its first 36 bytes
-- or 5; of a longer schedule one of the first 257 entries is refused, and the first refusal decides.
-- Assumes nothing.
use mathlib.Core.Path.{◌≡◌, refl, ◌∙◌, ap}
use mathlib.Core.Bool.{true, false}
use mathlib.Core.Logic.{◌⊎◌, inl, inr}
use mathlib.Core.List.{List, [], ◌∷◌, ◌++◌}
use Prim.Native.Nat.{ℕ, suc, ◌<◌}
use native.Mathlib.Omega.{arith}
use borrow.Author.Tests.{leb-true, leb-false}
use lib.Dec.{leb}
use lib.ListN.{length, take, drop, take-append-drop}
use lib.Seq.{take_all, length-take-le, get_or-take}
use Rattle.table.specs.Outcome.{Outcome, accepted, refused}
use Rattle.table.specs.Read.{read_of}
use Rattle.table.proofs.Checks.{then-left, then-right}
use Rattle.table.proofs.Promise.{promised}
use Rattle.trace.proofs.Bools.{which}
use Rattle.model.specs.Site.{Site, initial}
use Rattle.model.specs.Step.{step}
use Rattle.model.specs.Schedule.{first_numbers, check_entry, check_from, check_schedule}
use Rattle.model.specs.Listing.{run_lines, lines_of, listing_of, table_read, schedule_read, BeginningsDecide}
use Rattle.model.proofs.Checks.{then-both, checks-taken}
use Rattle.model.proofs.ReportBound.{entries-room}
use Rattle.model.proofs.TableBeginning.{then-alike, read_alike, long-refused}

-- the lines count only where the checks accept
listed-alike : {o p : Outcome} (l m : List ℕ) → o ≡ p → (o ≡ accepted → l ≡ m) → lines_of o l ≡ lines_of p m
listed-alike {o} {p} l m e f = go o e f
  where
    go : (o : Outcome) → o ≡ p → (o ≡ accepted → l ≡ m) → lines_of o l ≡ lines_of p m
    go accepted e f = f refl ∙ ap (λ (z : Outcome). lines_of z m) e
    go (refused n i) e f = ap (λ (z : Outcome). lines_of z m) e

-- ---- the table

long-table : (table schedule : List ℕ) → table_read < length table → listing_of (take table_read table) schedule ≡ listing_of table schedule
unfolding listing_of
long-table table schedule h =
    let cut : length (take table_read table) ≡ table_read = length-take-le table_read table (omega arith) in
    let long : 2084 < length (take table_read table) = omega arith in
    let read : read_of (take table_read table) ≡ read_of table =
    read_alike (take table_read table) table long (omega arith) (λ i l. get_or-take table_read table i 0 (omega arith)) in
    listed-alike (run_lines (take table_read table) schedule) (run_lines table schedule)
    (then-alike read (λ ok. absurd (long-refused (take table_read table) long ok)))
    (λ ok. absurd (long-refused (take table_read table) long (then-left (read_of (take table_read table)) _ ok)))

table-begins : (table schedule : List ℕ) → listing_of (take table_read table) schedule ≡ listing_of table schedule
table-begins table schedule = go (which (leb (length table) table_read))
  where
    go : (leb (length table) table_read ≡ true) ⊎ (leb (length table) table_read ≡ false)
        → listing_of (take table_read table) schedule ≡ listing_of table schedule
    go (inl e) = ap (λ (t : List ℕ). listing_of t schedule) (take_all table_read table (leb-true (length table) table_read e))
    go (inr e) = long-table table schedule (leb-false (length table) table_read e)

-- ---- the schedule

-- entries after a refusal change nothing
stops : (table : List ℕ) (s : Site) (k : ℕ) (p q : List ℕ) → (check_from first_numbers table s k p ≡ accepted → ⊥)
    → check_from first_numbers table s k p ≡ check_from first_numbers table s k (p ++ q)
stops table s k [] q h = absurd (h refl)
stops table s k (a ∷ p) q h =
    then-alike {o = check_entry first_numbers table s a k} refl (λ fine. stops table (step table s a) (suc k) p q (λ ok. h (then-both fine ok)))

long-schedule : (table schedule : List ℕ) → schedule_read < length schedule → listing_of table (take schedule_read schedule) ≡ listing_of table schedule
unfolding listing_of
long-schedule table schedule h =
    let begin : List ℕ = take schedule_read schedule in
    let cut : length (take schedule_read schedule) ≡ schedule_read = length-take-le schedule_read schedule (omega arith) in
    let over : read_of table ≡ accepted → check_schedule first_numbers table begin ≡ accepted → ⊥ =
    λ ok fine. omega (arith, cut, entries-room table (promised table ok) begin (checks-taken table first_numbers initial 0 begin fine)) in
    listed-alike (run_lines table begin) (run_lines table schedule)
    (then-alike {o = read_of table} refl (λ ok. stops table initial 0 begin (drop schedule_read schedule) (over ok) ∙ ap (check_schedule first_numbers table) (take-append-drop schedule_read schedule)))
    (λ ok. absurd (over (then-left (read_of table) _ ok) (then-right (read_of table) _ ok)))

schedule-begins : (table schedule : List ℕ) → listing_of table (take schedule_read schedule) ≡ listing_of table schedule
schedule-begins table schedule = go (which (leb (length schedule) schedule_read))
  where
    go : (leb (length schedule) schedule_read ≡ true) ⊎ (leb (length schedule) schedule_read ≡ false)
        → listing_of table (take schedule_read schedule) ≡ listing_of table schedule
    go (inl e) = ap (listing_of table) (take_all schedule_read schedule (leb-true (length schedule) schedule_read e))
    go (inr e) = long-schedule table schedule (leb-false (length schedule) schedule_read e)

pub beginnings-decide : BeginningsDecide
beginnings-decide table schedule = table-begins table (take schedule_read schedule) ∙ schedule-begins table schedule
