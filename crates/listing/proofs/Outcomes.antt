-- The listing by what is known of its checks: the refusal's line, or the lines of the steps and of the ending that the engine found.
-- Assumes nothing.
use mathlib.Core.Path.{◌≡◌, ◌∙◌, ap, sym, subst}
use mathlib.Core.List.{List, ◌++◌, map}
use Prim.Native.Nat.{ℕ, zero, suc, ◌-◌, ◌≤◌}
use native.Mathlib.Nat.{min-le_right}
use native.Mathlib.Omega.{arith}
use lib.ListN.{length, take, drop, replicate, length-map, length-take}
use Rattle.table.specs.Outcome.{Outcome, accepted, refused}
use Rattle.trace.specs.Machine.{Name}
use Rattle.trace.specs.Schedule.{names}
use Rattle.trace.proofs.Run.{names-length}
use Rattle.model.specs.Site.{initial}
use Rattle.model.specs.Ready.{Ending, ReadyAnswer, ready_answer, ending}
use Rattle.model.specs.Schedule.{machine, end_state}
use Rattle.model.specs.Calls.{ready_checks}
use Rattle.model.specs.Text.{line}
use Rattle.model.specs.Listing.{end_text, refused_text, step_lines, run_lines, lines_of, listing_of, table_read, schedule_read}
use Rattle.model.proofs.Beginnings.{beginnings-decide}
use Rattle.names.specs.InByte.{name_of}
use Rattle.answers.specs.Answers.{ending_as, readiness_of}
use Rattle.writing.specs.Written.{Wrote}
use Rattle.answers.specs.declared.Readiness.{Readiness}
use Rattle.listing.specs.declared.laid.Listing.{Listing}
use Rattle.listing.specs.Laid.{Laid}
use Rattle.lines.specs.FirstSteps.{first_steps}

-- ---- the two outcomes

module _ (table schedule e b : List ℕ) (r : ℕ) where
  -- a refusal, whose number and position the code has found
  pub wrote-refusal : (number position : ℕ) {n p : ℕ} → ready_checks table schedule ≡ refused n p → number ≡ n → position ≡ p
      → Wrote e (line (refused_text number position)) b r × (r ≤ 33) → Wrote e (listing_of table schedule) b r × (r ≤ 1293)
  unfolding listing_of
  wrote-refusal number position {n} {p} c f g (w, small) =
      let right : line (refused_text number position) ≡ lines_of (ready_checks table schedule) (run_lines table schedule) =
      ap (λ (x : ℕ). line (refused_text x position)) f ∙ ap (λ (x : ℕ). line (refused_text n x)) g
      ∙ sym (ap (λ (o : Outcome). lines_of o (run_lines table schedule)) c) in (
        subst (λ (l : List ℕ). Wrote e l b r) right w,
        omega (arith, small),
      )

  -- an accepted run
  pub wrote-run : (held : List ℕ) (found : Readiness) → ready_checks table schedule ≡ accepted
      → map name_of (take (length schedule) held) ≡ names (machine table) initial schedule
      → readiness_of found ≡ ready_answer table (end_state table schedule)
      → Wrote e (first_steps held (length schedule) ++ line (end_text (ending_as found.ending))) b r
      → Wrote e (listing_of table schedule) b r
  unfolding listing_of ready_answer
  wrote-run held found c f g w =
      let last : ending_as found.ending ≡ ending table (end_state table schedule) = ap (λ (a : ReadyAnswer). a.ending) g in
      let right : first_steps held (length schedule) ++ line (end_text (ending_as found.ending)) ≡ lines_of (ready_checks table schedule) (run_lines table schedule) =
      ap (λ (l : List Name). step_lines l ++ line (end_text (ending_as found.ending))) f
      ∙ ap (λ (x : Ending). step_lines (names (machine table) initial schedule) ++ line (end_text x)) last
      ∙ sym (ap (λ (o : Outcome). lines_of o (run_lines table schedule)) c) in
      subst (λ (l : List ℕ). Wrote e l b r) right w

-- the names of all steps are held
pub held-long : (table schedule held : List ℕ) → map name_of (take (length schedule) held) ≡ names (machine table) initial schedule → length schedule ≤ length held
held-long table schedule held e =
    let all : length (take (length schedule) held) ≡ length schedule =
    sym (length-map (take (length schedule) held) name_of) ∙ ap length e ∙ names-length (machine table) initial schedule in
    subst (λ (n : ℕ). n ≤ length held) (sym (length-take (length schedule) held) ∙ all) (min-le_right (length schedule) (length held))

-- ---- the whole

abbrev zeros : ℕ → List ℕ
zeros n = replicate n 0

drop-zeros : (n k : ℕ) → drop k (zeros n) ≡ zeros (n - k)
drop-zeros n zero = let all : n ≡ n - 0 = omega arith in ap zeros all
drop-zeros zero (suc k) = let none : 0 ≡ 0 - suc k = omega arith in ap zeros none
drop-zeros (suc n) (suc k) =
    let same : n - k ≡ suc n - suc k = omega arith in drop-zeros n k ∙ ap zeros same

pub laid : (text bytes : List ℕ) (r : ℕ) → Wrote (zeros 1293) text bytes r → (h : r ≤ 1293) → Laid text (record { bytes = bytes; length = r; within = h })
laid text bytes r w h =
    record {
      counted = w.0;
      room = omega (arith, w.0);
      laid = w.1 ∙ ap (λ (l : List ℕ). text ++ l) (drop-zeros 1293 (length text));
    }

-- what is laid out of two files' beginnings is the files' own
pub laid-files : (table schedule : List ℕ) {r : Listing} → Laid (listing_of table schedule) r
    → (file order : List ℕ) → take table_read file ≡ table → take schedule_read order ≡ schedule → Laid (listing_of file order) r
laid-files table schedule {r} l file order f g =
    subst (λ (t : List ℕ). Laid t r)
    (sym (ap (λ (t : List ℕ). listing_of t schedule) f) ∙ sym (ap (λ (s : List ℕ). listing_of (take table_read file) s) g) ∙ beginnings-decide file order) l
