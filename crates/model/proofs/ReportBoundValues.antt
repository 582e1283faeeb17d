-- Where every byte of the table is below 256, every cell and every value that a communication carries is below 2^32: a step whose total would not
-- be is not taken.
-- Assumes nothing.
use Prim.Native.Nat.{ℕ, zero, suc, ◌+◌, ◌^◌, ◌<◌, ◌≤◌}
use native.Mathlib.Omega.{arith}
use mathlib.Core.Path.{◌≡◌, ap}
use mathlib.Core.Logic.{◌⊎◌, inl, inr}
use mathlib.Core.Bool.{Bool, true, false}
use mathlib.Core.List.{List, [], ◌∷◌, ◌++◌}
use lib.Dec.{eqb, ltb}
use borrow.Author.Tests.{eqb-true, eqb-false, ltb-true, ltb-false}
use lib.ListN.{length, get_or, set, replicate, length-take, get_or-map}
use lib.Seq.{get_or-set_same, get_or-set_other, set_out}
use Rattle.table.specs.declared.Action.{Action}
use Rattle.table.specs.declared.Action.TheVariants.{Set, Add, Lesser, Send, Receive, TestAny, WaitAny, Lock, Unlock, MutexTest, MutexWait, Note}
use Rattle.table.specs.declared.Numbers.{Numbers}
use Rattle.table.specs.Format.{byte_at, value_at}
use Rattle.table.specs.Decode.{decode_as}
use Rattle.trace.specs.Machine.{Name}
use Rattle.trace.specs.Order.{eq_name}
use Rattle.trace.specs.Schedule.{accepted, final}
use Rattle.trace.proofs.Bools.{which}
use Rattle.trace.proofs.Run.{first-ready, rest-accepted}
use Rattle.model.specs.Site.{upd, Side, sends, receives, Port, opposite, Comm, Mail, Entry, Site, name, initial}
use Rattle.model.specs.Views.{Post, silent, mails, joins, leaves, notes, posts, Look, blind, communications, mutexes, looks, sent, Write, keeps, puts, written, view_of, total, largest, runs_over}
use Rattle.model.specs.Mail.{carried, pair_value, meet_with, mailing}
use Rattle.model.specs.Journal.{noting}
use Rattle.model.specs.Local.{Seen, unseen, seen, first, see, place_seen, pick_up_seen, picked_up, cells_after}
use Rattle.model.specs.Step.{is_taken, action_at, next_name, next_action, passes, ready, step}
use Rattle.model.specs.Schedule.{machine, end_state}
use Rattle.model.proofs.ByKind.{Posting, quiet, sends-to, receives-from, locks, unlocks, writes_down, posting, Looking, blindly, testing, mutex-testing, looking, mutex-looks}
use Rattle.model.proofs.Invariant.{others-record}
use Rattle.model.proofs.NextSteps.{taken-fits}
use Rattle.model.proofs.Checks.{ready-parts}
use Rattle.model.proofs.ReportBoundCells.{own-record}

abbrev pub Small : ℕ → Type 0
Small x = x < 2 ^ 32

abbrev pub SmallCells : List ℕ → Type 0
SmallCells cells = (j : ℕ) → Small (get_or cells j 0)

set-small : (cells : List ℕ) (i v : ℕ) → SmallCells cells → Small v → SmallCells (set cells i v)
set-small cells i v h w j = go (which (eqb j i)) (which (ltb i (length cells)))
  where
    go : (eqb j i ≡ true) ⊎ (eqb j i ≡ false) → (ltb i (length cells) ≡ true) ⊎ (ltb i (length cells) ≡ false) → Small (get_or (set cells i v) j 0)
    go (inl e) (inl l) = rw (eqb-true j i e, get_or-set_same cells i v 0 (ltb-true i (length cells) l)) w
    go (inl e) (inr l) = rw (set_out cells i v (ltb-false i (length cells) l)) (h j)
    go (inr e) l = rw (get_or-set_other cells i j v 0 (eqb-false j i e)) (h j)

-- ---- the value of a Set

abbrev set_value : Action → ℕ
set_value (Set cell value) = value
set_value (Add cell other) = 0
set_value (Lesser cell other) = 0
set_value (Send mailbox cell) = 0
set_value (Receive mailbox cell) = 0
set_value (TestAny result list) = 0
set_value (WaitAny result list) = 0
set_value (Lock mutex) = 0
set_value (Unlock mutex) = 0
set_value (MutexTest result list) = 0
set_value (MutexWait result list) = 0
set_value (Note cell) = 0

zeros-small : (n : ℕ) → SmallCells (replicate n 0)
zeros-small zero j = omega arith
zeros-small (suc n) zero = omega arith
zeros-small (suc n) (suc j) = zeros-small n j

module _ (table : List ℕ) (bytes : (j : ℕ) → byte_at table j < 256) where
  value-small : (at : ℕ) → Small (value_at table at)
  value-small at =
      omega (arith, bytes (at + 4), bytes (at + 4 + 1), bytes (at + 4 + 2), bytes (at + 4 + 2 + 1))

  decoded-small : (kind at : ℕ) → Small (set_value (decode_as kind table at))
  unfolding decode_as
  decoded-small zero at = value-small at
  decoded-small (suc kind) at = rw (← get_or-map set_value) (zeros-small 10 kind)

  action-small : (x : Name) → Small (set_value (action_at table x))
  action-small x = decoded-small _ _

-- ---- how many numbers an action of a table lists

abbrev look_length : Look → ℕ
look_length blind = 0
look_length (communications list) = length list
look_length (mutexes list) = length list

module _ (table : List ℕ) where
  decoded-short : (kind at : ℕ) → look_length (looks (decode_as kind table at)) ≤ 4
  unfolding decode_as
  decoded-short zero at = omega arith
  decoded-short (suc zero) at = omega arith
  decoded-short (suc (suc zero)) at = omega arith
  decoded-short (suc (suc (suc zero))) at = omega arith
  decoded-short (suc (suc (suc (suc zero)))) at = omega arith
  decoded-short (suc (suc (suc (suc (suc zero))))) at = omega (arith, length-take {A = ℕ})
  decoded-short (suc (suc (suc (suc (suc (suc zero)))))) at = omega (arith, length-take {A = ℕ})
  decoded-short (suc (suc (suc (suc (suc (suc (suc zero))))))) at = omega arith
  decoded-short (suc (suc (suc (suc (suc (suc (suc (suc zero)))))))) at = omega arith
  decoded-short (suc (suc (suc (suc (suc (suc (suc (suc (suc zero))))))))) at = omega (arith, length-take {A = ℕ})
  decoded-short (suc (suc (suc (suc (suc (suc (suc (suc (suc (suc zero)))))))))) at = omega (arith, length-take {A = ℕ})
  decoded-short (suc (suc (suc (suc (suc (suc (suc (suc (suc (suc (suc kind))))))))))) at = omega arith

  looks-short : (x : Name) → look_length (looks (action_at table x)) ≤ 4
  looks-short x = decoded-short _ _

-- ---- what a look finds

abbrev SmallSeen : Seen → Type 0
SmallSeen unseen = Unit {0}
SmallSeen (seen place number value) = Small place × Small value

place-small : (found : Seen) → SmallSeen found → Small (place_seen found)
place-small unseen h = omega arith
place-small (seen place number value) h = h.0

first_small : (test : ℕ → Bool) (value : ℕ → ℕ) (from : ℕ) (l : List ℕ) → Small (from + length l) → ((k : ℕ) → Small (value k))
    → SmallSeen (first test value from l)
first_small test value from [] b h = tt
first_small test value from (x ∷ l) b h = go (which (test x)) (first_small test value (suc from) l (omega arith) h)
  where
    go : (test x ≡ true) ⊎ (test x ≡ false) → SmallSeen (first test value (suc from) l) → SmallSeen (first test value from (x ∷ l))
    go (inl e) rest = rw e (omega arith, h x)
    go (inr e) rest = rw e rest

abbrev pub SmallMail : Mail → Type 0
SmallMail m = (x : Name) → Small (carried (m.comm x))

see-small : (s : Site) → SmallMail s.mail → (a : ℕ) (look : Look) → look_length look ≤ 4 → SmallSeen (see s a look)
see-small s h a blind short = tt
see-small s h a (communications list) short = first_small _ _ 1 list (omega arith) (λ k. h (name a k))
see-small s h a (mutexes list) short = first_small _ _ 1 list (omega arith) (λ k. omega arith)

-- ---- the cells after a local step

-- what is written fits
abbrev SmallWrite : Write → (given : ℕ) (cells : List ℕ) → Type 0
SmallWrite keeps given cells = Unit {0}
SmallWrite (puts cell value) given cells = Small (value given cells)

written_small : (w : Write) (given : ℕ) (cells : List ℕ) → SmallCells cells → SmallWrite w given cells → SmallCells (written w given cells)
written_small keeps given cells h w = h
written_small (puts cell value) given cells h w = set-small cells cell _ h w

-- a value that is picked up is written as it is
picked_fits : (x : Action) (v : ℕ) (cells : List ℕ) → Small v → SmallWrite (view_of x).picked v cells
picked_fits x v cells h = go (posting x)
  where
    go : Posting x → SmallWrite (view_of x).picked v cells
    go (quiet q) = rw q.picks-none tt
    go (sends-to m c e) = rw e tt
    go (receives-from m c e) = rw e h
    go (locks m e) = rw e tt
    go (unlocks m e) = rw e tt
    go (writes_down c e) = rw e tt

pick_up_seen-small : (own : ℕ → Action) (found : Seen) (cells : List ℕ) → SmallCells cells → SmallSeen found → SmallCells (pick_up_seen own found cells)
pick_up_seen-small own unseen cells h w = h
pick_up_seen-small own (seen place number value) cells h w =
    written_small (view_of (own number)).picked value cells h (picked_fits (own number) value cells w.1)

picked_up-small : (own : ℕ → Action) (look : Look) (found : Seen) (cells : List ℕ) → SmallCells cells → SmallSeen found
    → SmallCells (picked_up own look found cells)
picked_up-small own blind found cells h w = h
picked_up-small own (communications l) found cells h w = pick_up_seen-small own found cells h w
picked_up-small own (mutexes l) found cells h w = h

-- what a step writes: the value of a Set, a total, the smaller of two cells, a place
write-fits : (x : Action) (place : ℕ) (cells : List ℕ) → SmallCells cells → Small (set_value x) → Small (total x cells) → Small place
    → SmallWrite (view_of x).writes place cells
write-fits (Set cell value) place cells h x t w = x
write-fits (Add cell other) place cells h x t w = t
write-fits (Lesser cell other) place cells h x t w = omega (arith, h cell)
write-fits (Send mailbox cell) place cells h x t w = tt
write-fits (Receive mailbox cell) place cells h x t w = tt
write-fits (TestAny result list) place cells h x t w = w
write-fits (WaitAny result list) place cells h x t w = w
write-fits (Lock mutex) place cells h x t w = tt
write-fits (Unlock mutex) place cells h x t w = tt
write-fits (MutexTest result list) place cells h x t w = w
write-fits (MutexWait result list) place cells h x t w = w
write-fits (Note cell) place cells h x t w = tt

-- a step that picks up makes no total
total_kept : (own : ℕ → Action) (x : Action) (found : Seen) (cells : List ℕ) → Small (total x cells) → Small (total x (picked_up own (looks x) found cells))
total_kept own x found cells t = go (looking x)
  where
    none : (list : Numbers) (result : ℕ) → (x ≡ TestAny result list) ⊎ (x ≡ WaitAny result list) → Small (total x (picked_up own (looks x) found cells))
    none list result (inl e) = rw e (omega arith)
    none list result (inr e) = rw e (omega arith)

    go : Looking x → Small (total x (picked_up own (looks x) found cells))
    go (blindly e) = rw e t
    go (testing list w) = none list w.0 w.1
    go (mutex-testing list w) = rw (mutex-looks x list w) t

cells_after-small : (own : ℕ → Action) (x : Action) (found : Seen) (cells : List ℕ) → SmallCells cells → Small (set_value x) → Small (total x cells)
    → SmallSeen found → SmallCells (cells_after own x found cells)
unfolding cells_after
cells_after-small own x found cells h v t w =
    let found_in = picked_up-small own (looks x) found cells h w in
    written_small (view_of x).writes (place_seen found) (picked_up own (looks x) found cells) found_in
    (write-fits x (place_seen found) (picked_up own (looks x) found cells) found_in v (total_kept own x found cells t) (place-small found w))

-- ---- the values that communications carry

sent-small : (x : Action) (cells : List ℕ) → SmallCells cells → Small (sent x cells)
sent-small x cells h = go (posting x)
  where
    go : Posting x → Small (sent x cells)
    go (quiet q) = omega (arith, q.sends_none cells)
    go (sends-to m c e) = rw e (h c)
    go (receives-from m c e) = rw e (omega arith)
    go (locks m e) = rw e (omega arith)
    go (unlocks m e) = rw e (omega arith)
    go (writes_down c e) = rw e (h c)

pair_small : (d : Side) (v w : ℕ) → Small v → Small w → Small (pair_value d v w)
pair_small sends v w h k = omega arith
pair_small receives v w h k = omega arith

upd-small : (f : Name → Comm) (x : Name) (c : Comm) → ((y : Name) → Small (carried (f y))) → Small (carried c) → (y : Name)
    → Small (carried (upd eq_name f x c y))
upd-small f x c h new y = go (which (eq_name y x))
  where
    go : (eq_name y x ≡ true) ⊎ (eq_name y x ≡ false) → Small (carried (upd eq_name f x c y))
    go (inl e) = rw e new
    go (inr e) = rw e (h y)

meeting-small : (l : List Name) (P : Port) (x : Name) (v : ℕ) (m : Mail) → SmallMail m → Small v → SmallMail (meet_with l P x v m)
meeting-small [] P x v m h w = upd-small m.comm x _ h w
meeting-small (y ∷ l) P x v m h w =
    let both : Small (pair_value P.side v (carried (m.comm y))) = pair_small P.side v _ w (h y) in
    upd-small _ x _ (upd-small m.comm y _ h both) both

mailing-small : (p : Post) (x : Name) (v : ℕ) (m : Mail) → SmallMail m → Small v → SmallMail (mailing p x v m)
mailing-small silent x v m h w = h
mailing-small (mails P) x v m h w = meeting-small (m.waiting (opposite P)) P x v m h w
mailing-small (joins k) x v m h w = h
mailing-small (leaves k) x v m h w = h
mailing-small notes x v m h w = h

-- ---- the values in the journal

abbrev pub SmallJournal : List Entry → Type 0
SmallJournal [] = Unit {0}
SmallJournal (e ∷ j) = Small e.value × SmallJournal j

append-small : (j : List Entry) (e : Entry) → SmallJournal j → Small e.value → SmallJournal (j ++ (e ∷ []))
append-small [] e h w = (w, tt)
append-small (f ∷ j) e h w = (h.0, append-small j e h.1 w)

noting-small : (p : Post) (x : Name) (v : ℕ) (j : List Entry) → SmallJournal j → Small v → SmallJournal (noting p x v j)
noting-small silent x v j h w = h
noting-small (mails P) x v j h w = h
noting-small (joins k) x v j h w = h
noting-small (leaves k) x v j h w = h
noting-small notes x v j h w = append-small j _ h w

-- ---- every step

pub record SmallSite (s : Site) : Type 0 where
  pub cells : (a : ℕ) → SmallCells (s.actor a).cells
  pub values : SmallMail s.mail
  pub noted : SmallJournal s.journal

pub small-initial : SmallSite initial
unfolding initial
small-initial = record { cells = λ a. zeros-small 8; values = λ x. omega arith; noted = tt }

-- a step that is taken makes a total that fits
pub total-small : (table : List ℕ) (s : Site) (a : ℕ) → ready table s a ≡ true → Small (total (next_action table s a) (s.actor a).cells)
total-small table s a r =
    let x : Action = next_action table s a in
    let fits : runs_over x (s.actor a).cells ≡ false =
    taken-fits (runs_over x (s.actor a).cells) (passes table s a x) (ap is_taken (ready-parts table s a r).2) in
    omega (arith, ltb-false largest (total x (s.actor a).cells) fits)

module _ (table : List ℕ) (bytes : (j : ℕ) → byte_at table j < 256) where
  step-cells : (s : Site) (a : ℕ) → ready table s a ≡ true → SmallSite s → (b : ℕ) → SmallCells ((step table s a).actor b).cells
  step-cells s a r h b = go (which (eqb b a))
    where
      go : (eqb b a ≡ true) ⊎ (eqb b a ≡ false) → SmallCells ((step table s a).actor b).cells
      go (inl e) =
          rw (eqb-true b a e, own-record table s a)
          (cells_after-small (λ k. action_at table (name a k)) (next_action table s a) (see s a (looks (next_action table s a))) (s.actor a).cells
          (h.cells a) (action-small table bytes (next_name table s a)) (total-small table s a r) (see-small s h.values a _ (looks-short table (next_name table s a))))
      go (inr e) = rw (others-record table s b a (eqb-false b a e)) (h.cells b)

  pub small-step : (s : Site) (a : ℕ) → ready table s a ≡ true → SmallSite s → SmallSite (step table s a)
  unfolding step
  small-step s a r h =
      record {
        cells = step-cells s a r h;
        values =
            mailing-small (posts (next_action table s a)) (next_name table s a) _ s.mail h.values
            (sent-small (next_action table s a) (s.actor a).cells (h.cells a));
        noted =
            noting-small (posts (next_action table s a)) (next_name table s a) _ s.journal h.noted
            (sent-small (next_action table s a) (s.actor a).cells (h.cells a));
      }

  pub small-final : (s : Site) (p : List ℕ) → accepted (machine table) s p ≡ true → SmallSite s → SmallSite (final (machine table) s p)
  small-final s [] taken h = h
  small-final s (a ∷ p) taken h =
      small-final (step table s a) p (rest-accepted (machine table) s a p taken) (small-step s a (first-ready (machine table) s a p taken) h)

  pub small-end : (p : List ℕ) → accepted (machine table) initial p ≡ true → SmallSite (end_state table p)
  small-end p taken = small-final initial p taken small-initial
