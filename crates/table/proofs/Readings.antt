-- What a reading that is refused says: its outcome refuses, so that nothing after it counts.
-- Assumes nothing.
use mathlib.Core.Path.{◌≡◌, refl, ◌∙◌, ap, sym}
use Prim.Native.Nat.{ℕ, ◌+◌, ◌-◌, ◌<◌}
use Rattle.table.specs.declared.Fault.{Fault}
use Rattle.table.specs.declared.Fault.TheVariants.{Short, Edition, Counts, Directory, Length, Kind, Range, Listed, Unused}
use Rattle.table.specs.Outcome.{Outcome, refused, ◌⨾◌, each, number_of, position_of}
use Rattle.table.specs.Answer.{fault_of}
use Rattle.table.proofs.Checks.{each_next, each-go, each-end}

-- it has a number and a position
pub refusing : (f : Fault) → fault_of f ≡ refused (number_of (fault_of f)) (position_of (fault_of f))
refusing Short = refl
refusing Edition = refl
refusing Counts = refl
refusing Directory = refl
refusing Length = refl
refusing (Kind at) = refl
refusing (Range at) = refl
refusing (Listed at) = refl
refusing (Unused at) = refl

pub refuses : (f : Fault) (after : Outcome) → (fault_of f ⨾ after) ≡ fault_of f
refuses f after = ap (λ (o : Outcome). o ⨾ after) (refusing f) ∙ sym (refusing f)

-- a loop at i of n whose check refuses: the fault is the outcome
pub each-reads : (f : ℕ → Outcome) (n i : ℕ) → i < n → (fault : Fault) → fault_of fault ≡ f i → each f (n - i) i ≡ fault_of fault
each-reads f n i h fault e =
    each_next f n i h ∙ ap (λ (o : Outcome). o ⨾ each f (n - (i + 1)) (i + 1)) (sym e) ∙ refuses fault (each f (n - (i + 1)) (i + 1))

-- the steps of a loop over checks
pub ruleset steps = (each-go, each-end, each-reads)
