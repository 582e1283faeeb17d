-- What an actor's next step is, by its two tests: whether its total runs over, and whether it need not wait or finds something.
-- Assumes nothing.
use Prim.Native.Nat.{ℕ, ◌+◌, ◌<◌}
use native.Mathlib.Omega.{arith}
use mathlib.Core.Path.{◌≡◌, refl, ap}
use mathlib.Core.Bool.{Bool, true, false, cond, false≢true}
use mathlib.Core.List.{List}
use lib.ListN.{get_or}
use Rattle.table.specs.declared.Action.{Action}
use Rattle.table.specs.declared.Action.TheVariants.{Add, WaitAny, MutexWait}
use Rattle.table.specs.declared.Numbers.{Numbers}
use Rattle.model.specs.Site.{Site}
use Rattle.model.specs.Views.{total, largest}
use Rattle.model.specs.Step.{NextStep, taken, waiting, over, is_taken, step_of}
use Rattle.model.proofs.ByKind.{Taking, freely, adds, waits-any, waits-mutex, taking}

pub is-taken : (t : NextStep) → is_taken t ≡ true → t ≡ taken
is-taken taken h = refl
is-taken waiting h = absurd (false≢true h)
is-taken over h = absurd (false≢true h)

pub clash : {A : Type 0} {t : NextStep} → t ≡ over → t ≡ taken → A
clash o e = let z : ◌≡◌ {A = ℕ} 0 1 = cc in absurd (omega arith)

-- the next step, where `out` says that it runs over, and `fine` that it passes
abbrev pub judged : (out fine : Bool) → NextStep
judged out fine = cond out over (cond fine taken waiting)

pub taken-fits : (out fine : Bool) → is_taken (judged out fine) ≡ true → out ≡ false
taken-fits true fine h = absurd (false≢true h)
taken-fits false fine h = refl

pub taken-lasts : (out fine later : Bool) → (fine ≡ true → later ≡ true) → is_taken (judged out fine) ≡ true → is_taken (judged out later) ≡ true
taken-lasts true fine later f h = h
taken-lasts false true later f h = rw (f refl)
taken-lasts false false later f h = absurd (false≢true h)

pub over_runs : (out fine : Bool) → judged out fine ≡ over → out ≡ true
over_runs true fine h = refl
over_runs false true h = let z : ◌≡◌ {A = ℕ} 0 1 = cc in absurd (omega arith)
over_runs false false h = let z : ◌≡◌ {A = ℕ} 0 1 = cc in absurd (omega arith)

-- ---- by the action

-- a step that is no Add and waits for nothing is taken
pub always-taken : (table : List ℕ) (s : Site) (a : ℕ) (x : Action) → ((cell other : ℕ) → x ≡ Add cell other → ⊥)
    → ((result : ℕ) (list : Numbers) → x ≡ WaitAny result list → ⊥) → ((result : ℕ) (list : Numbers) → x ≡ MutexWait result list → ⊥)
    → step_of table s a x ≡ taken
always-taken table s a x no_add no-wait no-mutex-wait = go (taking x)
  where
    go : Taking x → step_of table s a x ≡ taken
    go (freely w t) = rw (w, t (s.actor a).cells)
    go (adds cell other e) = absurd (no_add cell other e)
    go (waits-any result list e) = absurd (no-wait result list e)
    go (waits-mutex result list e) = absurd (no-mutex-wait result list e)

-- a total above the largest number is an Add's
pub total-add : (x : Action) (cells : List ℕ) → largest < total x cells
    → (cell : ℕ) × (other : ℕ) × (x ≡ Add cell other) × (largest < get_or cells cell 0 + get_or cells other 0)
total-add x cells h = go (taking x)
  where
    none : total x cells ≡ 0 → ⊥
    none z = omega arith

    go : Taking x → (cell : ℕ) × (other : ℕ) × (x ≡ Add cell other) × (largest < get_or cells cell 0 + get_or cells other 0)
    go (freely w t) = absurd (none (t cells))
    go (adds cell other e) = (cell, other, e, rw e at h)
    go (waits-any result list e) = absurd (none (ap (λ (y : Action). total y cells) e))
    go (waits-mutex result list e) = absurd (none (ap (λ (y : Action). total y cells) e))
