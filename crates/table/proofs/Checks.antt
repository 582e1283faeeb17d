-- Laws of checks that follow one another: what an accepted sequence says of each check, and how a loop runs through `each`.
-- Assumes nothing.
use mathlib.Core.Path.{◌≡◌, refl, ◌∙◌, ap, sym}
use mathlib.Core.Bool.{Bool, true, false, ◌&&◌}
use mathlib.Core.Logic.{◌⊎◌, inl, inr}
use Prim.Native.Nat.{ℕ, zero, suc, ◌+◌, ◌-◌, ◌<◌, ◌≤◌}
use native.Mathlib.Nat.{sub-zero, add-zero, add-suc, suc-add, le_of_suc-le-suc, not-suc-le-zero}
use native.Mathlib.Numerals.{add-one}
use native.Mathlib.Omega.{arith}
use Rattle.table.specs.Outcome.{Outcome, accepted, refused, demand, ◌⨾◌, each}

-- a test is true or false
pub which : (test : Bool) → (test ≡ true) ⊎ (test ≡ false)
which true = inl refl
which false = inr refl

pub refused-not : {n p : ℕ} {A : Type 0} → refused n p ≡ accepted → A
refused-not e = let z : ◌≡◌ {A = ℕ} 0 1 = cc in absurd (omega arith)

pub then-left : (o after : Outcome) → (o ⨾ after) ≡ accepted → o ≡ accepted
then-left accepted after e = refl
then-left (refused n p) after e = e

pub then-right : (o after : Outcome) → (o ⨾ after) ≡ accepted → after ≡ accepted
then-right accepted after e = e
then-right (refused n p) after e = refused-not e

-- checks that follow one another may be parted anywhere
pub then-then : (a b c : Outcome) → ((a ⨾ b) ⨾ c) ≡ (a ⨾ b ⨾ c)
then-then accepted b c = refl
then-then (refused n p) b c = refl

pub demand-true : (test : Bool) (n p : ℕ) → demand test n p ≡ accepted → test ≡ true
demand-true true n p e = refl
demand-true false n p e = refused-not e

pub and_left : (s t : Bool) → (s && t) ≡ true → s ≡ true
and_left true t e = refl
and_left false t e = e

pub and_right : (s t : Bool) → (s && t) ≡ true → t ≡ true
and_right true t e = e
and_right false t e = let z : false ≡ true = e in cc

-- every check of an accepted sequence accepts
pub each_at : (f : ℕ → Outcome) (n k : ℕ) → each f n k ≡ accepted → (i : ℕ) → i < n → f (k + i) ≡ accepted
each_at f zero k e i h = absurd (not-suc-le-zero h)
each_at f (suc n) k e zero h = rw add-zero (then-left (f k) (each f n (suc k)) e)
each_at f (suc n) k e (suc i) h =
    rw (add-suc, ← suc-add) (each_at f n (suc k) (then-right (f k) (each f n (suc k)) e) i (le_of_suc-le-suc h))

one_less : (n i : ℕ) → i < n → n - i ≡ suc (n - (i + 1))
one_less n i h = omega arith

-- a loop begins at 0
pub each-begin : (f : ℕ → Outcome) (n : ℕ) → each f n 0 ≡ each f (n - 0) 0
each-begin f n = rw sub-zero

-- a loop at i of n: the check at i comes next
pub each_next : (f : ℕ → Outcome) (n i : ℕ) → i < n → each f (n - i) i ≡ (f i ⨾ each f (n - (i + 1)) (i + 1))
each_next f n i h = ap (λ (m : ℕ). each f m i) (one_less n i h) ∙ ap (λ (j : ℕ). f i ⨾ each f (n - (i + 1)) j) (sym (add-one i))

-- it accepts, and the loop goes on
pub each-go : (f : ℕ → Outcome) (n i : ℕ) → i < n → f i ≡ accepted → each f (n - i) i ≡ each f (n - (i + 1)) (i + 1)
each-go f n i h e = each_next f n i h ∙ ap (λ (o : Outcome). o ⨾ each f (n - (i + 1)) (i + 1)) e

-- no check is left
pub each-end : (f : ℕ → Outcome) (n i : ℕ) → n ≤ i → each f (n - i) i ≡ accepted
each-end f n i h = let none : n - i ≡ 0 = omega arith in ap (λ (m : ℕ). each f m i) none

-- a refused check decides, and after an accepted one the next does
pub then-refused : (o after : Outcome) (n p : ℕ) → o ≡ refused n p → (o ⨾ after) ≡ refused n p
then-refused o after n p e = ap (λ (x : Outcome). x ⨾ after) e

pub then-accepted : (o after : Outcome) → o ≡ accepted → (o ⨾ after) ≡ after
then-accepted o after e = ap (λ (x : Outcome). x ⨾ after) e
