-- Sums and counts over a range: their bounds, and what they have in common.
-- Assumes nothing.
use Prim.Native.Nat.{ℕ, zero, suc, ◌+◌, ◌*◌, ◌≤◌, ◌<◌}
use native.Mathlib.Omega.{arith}
use mathlib.Core.Path.{◌≡◌, refl, ap}
use mathlib.Core.Logic.{◌⊎◌, inl, inr, ◌≢◌}
use mathlib.Core.Bool.{Bool, true, false}
use mathlib.Core.List.{List}
use lib.Dec.{eqb}
use borrow.Author.Tests.{eqb-true, eqb-false, ne_eqb}
use lib.ListN.{length, length-append}
use Rattle.trace.proofs.Bools.{which, or_left, or_right}
use Rattle.trace.proofs.Count.{one_at_most}
use Rattle.model.specs.Ready.{bit, how_many}
use Rattle.model.specs.Report.{parts}
use Rattle.model.specs.Bound.{sum_of, some}

-- ---- sums

pub sum-le : (f g : ℕ → ℕ) (n k : ℕ) → ((j : ℕ) → k ≤ j → j < k + n → f j ≤ g j) → sum_of f n k ≤ sum_of g n k
sum-le f g zero k h = omega arith
sum-le f g (suc n) k h =
    omega (arith, h k (omega arith) (omega arith), sum-le f g n (suc k) (λ j a b. h j (omega arith) (omega arith)))

-- each number at most c
pub sum-most : (f : ℕ → ℕ) (c n k : ℕ) → ((j : ℕ) → k ≤ j → j < k + n → f j ≤ c) → sum_of f n k ≤ c * n
sum-most f c zero k h = omega arith
sum-most f c (suc n) k h =
    omega (arith, h k (omega arith) (omega arith), sum-most f c n (suc k) (λ j a b. h j (omega arith) (omega arith)))

pub sum-add : (f g : ℕ → ℕ) (n k : ℕ) → sum_of (λ j. f j + g j) n k ≡ sum_of f n k + sum_of g n k
sum-add f g zero k = refl
sum-add f g (suc n) k = omega (arith, sum-add f g n (suc k))

pub sum-times : (c : ℕ) (f : ℕ → ℕ) (n k : ℕ) → sum_of (λ j. c * f j) n k ≡ c * sum_of f n k
sum-times c f zero k = omega arith
sum-times c f (suc n) k = omega (arith, sum-times c f n (suc k))

pub length-parts : (f : ℕ → List ℕ) (n k : ℕ) → length (parts f n k) ≡ sum_of (λ j. length (f j)) n k
length-parts f zero k = refl
length-parts f (suc n) k = omega (arith, length-append (f k) (parts f n (suc k)), length-parts f n (suc k))

-- ---- counts

pub how_many-most : (f : ℕ → Bool) (n k : ℕ) → how_many f n k ≤ n
how_many-most f zero k = omega arith
how_many-most f (suc n) k = omega (arith, one_at_most (f k), how_many-most f n (suc k))

-- one test more
count-last : (f : ℕ → Bool) (n k : ℕ) → how_many f (suc n) k ≡ how_many f n k + bit (f (k + n))
count-last f zero k = let here : k ≡ k + 0 = omega arith in omega (arith, ap (λ (j : ℕ). bit (f j)) here)
count-last f (suc n) k =
    let there : suc k + n ≡ k + suc n = omega arith in
    omega (arith, count-last f n (suc k), ap (λ (j : ℕ). bit (f j)) there)

pub count-more : (f : ℕ → Bool) (n k : ℕ) → how_many f n k ≤ how_many f (suc n) k
count-more f n k = omega (arith, count-last f n k)

pub count_next : (f : ℕ → Bool) (n : ℕ) → f n ≡ true → suc (how_many f n 0) ≤ how_many f (suc n) 0
count_next f n e =
    let here : 0 + n ≡ n = omega arith in
    omega (arith, count-last f n 0, ap (λ (j : ℕ). bit (f j)) here, ap bit e)

-- one of the tests that are counted holds
pub counted-one : (f : ℕ → Bool) (n k : ℕ) → 0 < how_many f n k → (j : ℕ) × (k ≤ j) × (j < k + n) × (f j ≡ true)
counted-one f zero k h = absurd (omega arith)
counted-one f (suc n) k h = go (which (f k)) (counted-one f n (suc k))
  where
    go : (f k ≡ true) ⊎ (f k ≡ false) → (0 < how_many f n (suc k) → (j : ℕ) × (suc k ≤ j) × (j < suc k + n) × (f j ≡ true))
        → (j : ℕ) × (k ≤ j) × (j < k + suc n) × (f j ≡ true)
    go (inl e) rest = (k, omega arith, omega arith, e)
    go (inr e) rest = let r = rest (omega (arith, ap bit e)) in (r.0, omega (arith, r.1), omega (arith, r.2), r.3)

-- a number that passes the test
pub some_of : (f : ℕ → Bool) (n k j : ℕ) → k ≤ j → j < k + n → f j ≡ true → some f n k ≡ true
some_of f zero k j a b h = absurd (omega arith)
some_of f (suc n) k j a b h = go (which (eqb j k)) (λ e. some_of f n (suc k) j e (omega arith) h)
  where
    go : (eqb j k ≡ true) ⊎ (eqb j k ≡ false) → (suc k ≤ j → some f n (suc k) ≡ true) → some f (suc n) k ≡ true
    go (inl e) rest = or_left (f k) (some f n (suc k)) (rw (eqb-true j k e) at h)
    go (inr e) rest =
        let ne : j ≢ k = eqb-false j k e in
        or_right (f k) (some f n (suc k)) (rest (omega arith))

-- of the numbers from k on, a lower one is met nowhere, and any one at most once
none_below : (c n k : ℕ) → c < k → sum_of (λ m. bit (eqb c m)) n k ≡ 0
none_below c zero k h = refl
none_below c (suc n) k h = rw (ne_eqb c k (omega arith)) (omega (arith, none_below c n (suc k) (omega arith)))

pub one_place : (c n k : ℕ) → sum_of (λ m. bit (eqb c m)) n k ≤ 1
one_place c zero k = omega arith
one_place c (suc n) k = go (which (eqb c k)) (one_place c n (suc k))
  where
    go : (eqb c k ≡ true) ⊎ (eqb c k ≡ false) → sum_of (λ m. bit (eqb c m)) n (suc k) ≤ 1 → sum_of (λ m. bit (eqb c m)) (suc n) k ≤ 1
    go (inl e) rest =
        let here : c ≡ k = eqb-true c k e in
        omega (arith, one_at_most (eqb c k), none_below c n (suc k) (omega arith))
    go (inr e) rest = rw e (omega arith)
