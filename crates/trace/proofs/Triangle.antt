-- How many pairs of entries i < j so many entries have, summed up entry by entry: it is m · (m − 1) / 2, and a pair's number tells the pair.
-- Assumes nothing.
use Prim.Native.Nat.{ℕ, zero, suc, ◌+◌, ◌*◌, ◌-◌, ◌/◌, ◌<◌, ◌≤◌}
use native.Mathlib.Nat.{le_of_suc-le-suc, not-suc-le-zero, eq-or-lt_of_le}
use native.Mathlib.Omega.{arith}
use mathlib.Core.Path.{◌≡◌}
use mathlib.Core.Logic.{◌⊎◌, inl, inr}
use mathlib.Core.Bool.{true, false}
use borrow.Author.Tests.{ltb-true, ltb-false}
use lib.Dec.{ltb}
use Rattle.trace.proofs.Bools.{which}

abbrev pub triangle : ℕ → ℕ
triangle zero = 0
triangle (suc j) = triangle j + j

down : (n : ℕ) → suc n - 1 ≡ n
down n = omega arith

doubled-next : (n t : ℕ) → t * 2 ≡ n * (n - 1) → (t + n) * 2 ≡ suc n * (suc n - 1)
doubled-next zero t h = omega arith
doubled-next (suc n) t h =
    let e : t * 2 ≡ suc n * n = rw (down n) at h in
    rw (down (suc n)) (omega arith)

doubled : (m : ℕ) → triangle m * 2 ≡ m * (m - 1)
doubled zero = omega arith
doubled (suc m) = doubled-next m (triangle m) (doubled m)

pub triangle-is : (m : ℕ) → triangle m ≡ m * (m - 1) / 2
triangle-is m = omega (arith, doubled m)

-- each entry more adds as many as stand before it
rises : (l j : ℕ) → j < l → triangle j + j ≤ triangle l
rises zero j h = absurd (not-suc-le-zero h)
rises (suc l) j h = go (eq-or-lt_of_le (le_of_suc-le-suc h)) (rises l j)
  where
    go : (j ≡ l) ⊎ (j < l) → (j < l → triangle j + j ≤ triangle l) → triangle j + j ≤ triangle (suc l)
    go (inl e) rest = rw e (omega arith)
    go (inr less) rest = let r = rest less in omega arith

-- no number is that of two pairs
pub one-pair : (i j k l : ℕ) → i < j → k < l → triangle j + i ≡ triangle l + k → (i ≡ k) × (j ≡ l)
one-pair i j k l h h' e = go (which (ltb j l)) (which (ltb l j))
  where
    go : (ltb j l ≡ true) ⊎ (ltb j l ≡ false) → (ltb l j ≡ true) ⊎ (ltb l j ≡ false) → (i ≡ k) × (j ≡ l)
    go (inl less) w = absurd (omega (arith, rises l j (ltb-true j l less)))
    go (inr f) (inl less) = absurd (omega (arith, rises j l (ltb-true l j less)))
    go (inr f) (inr g) =
        let same : j ≡ l = omega (arith, ltb-false j l f, ltb-false l j g) in
        let e' : triangle l + i ≡ triangle l + k = rw same at e in
        (omega (arith, e'), same)

-- and each number is that of some pair
pub some_pair : (m n : ℕ) → n < triangle m → (i : ℕ) × (j : ℕ) × (i < j) × (j < m) × (n ≡ triangle j + i)
some_pair zero n h = absurd (not-suc-le-zero h)
some_pair (suc m) n h = go (which (ltb n (triangle m))) (some_pair m n)
  where
    go : (ltb n (triangle m) ≡ true) ⊎ (ltb n (triangle m) ≡ false)
        → (n < triangle m → (i : ℕ) × (j : ℕ) × (i < j) × (j < m) × (n ≡ triangle j + i))
        → (i : ℕ) × (j : ℕ) × (i < j) × (j < suc m) × (n ≡ triangle j + i)
    go (inl t) rest = let r = rest (ltb-true n (triangle m) t) in (r.0, r.1, r.2, omega (arith, r.3), r.4)
    go (inr f) rest =
        let over : triangle m ≤ n = ltb-false n (triangle m) f in
        (n - triangle m, m, omega arith, omega arith, omega arith)
