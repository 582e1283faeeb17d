-- A search through the numbers below n: what it finds, and what it has shown where it finds nothing.
-- Assumes nothing.
use Prim.Native.Nat.{ℕ, zero, suc, ◌<◌}
use native.Mathlib.Nat.{le_of_suc-le-suc, not-suc-le-zero, eq-or-lt_of_le}
use native.Mathlib.Omega.{arith}
use mathlib.Core.Path.{◌≡◌, refl, ◌∙◌, ap}
use mathlib.Core.Logic.{◌⊎◌, inl, inr}
use mathlib.Core.Bool.{Bool, true, false, ◌||◌, false≢true}
use Rattle.trace.proofs.Bools.{contrary, is_false, or_left, or_right, or_cases, or-crosswise}

abbrev pub any_below : (ℕ → Bool) → ℕ → Bool
any_below f zero = false
any_below f (suc n) = any_below f n || f n

pub some_below : (f : ℕ → Bool) (n i : ℕ) → i < n → f i ≡ true → any_below f n ≡ true
some_below f zero i h t = absurd (not-suc-le-zero h)
some_below f (suc n) i h t = go (eq-or-lt_of_le (le_of_suc-le-suc h)) (some_below f n i)
  where
    go : (i ≡ n) ⊎ (i < n) → (i < n → f i ≡ true → any_below f n ≡ true) → any_below f (suc n) ≡ true
    go (inl e) rest = or_right (any_below f n) (f n) (rw e at t)
    go (inr l) rest = or_left (any_below f n) (f n) (rest l t)

pub below-some : (f : ℕ → Bool) (n : ℕ) → any_below f n ≡ true → (i : ℕ) × (i < n) × (f i ≡ true)
below-some f zero h = absurd (false≢true h)
below-some f (suc n) h = go (or_cases (any_below f n) (f n) h) (below-some f n)
  where
    go : (any_below f n ≡ true) ⊎ (f n ≡ true) → (any_below f n ≡ true → (i : ℕ) × (i < n) × (f i ≡ true))
        → (i : ℕ) × (i < suc n) × (f i ≡ true)
    go (inl s) rest = let r = rest s in (r.0, omega (arith, r.1), r.2)
    go (inr t) rest = (n, omega arith, t)

pub none_below : (f : ℕ → Bool) (n : ℕ) → ((i : ℕ) → i < n → f i ≡ false) → any_below f n ≡ false
none_below f n none = is_false _ (λ t. let r = below-some f n t in contrary r.2 (none r.0 r.1))

pub below_none : (f : ℕ → Bool) (n : ℕ) → any_below f n ≡ false → (i : ℕ) → i < n → f i ≡ false
below_none f n h i l = is_false _ (λ t. contrary (some_below f n i l t) h)

-- tests that agree below n
pub below_alike : (f g : ℕ → Bool) (n : ℕ) → ((i : ℕ) → i < n → f i ≡ g i) → any_below f n ≡ any_below g n
below_alike f g zero alike = refl
below_alike f g (suc n) alike =
    let before : any_below f n ≡ any_below g n = below_alike f g n (λ i h. alike i (omega arith)) in
    let here : f n ≡ g n = alike n (omega arith) in
    λ k. before k || here k

-- one of two tests
pub below-either : (f g : ℕ → Bool) (n : ℕ) → any_below (λ i. f i || g i) n ≡ (any_below f n || any_below g n)
below-either f g zero = refl
below-either f g (suc n) =
    ap (λ (b : Bool). b || (f n || g n)) (below-either f g n) ∙ or-crosswise (any_below f n) (any_below g n) (f n) (g n)
