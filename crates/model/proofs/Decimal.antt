-- Decimal numbers: a number below 10 is its digit, any other its tenth and then its last digit; and how many digits there are.
-- Assumes nothing.
use mathlib.Core.Path.{◌≡◌, refl, sym, ◌∙◌, ap, subst}
use mathlib.Core.Bool.{true, false}
use mathlib.Core.Logic.{◌⊎◌, inl, inr}
use mathlib.Core.List.{List, [], ◌∷◌, ◌++◌}
use Prim.Native.Nat.{ℕ, zero, suc, ◌*◌, ◌/◌, ◌%◌, ◌^◌, ◌<◌, ◌≤◌}
use native.Mathlib.Nat.{pow-succ'}
use native.Mathlib.Omega.{arith}
use borrow.Author.Tests.{ltb-true, ltb-false}
use lib.Dec.{ltb}
use lib.ListN.{length, length-append}
use Rattle.trace.proofs.Bools.{which}
use Rattle.model.specs.Text.{digit, digits, decimal}

none : (most : ℕ) → digits most 0 ≡ []
none zero = refl
none (suc most) = refl

-- room for more digits than there are changes nothing
enough : (f g n : ℕ) → n ≤ f → n ≤ g → digits f n ≡ digits g n
enough zero g n h k = let z : n ≡ 0 = omega arith in sym (ap (digits g) z ∙ none g)
enough (suc f) zero n h k = let z : n ≡ 0 = omega arith in ap (digits (suc f)) z
enough (suc f) (suc g) zero h k = refl
enough (suc f) (suc g) (suc n) h k = ap (λ (l : List ℕ). l ++ (digit (suc n % 10) ∷ [])) (enough f g (suc n / 10) (omega arith) (omega arith))

-- the digits of a number that is not 0 are the number in decimal
all_digits : (most n : ℕ) → 0 < n → n ≤ most → digits most n ≡ decimal n
all_digits most zero h k = absurd (omega arith)
all_digits zero (suc n) h k = absurd (omega arith)
all_digits (suc most) (suc n) h k = ap (λ (l : List ℕ). l ++ (digit (suc n % 10) ∷ [])) (enough most (suc n) (suc n / 10) (omega arith) (omega arith))

pub decimal-small : (n : ℕ) → n < 10 → decimal n ≡ digit n ∷ []
decimal-small n h =
    let tens : n / 10 ≡ 0 = omega arith in
    let last : n % 10 ≡ n = omega arith in
    rw (tens, last, none n)

pub decimal-more : (n : ℕ) → 10 ≤ n → decimal n ≡ decimal (n / 10) ++ (digit (n % 10) ∷ [])
decimal-more n h = ap (λ (l : List ℕ). l ++ (digit (n % 10) ∷ [])) (all_digits n (n / 10) (omega arith) (omega arith))

tenth : (m n : ℕ) → n < 10 * m → n / 10 < m
tenth m n h = omega arith

-- a number below 10^(k + 1) has at most k + 1 digits
pub decimal-most : (k n : ℕ) → n < 10 * 10 ^ k → length (decimal n) ≤ suc k
decimal-most zero n h = rw (decimal-small n (omega arith)) (omega arith)
decimal-most (suc k) n h = go (which (ltb n 10)) (λ big. decimal-most k (n / 10) (tenth (10 * 10 ^ k) n (subst (λ (m : ℕ). n < 10 * m) (pow-succ' 10 k) h)))
  where
    go : (ltb n 10 ≡ true) ⊎ (ltb n 10 ≡ false) → (10 ≤ n → length (decimal (n / 10)) ≤ suc k) → length (decimal n) ≤ suc (suc k)
    go (inl e) more = rw (decimal-small n (ltb-true n 10 e)) (omega arith)
    go (inr e) more =
        let big : 10 ≤ n = ltb-false n 10 e in
        rw (decimal-more n big, length-append) (omega (arith, more big))

-- numbers of 32 bits
pub ten-digits : (n : ℕ) → n < 2 ^ 32 → length (decimal n) ≤ 10
ten-digits n h = decimal-most 9 n (omega arith)
