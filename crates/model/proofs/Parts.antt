-- Parts one after another.
-- Assumes nothing.
use Prim.Native.Nat.{ℕ, zero, suc, ◌+◌, ◌*◌, ◌<◌, ◌≤◌}
use native.Mathlib.Omega.{arith}
use mathlib.Core.Path.{◌≡◌, refl}
use mathlib.Core.List.{List, ◌++◌}
use lib.ListN.{length, length-append}
use Rattle.model.specs.Report.{parts}

-- the same parts
pub parts_same : (f g : ℕ → List ℕ) (n k : ℕ) → ((j : ℕ) → k ≤ j → j < k + n → f j ≡ g j) → parts f n k ≡ parts g n k
parts_same f g zero k h = refl
parts_same f g (suc n) k h =
    λ i. h k (omega arith) (omega arith) i ++ parts_same f g n (suc k) (λ j a b. h j (omega arith) (omega arith)) i

-- parts of one length
pub equal-parts : (f : ℕ → List ℕ) (m n k : ℕ) → ((j : ℕ) → k ≤ j → j < k + n → length (f j) ≡ m) → length (parts f n k) ≡ m * n
equal-parts f m zero k h = omega arith
equal-parts f m (suc n) k h =
    omega (arith, length-append (f k) (parts f n (suc k)), h k (omega arith) (omega arith), equal-parts f m n (suc k) (λ j a b. h j (omega arith) (omega arith)))
