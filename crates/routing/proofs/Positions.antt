-- The positions from b + way - 1 down to b.
-- Assumes nothing.
use Prim.Native.Nat.{ℕ, zero, suc, ◌+◌, ◌-◌, ◌<◌}
use native.Mathlib.Omega.{arith}
use mathlib.Core.Path.{◌≡◌, refl, ◌∙◌, ap, ap₂}
use mathlib.Core.List.{List, [], ◌∷◌}
use lib.ListN.{length, get_or}
use Rattle.trace.specs.Route.{pull}

pub pull-length : (b way : ℕ) → length (pull b way) ≡ way
pull-length b zero = refl
pull-length b (suc k) = ap suc (pull-length b k)

-- the list that has them one by one
pub pulled : (b way : ℕ) (l : List ℕ) → length l ≡ way → ((i : ℕ) → i < way → get_or l i 0 ≡ b + way - 1 - i) → l ≡ pull b way
pulled b zero [] e at = refl
pulled b zero (x ∷ l) e at = absurd (omega (arith, e))
pulled b (suc k) [] e at = absurd (omega (arith, e))
pulled b (suc k) (x ∷ l) e at =
    let first : x ≡ b + k = at 0 (omega arith) ∙ omega arith in
    ap₂ {C = List ℕ} (λ p r. p ∷ r) first (pulled b k l (omega (arith, e)) (λ i h. at (suc i) (omega arith) ∙ omega arith))
