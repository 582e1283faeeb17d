-- A test of a list's numbers, and what holds of each of them.
-- Assumes nothing.
use Prim.Native.Nat.{ℕ, zero, suc, ◌<◌}
use native.Mathlib.Nat.{le_of_suc-le-suc, not-suc-le-zero}
use mathlib.Core.Path.{◌≡◌, refl, ap}
use mathlib.Core.Bool.{Bool, ◌||◌}
use mathlib.Core.List.{List, [], ◌∷◌}
use lib.ListN.{length, get_or}
use Rattle.std.specs.List.{list_any}
use Rattle.model.specs.Pair.{any_of}
use Rattle.names.specs.Steps.{Each}

-- the library's word for a test that some number passes
pub any-listed : (f : ℕ → Bool) (l : List ℕ) → list_any f l ≡ any_of f l
any-listed f [] = refl
any-listed f (k ∷ l) = ap (λ (b : Bool). f k || b) (any-listed f l)

pub each-at : (P : ℕ → Type 0) (l : List ℕ) (k d : ℕ) → Each P l → k < length l → P (get_or l k d)
each-at P [] k d e h = absurd (not-suc-le-zero h)
each-at P (x ∷ l) zero d e h = e.0
each-at P (x ∷ l) (suc k) d e h = each-at P l k d e.1 (le_of_suc-le-suc h)
