-- The route: the positions of a chain from one schedule to another that is the same. For each step of the second schedule in turn, that step is
-- pulled to its place through the steps that stand before it.
-- Assumes nothing: these are definitions.
use Rattle.std.specs.Prelude.{ℕ, zero, suc, ◌+◌, cond, List, [], ◌∷◌, ◌++◌}
use Rattle.trace.specs.Machine.{Machine, Name}
use Rattle.trace.specs.Schedule.{names}
use Rattle.trace.specs.Order.{eq_name}

-- how many entries stand before y
abbrev pub place : Name → List Name → ℕ
place y [] = zero
place y (x ∷ u) = cond (eq_name y x) zero (suc (place y u))

-- the list without y
abbrev pub remove : Name → List Name → List Name
remove y [] = []
remove y (x ∷ u) = cond (eq_name y x) u (x ∷ remove y u)

-- the positions that bring entry b + k to place b: b + k - 1 down to b
abbrev pub pull : ℕ → ℕ → List ℕ
pull b zero = []
pull b (suc k) = (b + k) ∷ pull b k

-- the route from u to v, where b entries before them are in place already
abbrev pub route_from : ℕ → List Name → List Name → List ℕ
route_from b u [] = []
route_from b u (y ∷ v) = pull b (place y u) ++ route_from (suc b) (remove y u) v

unfoldable pub route : (M : Machine) → M.State → List ℕ → List ℕ → List ℕ
route M s p q = route_from 0 (names M s p) (names M s q)
