-- What the functions of the route promise one another.
-- Assumes nothing: these are definitions.
use Rattle.std.specs.Prelude.{ℕ, ◌≡◌, List, map, length, drop}
use Rattle.trace.specs.Route.{place, remove, route_from}
use Rattle.names.specs.InByte.{name_of}
use Rattle.names.specs.Names.{names_in}

-- the route between the first m names of two lists
abbrev pub route_in : List ℕ → List ℕ → ℕ → List ℕ
route_in first second m = route_from 0 (names_in m first) (names_in m second)

-- y is at the front of what was left, and behind it is the rest without it; so many stood before y
pub record Brought (left now : List ℕ) (y way : ℕ) : Type 0 where
  pub long : length now ≡ length left
  pub before : way ≡ place (name_of y) (map name_of left)
  pub behind : map name_of (drop 1 now) ≡ remove (name_of y) (map name_of left)
