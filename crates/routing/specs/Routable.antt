-- What the route may rely on of two lists of step names.
-- Assumes nothing: these are definitions.
use Rattle.std.specs.Prelude.{ℕ, ◌≤◌, ◌≡◌, true, List, length}
use Rattle.trace.specs.Order.{within, Distinct}
use Rattle.trace.specs.Route.{route_from}
use Rattle.names.specs.Names.{names_in}

-- two lists of the same m names, and room for the positions that turn the first into the second
pub record Routable (first second : List ℕ) (m : ℕ) (positions : List ℕ) : Type 0 where
  pub first-long : length first ≡ 256
  pub second-long : length second ≡ 256
  pub most : m ≤ 256
  pub first-distinct : Distinct (names_in m first)
  pub second-distinct : Distinct (names_in m second)
  pub in-second : within (names_in m first) (names_in m second) ≡ true
  pub in-first : within (names_in m second) (names_in m first) ≡ true
  pub room : length (route_from 0 (names_in m first) (names_in m second)) ≤ length positions
