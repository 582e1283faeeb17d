-- The route call: its refusals, and what is promised of its answer. Which chain it chooses is free.
-- Assumes nothing: these are definitions.
use Rattle.std.specs.Prelude.{ℕ, ◌≤◌, ◌*◌, ◌-◌, ◌/◌, ◌≡◌, List, leb, length, take, drop}
use Rattle.table.specs.Outcome.{Outcome, accepted, refused, demand, ◌⨾◌}
use Rattle.trace.specs.Chain.{Chain, replay}
use Rattle.trace.specs.Same.{equivalent}
use Rattle.model.specs.Site.{initial}
use Rattle.model.specs.Schedule.{machine}
use Rattle.model.specs.Calls.{Result, gives, refuses, same_checks}

-- the most exchanges that a route between schedules of length m has
abbrev pub most_exchanges : ℕ → ℕ
most_exchanges m = m * (m - 1) / 2

-- as same, then 19 where the schedules differ, then 18 where the buffer is too small
abbrev pub route_checks : (table first second buffer : List ℕ) → Outcome
route_checks table first second buffer =
    same_checks table first second
    ⨾ demand (equivalent (machine table) initial first second) 19 0
    ⨾ demand (leb (most_exchanges (length first)) (length buffer)) 18 0

-- the first n entries of the buffer are a route from the first schedule to the second: a chain of exchanges, so that replaying it turns the
-- first into the second. The entries after it keep what they held
pub record RouteWritten (table first second before after : List ℕ) (n : ℕ) : Type 0 where
  pub bounded : n ≤ most_exchanges (length first)
  pub size : length after ≡ length before
  pub chain : Chain (machine table) initial (take n after) first second
  pub replays : replay (take n after) first ≡ second
  pub kept : drop n after ≡ drop n before

-- a right answer of the route call with the buffer after it, by its checks: a refusal with its number and position, and nothing changed; or a
-- route's length, and that route written
abbrev pub RightAnswer : Outcome → (table first second before after : List ℕ) → Result ℕ → Type 0
RightAnswer (refused number position) table first second before after result = (result ≡ refuses number position) × (after ≡ before)
RightAnswer accepted table first second before after result =
    (n : ℕ) × (result ≡ gives n) × RouteWritten table first second before after n

abbrev pub RightRoute : (table first second before after : List ℕ) → Result ℕ → Type 0
RightRoute table first second before after result =
    RightAnswer (route_checks table first second before) table first second before after result
