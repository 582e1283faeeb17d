-- What the writers of actors and actions promise.
-- Assumes nothing: these are definitions.
use Rattle.std.specs.Prelude.{ℕ, List}
use Rattle.table.specs.Format.{count_of}
use Rattle.model.specs.Site.{name}
use Rattle.model.specs.Report.{parts, actor_bytes, comm_bytes}
use Rattle.state.specs.declared.Actor.{Actor}
use Rattle.state.specs.State.{records_of, comms_of}

-- the sections, from the arrays: the first n actors, the first n actions of one, and those of the first n actors
abbrev pub actors_bytes : List Actor → ℕ → List ℕ
actors_bytes actors n = parts (λ a. actor_bytes (records_of actors a)) n 0

abbrev pub own_bytes : (comms : List ℕ) → ℕ → ℕ → List ℕ
own_bytes comms actor n = parts (λ k. comm_bytes (comms_of comms (name actor k))) n 0

abbrev pub actions_bytes : (table comms : List ℕ) → ℕ → List ℕ
actions_bytes table comms n = parts (λ a. own_bytes comms a (count_of table a)) n 0
