-- What running a schedule takes and leaves.
-- Assumes nothing: these are definitions.
use Rattle.std.specs.Prelude.{ℕ, ◌≤◌, ◌≡◌, Result, MatchResult, List, map, length, take}
use Rattle.table.specs.Outcome.{accepted}
use Rattle.table.specs.Promise.{WellFormed}
use Rattle.trace.specs.Schedule.{names}
use Rattle.model.specs.Site.{initial}
use Rattle.model.specs.Schedule.{machine, end_state, RefusalNumbers, check_schedule}
use Rattle.model.specs.Scheduler.{made_from}
use Rattle.names.specs.InByte.{name_of}
use Rattle.state.specs.declared.Actor.{Actor}
use Rattle.state.specs.declared.arrays.Site.{Site as Arrays}
use Rattle.state.specs.State.{site_of, Empty}
use Rattle.answers.specs.declared.Stop.{Stop}
use Rattle.answers.specs.Answers.{stop_of}
use Rattle.policy.specs.Parts.{rule_of, kept_of}
use Rattle.policy.specs.declared.Policy.{Policy}
use Rattle.lead.specs.declared.Lead.{Lead}
use Rattle.lead.specs.declared.Lead.TheVariants.{Lent, Made}
use Rattle.play.specs.declared.Played.{Played}

-- an accepted table, a fresh site, and an array for the names
pub record Fresh (table : List ℕ) (arrays : Arrays) (names' : List ℕ) : Type 0 where
  pub accepted : WellFormed table
  pub empty : Empty arrays
  pub names-long : length names' ≡ 256

-- the schedule that a policy makes; and the one that is played, lent or made
abbrev pub schedule_by : List ℕ → Policy → List ℕ
schedule_by table policy = made_from (rule_of policy) table (kept_of policy)

abbrev pub played_by : List ℕ → Lead → List ℕ
played_by table (Lent schedule) = schedule.now
played_by table (Made policy) = schedule_by table policy

-- the end state, in arrays
pub record Ended (table schedule : List ℕ) (arrays : Arrays) (names' : List ℕ) (actors : List Actor) : Type 0 where
  pub site : site_of actors arrays ≡ end_state table schedule
  pub actors-long : length actors ≡ 8
  pub entries-most : length schedule ≤ 256
  pub names-long : length names' ≡ 256
  pub names-right : map name_of (take (length schedule) names') ≡ names (machine table) initial schedule

-- the schedule was played to its end: it is accepted, as many steps as entries were run, and the arrays hold the end state
pub record Through (table schedule : List ℕ) (arrays : Arrays) (names' : List ℕ) (played : Played) : Type 0 where
  pub checked : (n : RefusalNumbers) → check_schedule n table schedule ≡ accepted
  pub counted : played.steps ≡ length schedule
  pub ended : Ended table schedule arrays names' played.actors

-- it was played to its end, or stopped as its check refuses it
abbrev pub PlayedRight : (table schedule : List ℕ) (arrays : Arrays) (names' : List ℕ) → Result Played Stop → Type 0
PlayedRight table schedule arrays names' r =
    MatchResult r (Through table schedule arrays names') (λ stop. (n : RefusalNumbers) → check_schedule n table schedule ≡ stop_of n stop)
