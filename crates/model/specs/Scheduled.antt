-- What a made schedule is, by whatever rule it is made: `proofs/Scheduled.antt` proves it of every rule that chooses an actor who is ready.
-- Assumes nothing: these are definitions.
use Rattle.std.specs.Prelude.{ℕ, ◌≤◌, ◌≡◌, ◌⊎◌, List, length, take}
use Rattle.model.specs.Site.{initial}
use Rattle.model.specs.Ready.{finished, stuck, ReadyAnswer, ending}
use Rattle.model.specs.Schedule.{end_state}
use Rattle.model.specs.Calls.{gives, Filled, ready_of}
use Rattle.model.specs.Bound.{action_count}
use Rattle.model.specs.Demand3.{Accepted}
use Rattle.model.specs.Scheduler.{Rule, schedule_room, entries_from, made_from}

pub record Scheduled (rule : Rule) (table : List ℕ) (start : ℕ) : Type 0 where
  -- it is accepted from a fresh site
  pub taken : Accepted table (made_from rule table start)
  -- its end is finished or stuck
  pub ended : (ending table (end_state table (made_from rule table start)) ≡ finished) ⊎ (ending table (end_state table (made_from rule table start)) ≡ stuck)
  -- it has at most as many entries as the table has actions, so at most 256
  pub most : length (made_from rule table start) ≤ action_count table
  pub room : action_count table ≤ schedule_room
  -- the bound in the definition does not matter: every bound from the number of actions on gives these entries
  pub any-bound : (bound : ℕ) → action_count table ≤ bound → entries_from rule table bound initial start ≡ made_from rule table start

-- the same, told by the calls: a maker that answers n has left the schedule in the first n entries lent to it, and for these the call ready gives an
-- answer, finished or stuck
pub record Told (table schedule : List ℕ) (filled : Filled) (n : ℕ) : Type 0 where
  pub entries : take n filled.lent ≡ schedule
  pub now : ReadyAnswer
  pub readies : ready_of table (take n filled.lent) ≡ gives now
  pub ended : (now.ending ≡ finished) ⊎ (now.ending ≡ stuck)
