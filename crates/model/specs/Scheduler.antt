-- Makers of schedules: one turn after another, by a rule that says whose it is, until nobody is ready. The entries go into a lent buffer. Document 02's
-- W4 gives the first rule, and W14 another.
-- Assumes nothing: these are definitions.
use Rattle.std.specs.Prelude.{ℕ, zero, suc, Bool, cond, List, [], ◌∷◌, eqb, leb, length}
use Rattle.table.specs.Outcome.{Outcome, demand, ◌⨾◌}
use Rattle.table.specs.Format.{actors_of}
use Rattle.table.specs.Read.{read_of}
use Rattle.model.specs.Site.{Site, initial}
use Rattle.model.specs.Step.{ready, step}
use Rattle.model.specs.Ready.{ready_count}
use Rattle.model.specs.Calls.{Filled, fills}

-- a rule: whose turn it is, by a number that it keeps from turn to turn and by which of so many actors are ready; and the number that it keeps
-- after the turn of an actor
pub record Rule : Type 0 where
  pub chooses : (kept : ℕ) (is_ready : ℕ → Bool) (actors : ℕ) → ℕ
  pub keeps : (kept actor : ℕ) → ℕ

-- refusal 23: a buffer must have room for this many entries, which no accepted schedule passes
abbrev pub schedule_room : ℕ
schedule_room = 256

module _ (rule : Rule) (table : List ℕ) where
  -- the actor whose turn it is in a state
  abbrev pub turn_of : Site → (kept : ℕ) → ℕ
  turn_of s kept = rule.chooses kept (ready table s) (actors_of table)

  -- the entries from a state on: the actor of each turn, until nobody is ready. The bound is there for the recursion alone: nobody is ready before it
  -- is reached (`Scheduled`)
  abbrev pub entries_from : (bound : ℕ) → Site → (kept : ℕ) → List ℕ
  entries_from zero s kept = []
  entries_from (suc bound) s kept =
      cond (eqb (ready_count table s) 0) []
      (turn_of s kept ∷ entries_from bound (step table s (turn_of s kept)) (rule.keeps kept (turn_of s kept)))

  -- the schedule made from a fresh site, where the rule begins with a number
  unfoldable pub made_from : (start : ℕ) → List ℕ
  made_from start = entries_from schedule_room initial start

-- 23, then 1 to 9
abbrev pub maker_checks : (table buffer : List ℕ) → Outcome
maker_checks table buffer = demand (leb schedule_room (length buffer)) 23 0 ⨾ read_of table

-- the number of entries, and the lent bytes with the entries in front
abbrev pub maker_of : Rule → (table : List ℕ) (start : ℕ) (buffer : List ℕ) → Filled
maker_of rule table start buffer = fills (maker_checks table buffer) (made_from rule table start) buffer
