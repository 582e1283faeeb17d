-- The site of a table as a machine of the trace theory, which gives accepted, end state, exchange, chain and same; and the refusals of a schedule.
-- Assumes nothing: these are definitions.
use Rattle.std.specs.Prelude.{ℕ, suc, List, [], ◌∷◌, ltb}
use Rattle.table.specs.Outcome.{Outcome, accepted, refused, demand, ◌⨾◌}
use Rattle.table.specs.Format.{actors_of}
use Rattle.trace.specs.Machine.{Machine}
use Rattle.trace.specs.Schedule.{final}
use Rattle.model.specs.Site.{Site, initial}
use Rattle.model.specs.Step.{NextStep, taken, waiting, over, unfinished, next_step, ready, step}
use Rattle.model.specs.Pair.{depends}

-- the machine of a table: its states are sites, its pair verdict goes by the table
abbrev pub machine : List ℕ → Machine
machine table =
    record {
      State = Site;
      ready = ready table;
      step = step table;
      pos = λ s a. (s.actor a).position;
      dep = depends table;
    }

-- "end state" of a schedule from a fresh site
abbrev pub end_state : List ℕ → List ℕ → Site
end_state table schedule = final (machine table) initial schedule

-- the numbers of a schedule's refusals: no such actor; finished; the step waits; it is an Add that runs over
pub record RefusalNumbers : Type 0 where
  pub absent : ℕ
  pub finished : ℕ
  pub waiting : ℕ
  pub over : ℕ

abbrev pub first_numbers : RefusalNumbers
first_numbers = record { absent = 11; finished = 12; waiting = 13; over = 21 }

abbrev pub second_numbers : RefusalNumbers
second_numbers = record { absent = 14; finished = 15; waiting = 16; over = 22 }

-- the next step of an entry's actor, by what it is
abbrev pub check_step : RefusalNumbers → NextStep → (index : ℕ) → Outcome
check_step n taken index = accepted
check_step n waiting index = refused n.waiting index
check_step n over index = refused n.over index

module _ (n : RefusalNumbers) (table : List ℕ) where
  -- the entry at an index, in the state that the entries before it left
  abbrev pub check_entry : Site → ℕ → ℕ → Outcome
  check_entry s a index =
      demand (ltb a (actors_of table)) n.absent index
      ⨾ demand (unfinished table s a) n.finished index
      ⨾ check_step n (next_step table s a) index

  abbrev pub check_from : Site → ℕ → List ℕ → Outcome
  check_from s index [] = accepted
  check_from s index (a ∷ rest) = check_entry s a index ⨾ check_from (step table s a) (suc index) rest

  -- each entry of a schedule from a fresh site, in order
  abbrev pub check_schedule : List ℕ → Outcome
  check_schedule schedule = check_from initial 0 schedule
