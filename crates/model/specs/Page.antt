-- The page of a state: a line for each actor of the table, in columns; and the outcome of the page call for every input (document 02, W1
-- and W2).
-- Assumes nothing: these are definitions.
use Rattle.std.specs.Prelude.{ℕ, cond, List, ◌∷◌, ◌++◌, leb, length, get_or}
use Rattle.table.specs.Outcome.{Outcome, demand, ◌⨾◌}
use Rattle.table.specs.Format.{actors_of}
use Rattle.table.specs.Read.{read_of}
use Rattle.model.specs.Site.{Actor, Site}
use Rattle.model.specs.Step as Step
use Rattle.model.specs.Report.{parts}
use Rattle.model.specs.Text.{ascii, decimal, space, left, right, line}
use Rattle.model.specs.Schedule.{end_state, first_numbers, check_schedule}
use Rattle.model.specs.Calls.{Filled, fills}

-- ---- the status

pub data Status : Type 0 where
  ready waits over finished : Status

abbrev pub step_status : Step.NextStep → Status
step_status Step.taken = ready
step_status Step.waiting = waits
step_status Step.over = over

-- of an actor of the table: finished, or by its next step
abbrev pub status_of : (table : List ℕ) → Site → ℕ → Status
status_of table s a = cond (Step.unfinished table s a) (step_status (Step.next_step table s a)) finished

abbrev pub status_word : Status → List ℕ
status_word ready = ascii "ready"
status_word waits = ascii "waits"
status_word over = ascii "over"
status_word finished = ascii "finished"

-- ---- the page

-- eight cells, each a space and 10 columns, to the right
abbrev pub cells_text : List ℕ → List ℕ
cells_text cells = parts (λ c. space ∷ right 10 (decimal (get_or cells c 0))) 8 0

-- the actor in 1 column; a space and its position in 2, to the right; a space and its status in 8, to the left; its cells
abbrev pub actor_text : ℕ → Actor → Status → List ℕ
actor_text a r status =
    right 1 (decimal a)
    ++ ((space ∷ right 2 (decimal r.position))
    ++ ((space ∷ left 8 (status_word status))
    ++ cells_text r.cells))

-- one line for each actor of the table
unfoldable pub page : (table : List ℕ) → Site → List ℕ
page table s = parts (λ a. line (actor_text a (s.actor a) (status_of table s a))) (actors_of table) 0

-- ---- the call

-- refusal 20: a page buffer must have this many bytes, which no page passes
abbrev pub page_room : ℕ
page_room = 816

-- 20, then 1 to 9, then 11 to 13 and 21, entry by entry
abbrev pub page_checks : (table schedule buffer : List ℕ) → Outcome
page_checks table schedule buffer =
    demand (leb page_room (length buffer)) 20 0 ⨾ read_of table ⨾ check_schedule first_numbers table schedule

-- the number of bytes laid out, and the lent bytes with the page in front
unfoldable pub page_of : (table schedule buffer : List ℕ) → Filled
page_of table schedule buffer = fills (page_checks table schedule buffer) (page table (end_state table schedule)) buffer
