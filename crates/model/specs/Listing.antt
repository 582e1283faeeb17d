-- The listing of a run, as bytes: a line per step, then the ending; a refused run has only the line of its refusal.
-- Assumes nothing: these are definitions.
use Rattle.std.specs.Prelude.{ℕ, ◌≡◌, List, [], ◌∷◌, ◌++◌, take}
use Rattle.table.specs.Outcome.{Outcome, accepted, refused}
use Rattle.trace.specs.Machine.{Name}
use Rattle.trace.specs.Schedule.{names}
use Rattle.model.specs.Site.{initial}
use Rattle.model.specs.Ready.{Ending, finished, stuck, going, ending}
use Rattle.model.specs.Text.{ascii, decimal, space, line}
use Rattle.model.specs.Schedule.{machine, end_state}
use Rattle.model.specs.Calls.{ready_checks}

-- ---- the words

abbrev pub ending_word : Ending → List ℕ
ending_word finished = ascii "finished"
ending_word stuck = ascii "stuck"
ending_word going = ascii "going"

abbrev pub end_text : Ending → List ℕ
end_text e = ascii "end " ++ ending_word e

abbrev pub refused_text : (number position : ℕ) → List ℕ
refused_text number position = (ascii "refused " ++ decimal number) ++ (ascii " at " ++ decimal position)

-- a step's actor and action with a space between
abbrev pub step_text : Name → List ℕ
step_text x = decimal x.actor ++ (space ∷ decimal x.position)

-- ---- the listing

abbrev pub step_lines : List Name → List ℕ
step_lines [] = []
step_lines (x ∷ l) = line (step_text x) ++ step_lines l

-- the lines of a run that is accepted
abbrev pub run_lines : (table schedule : List ℕ) → List ℕ
run_lines table schedule =
    step_lines (names (machine table) initial schedule) ++ line (end_text (ending table (end_state table schedule)))

-- the lines, where the checks accept
abbrev pub lines_of : Outcome → List ℕ → List ℕ
lines_of accepted lines = lines
lines_of (refused number position) lines = line (refused_text number position)

-- the run's checks are ready's, since a listing has no report buffer: 1 to 9, then 11 to 13 and 21
unfoldable pub listing_of : (table schedule : List ℕ) → List ℕ
listing_of table schedule = lines_of (ready_checks table schedule) (run_lines table schedule)

-- ---- the files' beginnings are enough

-- so much of a file decides: a longer table is refused, and so is a longer schedule, at the latest at entry 256
abbrev pub table_read : ℕ
table_read = 2085

abbrev pub schedule_read : ℕ
schedule_read = 257

abbrev pub BeginningsDecide : Type 0
BeginningsDecide =
    (table schedule : List ℕ) → listing_of (take table_read table) (take schedule_read schedule) ≡ listing_of table schedule
