-- The lines of a run's first steps, by the bytes that hold their names.
-- Assumes nothing: these are definitions.
use Rattle.std.specs.Prelude.{ℕ, List, map, take, get_or}
use Rattle.model.specs.Text.{line}
use Rattle.model.specs.Listing.{step_text, step_lines}
use Rattle.names.specs.InByte.{name_of}

abbrev pub first_steps : (names : List ℕ) → ℕ → List ℕ
first_steps names n = step_lines (map name_of (take n names))

-- the line of a step, from the byte that holds its name; that of step i
abbrev pub step_line : ℕ → List ℕ
step_line x = line (step_text (name_of x))

abbrev pub line_at : (names : List ℕ) → ℕ → List ℕ
line_at names i = step_line (get_or names i 0)
