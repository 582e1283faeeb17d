-- The steps of a table, by their names.
-- Assumes nothing: these are definitions.
use Rattle.std.specs.Prelude.{ℕ, ◌<◌, List, [], ◌∷◌}
use Rattle.table.specs.Format.{actors_of, count_of}
use Rattle.trace.specs.Machine.{Name}

-- the table has the step
abbrev pub Stands : List ℕ → Name → Type 0
Stands table x = (x.actor < actors_of table) × (x.position < count_of table x.actor)

-- every number in a list is right
abbrev pub Each : (ℕ → Type 0) → List ℕ → Type 0
Each P [] = Unit {0}
Each P (k ∷ l) = P k × Each P l
