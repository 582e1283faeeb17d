-- Lists of step names in bytes.
-- Assumes nothing: these are definitions.
use Rattle.std.specs.Prelude.{ℕ, List, map, take}
use Rattle.trace.specs.Machine.{Name}
use Rattle.names.specs.InByte.{name_of}

-- the first m bytes, as step names
abbrev pub names_in : ℕ → List ℕ → List Name
names_in m bytes = map name_of (take m bytes)
