-- A step's name in one byte.
-- Assumes nothing: these are definitions.
use Rattle.std.specs.Prelude.{ℕ, ◌/◌, ◌%◌}
use Rattle.trace.specs.Machine.{Name}
use Rattle.model.specs.Site.{name}

-- 32 · actor + action
abbrev pub name_of : ℕ → Name
name_of n = name (n / 32) (n % 32)
