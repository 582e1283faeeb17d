-- What the same verdict may rely on of two lists of step names.
-- Assumes nothing: these are definitions.
use Rattle.std.specs.Prelude.{ℕ, ◌<◌, ◌≤◌, ◌≡◌, true, false, List, length, get_or}
use Rattle.table.specs.Promise.{WellFormed}
use Rattle.trace.specs.Machine.{Name}
use Rattle.trace.specs.Order.{before, Distinct}
use Rattle.names.specs.InByte.{name_of}
use Rattle.names.specs.Steps.{Stands}
use Rattle.names.specs.Names.{names_in}

-- the names of two schedules' steps, m of each: those of the first stand in the table, no schedule runs a step twice, and steps of one actor
-- come in one order in both
pub record Compared (table first second : List ℕ) (m : ℕ) : Type 0 where
  pub accepted : WellFormed table
  pub first-long : length first ≡ 256
  pub second-long : length second ≡ 256
  pub most : m ≤ 256
  pub stand : (i : ℕ) → i < m → Stands table (name_of (get_or first i 0))
  pub first-distinct : Distinct (names_in m first)
  pub second-distinct : Distinct (names_in m second)
  pub own-order : (x y : Name) → x.actor ≡ y.actor → before x y (names_in m first) ≡ true → before y x (names_in m second) ≡ false
