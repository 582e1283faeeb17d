-- A name that passes the table's test is that of a step of the table.
-- Assumes nothing.
use Prim.Native.Nat.{ℕ}
use mathlib.Core.Path.{◌≡◌}
use mathlib.Core.Bool.{true}
use mathlib.Core.List.{List}
use borrow.Author.Tests.{ltb-true}
use lib.Dec.{ltb}
use Rattle.table.specs.Format.{actors_of, count_of}
use Rattle.trace.specs.Machine.{Name}
use Rattle.trace.proofs.Bools.{and_left, and_right}
use Rattle.model.specs.Calls.{in_table}
use Rattle.names.specs.Steps.{Stands}

pub in-table : (table : List ℕ) (x : Name) → in_table table x ≡ true → Stands table x
in-table table x h = (
  ltb-true _ _ (and_left (ltb x.actor (actors_of table)) (ltb x.position (count_of table x.actor)) h),
  ltb-true _ _ (and_right (ltb x.actor (actors_of table)) (ltb x.position (count_of table x.actor)) h),
)
