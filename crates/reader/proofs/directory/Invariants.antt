-- Where actor a's actions have to begin, and that the entries from a on are as good as all of them.
-- Assumes nothing.
use Prim.Native.Nat.{◌-◌}
use mathlib.Core.Path.{◌≡◌}
use Rattle.table.specs.Outcome.{each}
use Rattle.table.specs.Format.{actors_of, due_of}
use Rattle.table.specs.Read.{entry_of}
use Rattle.reader.proofs.directory.Given as goal

abbrev pub invariant-loop-a : goal.invariant-loop-a
invariant-loop-a l = (l.due ≡ due_of l.t l.a) × (each (entry_of l.t) (actors_of l.t) 0 ≡ each (entry_of l.t) (actors_of l.t - l.a) l.a)
