-- The actors from a on are as good as all of them.
-- Assumes nothing.
use Prim.Native.Nat.{◌-◌}
use mathlib.Core.Path.{◌≡◌}
use Rattle.table.specs.Outcome.{each}
use Rattle.table.specs.Format.{actors_of}
use Rattle.table.specs.Read.{actor_of}
use Rattle.reader.proofs.actions.Given as goal

abbrev pub invariant-loop-a : goal.invariant-loop-a
invariant-loop-a l = each (actor_of l.t) (actors_of l.t) 0 ≡ each (actor_of l.t) (actors_of l.t - l.a) l.a
