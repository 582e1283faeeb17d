-- The actions from k on are as good as all of them.
-- Assumes nothing.
use Prim.Native.Nat.{◌-◌}
use mathlib.Core.Path.{◌≡◌}
use Rattle.table.specs.Outcome.{each}
use Rattle.table.specs.Format.{offset_of, count_of}
use Rattle.table.specs.Read.{check_of}
use Rattle.reader.proofs.actor.Given as goal

abbrev pub invariant-loop-k : goal.invariant-loop-k
invariant-loop-k l =
    each (check_of l.t (offset_of l.t l.a)) (count_of l.t l.a) 0 ≡ each (check_of l.t (offset_of l.t l.a)) (count_of l.t l.a - l.k) l.k
