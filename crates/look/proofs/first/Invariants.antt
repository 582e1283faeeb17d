-- The loop's invariant: none of the numbers that have been looked at has a value.
-- Assumes nothing.
use Rattle.look.proofs.Looking.{Looking}
use Rattle.look.proofs.first.Given as goal

abbrev pub invariant-loop-i : goal.invariant-loop-i
invariant-loop-i g l = Looking l.fn.list (goal.F-post g l.look) l.i-iterator.count l.i-iterator.iter.n l.i-iterator.iter.iter.rest.now
