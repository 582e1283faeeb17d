-- The loop's invariant: the index has the places of the first i bytes.
-- Assumes nothing.
use Rattle.equivalence.specs.Parts.{Indexed}
use Rattle.equivalence.proofs.indexed.Given as goal

abbrev pub invariant-loop-i : goal.invariant-loop-i
invariant-loop-i l = Indexed l.second l.i l.index
