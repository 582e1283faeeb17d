-- The loop's invariant: the steps passed have moved back by one, behind y, and the next one is carried.
-- Assumes nothing.
use Rattle.routing.proofs.TakenOut.{Moving}
use Rattle.routing.proofs.bring.Given as goal

abbrev pub invariant-loop-x : goal.invariant-loop-x
invariant-loop-x l = Moving l.fn.y l.initial.x-items l.x-items l.carry l.x-index
