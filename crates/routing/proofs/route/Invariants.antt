-- The loop's invariant.
-- Assumes nothing.
use Rattle.routing.proofs.Turns.{Routing}
use Rattle.routing.proofs.route.Given as goal

abbrev pub invariant-loop-b : goal.invariant-loop-b
invariant-loop-b l = Routing l.first l.second l.m l.initial.positions l.rest l.positions l.n l.b
