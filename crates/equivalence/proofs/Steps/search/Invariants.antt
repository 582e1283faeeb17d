-- The loop's invariant is `Searching`: the steps before j are passed, and cross none.
-- Assumes nothing.
use Rattle.equivalence.proofs.Searching.{Searching}
use Rattle.equivalence.proofs.Steps.search.Given as goal

abbrev pub invariant-loop-j : goal.invariant-loop-j
invariant-loop-j l = Searching l.self.table.now l.self.first.now l.self.index.now l.self.m l.latest l.pairs l.j
