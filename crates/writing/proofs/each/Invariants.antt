-- The loop's invariant: the first k parts are written.
-- Assumes nothing.
use Rattle.writing.proofs.Loops.{Turn}
use Rattle.writing.proofs.each.Given as goal

abbrev pub invariant-loop-k : goal.invariant-loop-k
invariant-loop-k g l = Turn g.bytes l.n l.initial.buf l.k l.buf l.at
