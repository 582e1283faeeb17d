-- `equivalence::indexed` meets its contract.
-- Assumes nothing.
use Rattle.equivalence.proofs.Places.{index-begins}
use Rattle.equivalence.proofs.indexed.Goals as goal

pub loop-i-init : goal.loop-i-init
loop-i-init c = index-begins c.args.second.now
