-- `writing::each` meets its contract. Assumes nothing.
use Rattle.writing.proofs.Loops.{next-room, next-turn}
use Rattle.writing.proofs.each.Goals as goal

pub part-at-requires : goal.part-at-requires
part-at-requires g c = c.requires.1.1.0 c.loop-k.k _ c.loop-k-test.true (next-room c.loop-k.invariant c.loop-k-test.true)

pub loop-k-preserved : goal.loop-k-preserved
loop-k-preserved g c = next-turn c.loop-k.invariant c.loop-k-test.true (c.requires.1.1.1 c.loop-k.k _ _ _ c.loop-k-test.true c.part-at.ensures)
