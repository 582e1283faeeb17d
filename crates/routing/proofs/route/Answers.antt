-- `routing::route` meets its contract. The loop's invariant is `Routing`: b steps are in place, the positions that brought them there are written,
-- and what is left of the first list stands from b on. Assumes nothing.
use Rattle.routing.proofs.Turns.{begins, bringable, way-below, room, next}
use Rattle.routing.proofs.route.Goals as goal

pub loop-b-init : goal.loop-b-init
loop-b-init c = begins c.requires

pub bring-way-requires : goal.bring-way-requires
bring-way-requires c = bringable c.requires c.loop-b.invariant c.loop-b-test.true

pub write-n-requires : goal.write-n-requires
write-n-requires c =
    let t = c.loop-b in
    let more = c.loop-b-test.true in
    (way-below c.requires t.invariant more c.bring-way.ensures, room c.requires t.invariant more c.bring-way.ensures)

pub loop-b-preserved : goal.loop-b-preserved
loop-b-preserved c = next c.requires c.loop-b.invariant c.loop-b-test.true c.bring-way.ensures c.write-n.ensures
