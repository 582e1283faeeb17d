-- `routing::write` meets its contract.
-- Assumes nothing.
use native.Mathlib.Omega.{arith}
use mathlib.Core.Path.{◌≡◌, refl}
use lib.ListN.{length}
use Rattle.std.proofs.lemmas.List.{length-take-le}
use Rattle.routing.proofs.Positions.{pull-length, pulled}
use Rattle.routing.proofs.write.Goals as goal

pub returns : goal.returns
returns c =
    let x = c.args in
    let long : length c.loop-k.position-items ≡ x.way = omega (arith, length-take-le x.way x.positions.now c.requires.1) in
    let all = pulled x.b x.way c.loop-k.position-items long (λ i h. c.loop-k.invariant i (omega arith)) in
    rw (pull-length x.b x.way, all) (refl, refl)
