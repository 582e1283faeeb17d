-- `routing::bring` meets its contract: the step's place is found, and the steps before it are moved.
-- Assumes nothing.
use native.Mathlib.Omega.{arith}
use mathlib.Core.Path.{◌≡◌, refl}
use borrow.Author.Tests.{tests}
use Rattle.std.proofs.Common.{rules, nat_eq, Some}
use Rattle.std.proofs.lemmas.Iterator.{YieldsList-from_slice}
use Rattle.std.proofs.lemmas.Iterator.Search.{position_from_yields_List}
use Rattle.routing.proofs.TakenOut.{place_in, found, moves, brought}
use Rattle.routing.proofs.bring.Goals as goal

pub unwrap-way-requires : goal.unwrap-way-requires
unwrap-way-requires c =
    let x = c.args in
    let e = found x.y x.left.now c.position.result c.requires
    (position_from_yields_List (λ b. nat_eq b x.y) _ _ c.position.result c.position.ensures.ran (YieldsList-from_slice x.left.now cc) (λ b t q k. search (rules, tests))) in
    rw e refl

pub loop-x-init : goal.loop-x-init
loop-x-init c = record { moved = refl; carried = refl }

pub loop-x-preserved : goal.loop-x-preserved
loop-x-preserved c = moves c.loop-x.invariant c.loop-x-test.true

pub returns : goal.returns
returns c =
    let x = c.args in
    let e : c.position.result ≡ Some (place_in x.y x.left.now) = found x.y x.left.now c.position.result c.requires
    (position_from_yields_List (λ b. nat_eq b x.y) _ _ c.position.result c.position.ensures.ran (YieldsList-from_slice x.left.now cc) (λ b t q k. search (rules, tests))) in
    brought x.left.now c.unwrap-way.result c.loop-x.x-index c.requires (cc) c.loop-x.invariant (omega arith)
