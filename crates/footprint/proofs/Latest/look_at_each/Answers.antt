-- `Latest::look_at_each` meets its contract. Assumes nothing.
use mathlib.Core.Path.{◌∙◌, refl}
use native.Mathlib.Omega.{arith}
use Rattle.std.proofs.Common.{Some, None}
use Rattle.footprint.proofs.Lists.{ord_max-is, begins, next, ends}
use Rattle.footprint.proofs.Latest.look_at_each.Goals as goal

pub loop-k-init : goal.loop-k-init
loop-k-init g c = (refl, begins _ _ _ _ _ (cc) (cc))

pub loop-k-preserved-in-Some-resource : goal.loop-k-preserved-in-Some-resource
loop-k-preserved-in-Some-resource g c =
    let k = c.in-Some.ensures.steps in
    let t = c.loop-k.invariant in
    (c.look_at.ensures.posts ∙ t.0, next _ _ _ _ _ t.1 k.0 (omega (arith, k.1)) k.1 (Some c.in-Some-resource.r) c.in-Some-resource.ensures (rw t.0 at c.look_at.ensures.looks) (c.max-met.ensures ∙ ord_max-is c.loop-k.met c.look_at.result))

pub loop-k-preserved : goal.loop-k-preserved
loop-k-preserved g c =
    let k = c.in-Some.ensures.steps in
    let t = c.loop-k.invariant in
    (t.0, next _ _ _ _ _ t.1 k.0 (omega (arith, k.1)) k.1 None c.in_default.ensures (record { met = refl; looks-raised = refl }) (omega arith))

pub returns-clause-looks : goal.returns-clause-looks
returns-clause-looks g c =
    ends _ _ _ _ _ c.loop-k.invariant.1 (λ some. (c.in-None.ensures.steps some).0)
