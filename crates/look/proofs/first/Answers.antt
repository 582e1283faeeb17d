-- `look::first` meets its contract. Assumes nothing.
use Rattle.std.proofs.Common.{◌≡◌, ◌∙◌, ap, ℕ, ◌+◌, arith}
use Rattle.model.specs.Local.{seen}
use Rattle.look.proofs.Looking.{next, finds, ends}
use Rattle.look.proofs.first.Goals as goal

pub loop-i-preserved : goal.loop-i-preserved
loop-i-preserved g c =
    let k = c.in-Some.ensures.steps in next _ _ c.loop-i.invariant _ _ _ k.0.0 k.0.1 k.2 c.in_default.ensures

pub returns-in-Some-look : goal.returns-in-Some-look
returns-in-Some-look g c =
    let k = c.in-Some.ensures.steps in
    let place : c.in-Some.i + 1 ≡ c.loop-i.i-iterator.count + 1 = omega arith in
    λ test value gives.
    ap (λ (p : ℕ). seen p c.in-Some.number.now c.in-Some-look.value) place
    ∙ finds _ _ c.loop-i.invariant _ _ _ k.0.0 k.0.1 c.in-Some-look.value c.in-Some-look.ensures test value gives

pub returns : goal.returns
returns g c = ends _ _ c.loop-i.invariant (λ some. (c.in-None.ensures.steps.0 some).0)
