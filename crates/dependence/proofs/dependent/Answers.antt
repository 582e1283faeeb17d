-- `dependence::dependent` meets its contract: the law of the codes, from what was looked up.
-- Assumes nothing.
use mathlib.Core.Path.{sym, ◌∙◌}
use native.Mathlib.Omega.{arith}
use Rattle.model.specs.Site.{name}
use Rattle.model.proofs.PairCases.{depends-own, depends-symmetric}
use Rattle.dependence.proofs.CodeLaw.{looked-up}
use Rattle.dependence.proofs.CodeRanges.{own-listed}
use Rattle.dependence.proofs.dependent.Goals as goal

pub returns-then-a-b : goal.returns-then-a-b
returns-then-a-b c =
    let x = c.args in
    sym (depends-own x.table.now (name x.a x.k) (name x.b x.l) c.if-a-b.true)

pub compare-requires : goal.compare-requires
compare-requires c =
    let x = c.args in
    let p = c.requires in
    (p.0, own-listed x.table.now p.0 (name x.b x.l) p.2 c.kind-i.result c.action-y.ensures c.kind-j.ensures c.code-code.ensures.1)

pub returns-then-number : goal.returns-then-number
returns-then-number c =
    let x = c.args in
    looked-up x.table.now x.b x.l x.a x.k
    c.action-y.result c.action-x.result
    c.kind-j.result c.kind-i.result c.code-code.result
    c.action-y.ensures c.action-x.ensures
    c.kind-j.ensures c.kind-i.ensures c.code-code.ensures.1
    (λ e. c.if-a-b.false (sym e)) (omega arith) c.compare.result c.compare.ensures
    ∙ depends-symmetric x.table.now (name x.b x.l) (name x.a x.k)

pub compare-requires-2 : goal.compare-requires-2
compare-requires-2 c =
    let x = c.args in
    let p = c.requires in
    (p.0, own-listed x.table.now p.0 (name x.a x.k) p.1 c.kind-j.result c.action-x.ensures c.kind-i.ensures c.code-code.ensures.0)

pub returns : goal.returns
returns c =
    let x = c.args in
    looked-up x.table.now x.a x.k x.b x.l
    c.action-x.result c.action-y.result
    c.kind-i.result c.kind-j.result c.code-code.result
    c.action-x.ensures c.action-y.ensures
    c.kind-i.ensures c.kind-j.ensures c.code-code.ensures.0
    c.if-a-b.false (omega arith) c.compare-2.result c.compare-2.ensures
