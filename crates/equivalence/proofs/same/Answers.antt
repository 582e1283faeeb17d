-- `equivalence::same` meets its contract: the names are looked up, and then the pairs are searched.
-- Assumes nothing.
use Rattle.equivalence.proofs.Verdict.{names-differ, names-placed, names-agree}
use Rattle.equivalence.proofs.same.Goals as goal

pub returns-then-lacks : goal.returns-then-lacks
returns-then-lacks c =
    let x = c.args in
    names-differ x.table.now x.first.now x.second.now x.m c.requires c.indexed-index.result c.indexed-index.ensures
    c.lacks.result c.lacks.ensures c.if-lacks.true

pub invariant_of-steps : goal.invariant_of-steps
invariant_of-steps c =
    let x = c.args in
    record {
      placed =
          names-placed x.table.now x.first.now x.second.now x.m c.requires c.indexed-index.result c.indexed-index.ensures
          c.lacks.result c.lacks.ensures c.if-lacks.false;
    }

pub returns : goal.returns
returns c =
    let x = c.args in
    names-agree x.table.now x.first.now x.second.now x.m c.requires c.indexed-index.result c.indexed-index.ensures
    c.lacks.result c.lacks.ensures c.if-lacks.false _ c.search.ensures
