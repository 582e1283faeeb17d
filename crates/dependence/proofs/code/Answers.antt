-- `dependence::code` meets its contract: the table passes the test over its entries, which computes.
-- Assumes nothing.
use Rattle.dependence.specs.Codes.{code_of}
use Rattle.dependence.proofs.CodeTable.{straight, turned}
use Rattle.dependence.proofs.code.Goals as goal

pub returns : goal.returns
unfolding code_of
returns c =
    let x = c.args in
    (rw (straight x.i x.j c.number.ensures c.number-2.ensures), rw (turned x.i x.j c.number.ensures c.number-2.ensures))
