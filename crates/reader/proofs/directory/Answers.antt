-- `reader::directory` meets its contract: the first entry that is refused is the outcome.
-- Assumes nothing.
use mathlib.Core.Path.{◌∙◌, sym}
use native.Mathlib.Omega.{arith}
use Rattle.std.proofs.lemmas.Result.{err_from_is_err_and}
use Rattle.table.proofs.Checks.{then-accepted}
use Rattle.table.proofs.Readings.{each-reads}
use Rattle.reader.proofs.directory.Goals as goal

pub returns-in_err-due : goal.returns-in_err-due
returns-in_err-due c =
    let p = err_from_is_err_and c.from_residual-in_err-due.result c.from_residual-in_err-due.ensures.1 in
    let room = rw c.from-actors.ensures at c.in_ok-demand.ensures in
    rw (p.1, p.2)
    (then-accepted _ _ (sym room) ∙ c.loop-a.invariant.1 ∙ each-reads _ _ c.loop-a.a (omega arith) _ (sym c.in_err-due.ensures))
