-- `ready_call::ready` meets its contract: it is refused as the execution is, and the answer is that of the end state. Assumes nothing.
use Rattle.std.proofs.Common.{◌≡◌, Err, rules}
use Rattle.ready_call.proofs.ReadyOutcomes.{ready_refused, ready-given}
use Rattle.ready_call.proofs.ready.Goals as goal

pub returns-in_err-actors : goal.returns-in_err-actors
returns-in_err-actors c =
    let e : c.from_residual.result ≡ Err c.in_err-actors.field-0.0 = search rules in
    rw e (ready_refused c.args.table.now c.args.schedule.now _ _ c.in_err-actors.ensures)

pub returns : goal.returns
returns c =
    let E = c.in_ok-actors.ensures in
    ready-given c.args.table.now c.args.schedule.now _ _ E.end.site E.checked c.answer.ensures.held
