-- `run_call::run` meets its contract: 10, then what the execution refuses; and only an accepted run writes. Assumes nothing.
use mathlib.Core.Path.{ap}
use native.Mathlib.Omega.{arith}
use Rattle.std.proofs.Common.{◌≡◌, Err, rules}
use Rattle.model.specs.Report.{report}
use Rattle.model.specs.Schedule.{end_state}
use Rattle.model.specs.Calls.{ready_checks, run_of}
use Rattle.model.proofs.Fills.{too_small, rest-refused, rest-accepted}
use Rattle.run_call.proofs.Reports.{report-small, reportable}
use Rattle.run_call.proofs.run.Goals as goal

pub returns-then-report-lt4514 : goal.returns-then-report-lt4514
unfolding run_of
returns-then-report-lt4514 c =
    let both = too_small 4514 10 (ready_checks c.args.table.now c.args.schedule.now) (report c.args.table.now (end_state c.args.table.now c.args.schedule.now)) c.args.report.now c.if-report-lt4514.true in
    record { answer = both.0; lent = both.1 }

pub returns-in_err-actors : goal.returns-in_err-actors
unfolding run_of
returns-in_err-actors c =
    let e : c.from_residual.result ≡ Err c.in_err-actors.field-0.0 = search rules in
    let both = rest-refused 4514 10 (ready_checks c.args.table.now c.args.schedule.now) (report c.args.table.now (end_state c.args.table.now c.args.schedule.now)) c.args.report.now c.if-report-lt4514.false c.in_err-actors.ensures in
    rw e (record { answer = both.0; lent = both.1 })

pub write-n-requires : goal.write-n-requires
write-n-requires c = reportable c.in_ok-actors.ensures c.args.report.now c.if-report-lt4514.false

pub overflow_cast-result : goal.overflow_cast-result
overflow_cast-result c = omega (arith, c.write-n.ensures.0, report-small c.in_ok-actors.ensures)

pub returns : goal.returns
unfolding run_of
returns c =
    let E = c.in_ok-actors.ensures in
    let w = c.write-n.ensures in
    let both = rest-accepted 4514 10 (ready_checks c.args.table.now c.args.schedule.now) (report c.args.table.now (end_state c.args.table.now c.args.schedule.now)) c.args.report.now _ _ _ c.if-report-lt4514.false E.checked (ap (report c.args.table.now) E.end.site) w.0 w.1 in
    record { answer = both.0; lent = both.1 }
