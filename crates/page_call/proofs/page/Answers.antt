-- `page_call::page` meets its contract: 20, then what the execution refuses; and only an accepted page writes. Assumes nothing.
use mathlib.Core.Path.{ap}
use native.Mathlib.Omega.{arith}
use Rattle.std.proofs.Common.{◌≡◌, Err, rules}
use Rattle.model.specs.Schedule.{end_state}
use Rattle.model.specs.Calls.{ready_checks}
use Rattle.model.specs.Page.{page, page_of}
use Rattle.model.proofs.Fills.{too_small, rest-refused, rest-accepted}
use Rattle.page_call.proofs.Pages.{page-small, pageable}
use Rattle.page_call.proofs.page.Goals as goal

pub returns-then-buffer-lt816 : goal.returns-then-buffer-lt816
unfolding page_of
returns-then-buffer-lt816 c =
    let both = too_small 816 20 (ready_checks c.args.table.now c.args.schedule.now) (page c.args.table.now (end_state c.args.table.now c.args.schedule.now)) c.args.buffer.now c.if-buffer-lt816.true in
    record { answer = both.0; lent = both.1 }

pub returns-in_err-actors : goal.returns-in_err-actors
unfolding page_of
returns-in_err-actors c =
    let e : c.from_residual.result ≡ Err c.in_err-actors.field-0.0 = search rules in
    let both = rest-refused 816 20 (ready_checks c.args.table.now c.args.schedule.now) (page c.args.table.now (end_state c.args.table.now c.args.schedule.now)) c.args.buffer.now c.if-buffer-lt816.false c.in_err-actors.ensures in
    rw e (record { answer = both.0; lent = both.1 })

pub write-n-requires : goal.write-n-requires
write-n-requires c = pageable c.in_ok-actors.ensures (λ j. omega (arith, c.type_inv.table j)) c.args.buffer.now c.if-buffer-lt816.false

pub overflow_cast-result : goal.overflow_cast-result
overflow_cast-result c = omega (arith, c.write-n.ensures.held.0, page-small c.in_ok-actors.ensures (λ j. omega (arith, c.type_inv.table j)))

pub returns : goal.returns
unfolding page_of
returns c =
    let E = c.in_ok-actors.ensures in
    let w = c.write-n.ensures.held in
    let both = rest-accepted 816 20 (ready_checks c.args.table.now c.args.schedule.now) (page c.args.table.now (end_state c.args.table.now c.args.schedule.now)) c.args.buffer.now _ _ _ c.if-buffer-lt816.false E.checked (ap (page c.args.table.now) E.end.site) w.0 w.1 in
    record { answer = both.0; lent = both.1 }
