-- `mutex::leave` meets its contract: nothing changes, a byte falls by 8, or those behind move up.
-- Assumes nothing.
use Rattle.mutex.proofs.Steps.{stays, lessens, leaves}
use Rattle.mutex.proofs.leave.Goals as goal

pub returns-in_default : goal.returns-in_default
returns-in_default c =
    (stays c.args.queues.now.bytes c.args.m c.args.a c.args.queues.now.room c.requires.0 c.from-n.result c.from-n.ensures c.in_default.ensures).0

pub returns-then-bytes-at-ge8 : goal.returns-then-bytes-at-ge8
returns-then-bytes-at-ge8 c =
    (lessens c.args.queues.now.bytes c.args.m c.args.a c.args.queues.now.room c.requires.0 c.from-n.result c.from-n.ensures c.in-Some.i c.in-Some.ensures c.if-bytes-at-ge8.true).0

pub returns : goal.returns
returns c =
    (leaves c.args.queues.now.bytes c.args.m c.args.a c.args.queues.now.room c.requires.0 c.from-n.result c.from-n.ensures c.in-Some.i c.in-Some.ensures c.if-bytes-at-ge8.false
    c.copy_within.new.self c.copy_within.ensures.after).0
