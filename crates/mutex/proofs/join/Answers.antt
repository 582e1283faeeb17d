-- `mutex::join` meets its contract: a byte rises by 8, or one more is stored.
-- Assumes nothing.
use native.Mathlib.Omega.{arith}
use Rattle.mutex.proofs.Steps.{deeper-fits, deepens, enters}
use Rattle.mutex.proofs.join.Goals as goal

pub overflow_add-bytes-in-Some : goal.overflow_add-bytes-in-Some
overflow_add-bytes-in-Some c =
    omega (arith, deeper-fits c.args.queues.now.bytes c.args.m c.args.a c.args.queues.now.room c.requires.0 c.from-n.result c.from-n.ensures c.in-Some.i c.in-Some.ensures c.requires.3)

pub returns-in-Some : goal.returns-in-Some
returns-in-Some c =
    (deepens c.args.queues.now.bytes c.args.m c.args.a c.args.queues.now.room c.requires.0 c.from-n.result c.from-n.ensures c.in-Some.i c.in-Some.ensures).0

pub returns-in-None : goal.returns-in-None
returns-in-None c =
    (enters c.args.queues.now.bytes c.args.m c.args.a c.args.queues.now.room c.requires.0 c.from-n.result c.from-n.ensures c.in-None.ensures c.requires.1 c.requires.2).0
