-- `mutex::owner` meets its contract.
-- Assumes nothing.
use Rattle.std.proofs.Common.{◌∙◌, ap, eqb}
use Rattle.mutex.proofs.Owning.{owner-first}
use Rattle.mutex.proofs.owner.Goals as goal

pub returns-then-bytes-size-ne0 : goal.returns-then-bytes-size-ne0
returns-then-bytes-size-ne0 c =
    ap (eqb c.args.a) c.from.ensures ∙ owner-first c.args.queues.now.bytes c.args.m c.args.a c.args.queues.now.room c.requires c.if-bytes-size-ne0.true
