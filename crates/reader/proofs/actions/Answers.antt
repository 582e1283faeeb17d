-- `reader::actions` meets its contract: the first actor that is refused is the outcome.
-- Assumes nothing.
use mathlib.Core.Path.{◌∙◌, sym}
use native.Mathlib.Omega.{arith}
use Rattle.std.proofs.lemmas.Result.{err_from_is_err_and}
use Rattle.table.specs.Format.{actors_of}
use Rattle.table.specs.Read.{actor_of}
use Rattle.table.proofs.Checks.{each-begin}
use Rattle.table.proofs.Readings.{each-reads}
use Rattle.reader.proofs.actions.Goals as goal

pub loop-a-init : goal.loop-a-init
loop-a-init c = let t = c.args.t.now in each-begin (actor_of t) (actors_of t)

pub returns-in_err-actor : goal.returns-in_err-actor
returns-in_err-actor c =
    let p = err_from_is_err_and c.from_residual.result c.from_residual.ensures.1 in
    rw (p.1, p.2) (sym (c.loop-a.invariant ∙ each-reads _ _ c.loop-a.a (omega arith) _ c.in_err-actor.ensures))
