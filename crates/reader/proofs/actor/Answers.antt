-- `reader::actor` meets its contract: each action lies within the file, and the first one that is refused is the outcome.
-- Assumes nothing.
use mathlib.Core.Path.{◌∙◌, ap, sym}
use Prim.Native.Nat.{ℕ}
use native.Mathlib.Omega.{arith}
use Rattle.std.proofs.lemmas.Result.{err_from_is_err_and}
use Rattle.table.specs.Read.{check_of}
use Rattle.table.proofs.Readings.{each-reads}
use Rattle.reader.proofs.Room.{room}
use Rattle.reader.proofs.actor.Goals as goal

pub check-requires : goal.check-requires
check-requires c =
    let r = c.requires in
    (room c.args.t.now r.0 c.args.a _ _ c.word-first.ensures.0 r.1 (omega arith), r.2)

pub returns-in_err-check : goal.returns-in_err-check
returns-in_err-check c =
    let p = err_from_is_err_and c.from_residual.result c.from_residual.ensures.1 in
    rw (p.1, p.2)
    (sym
    (c.loop-k.invariant
    ∙ each-reads _ _ c.loop-k.k (omega arith) _
    (c.in_err-check.ensures ∙ ap (λ (first : ℕ). check_of c.args.t.now first c.loop-k.k) c.word-first.ensures.0)))
