-- `lines::step` meets its contract: the actor, a space and the action. Assumes nothing.
use mathlib.Core.Path.{◌∙◌, ap}
use mathlib.Core.List.{List}
use Prim.Native.Nat.{ℕ}
use lib.ListN.{get_or}
use Rattle.lines.proofs.Wordings.{wrote-step}
use Rattle.lines.proofs.step.Goals as goal

pub returns : goal.returns
returns c =
    let d = c.decimal-at in
    let p = c.ended in
    wrote-step c.args.buf.now d.new.buf p.new.buf c.args.name c.from.result c.from-2.result d.result p.result
    (c.from.ensures ∙ ap (λ (l : List ℕ). get_or l 0 0) c.name.ensures) (c.from-2.ensures ∙ ap (λ (l : List ℕ). get_or l 1 0) c.name.ensures) d.ensures p.ensures
