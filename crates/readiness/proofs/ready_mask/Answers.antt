-- `readiness::ready_mask` meets its contract: each turn puts an actor's bit below those that stand.
-- Assumes nothing.
use Rattle.std.proofs.Common.{◌≡◌, ◌∙◌, ap, sym, ℕ, ◌-◌, arith}
use Rattle.table.specs.Format.{actors_of}
use Rattle.model.specs.Step.{ready}
use Rattle.model.specs.Ready.{mask_of}
use Rattle.state.specs.State.{site_of}
use Rattle.readiness.proofs.Laws.{as_bit, bit_most, room-left, in_table, looked, one_more, mask_end, mask-alike}
use Rattle.readiness.proofs.ready_mask.Goals as goal
use Rattle.readiness.proofs.ready_mask.Goals.{then-is_known, else-is_known}

pub overflow_mul-m : goal.overflow_mul-m
overflow_mul-m c = omega (arith, room-left c.requires.0 c.requires.1 c.args.site.now c.loop-i.invariant c.loop-i-test.true c.loop-i.auto.i)

pub overflow_add-m : goal.overflow_add-m
overflow_add-m c =
    omega (arith, room-left c.requires.0 c.requires.1 c.args.site.now c.loop-i.invariant c.loop-i-test.true c.loop-i.auto.i, c.from.ensures ∙ as_bit c.if-is_known.ready, bit_most c.if-is_known.ready)

-- whether the actor is ready: known to be, or looked at
right : (c : goal.After-from) → c.if-is_known.ready ≡ ready c.args.table.now (site_of c.args.actors c.args.site.now) (c.loop-i.i - 1)
right c =
    elim c.if-is_known.branch [
      | then-is_known w ↦ let known = c.is_known.ensures w.if-is_known.true in w.ready-is ∙ w.if-is_known.true ∙ sym (c.requires.2 (c.loop-i.i - 1) known.0 known.1)
      | else-is_known w ↦ w.ready-is ∙ looked c.requires.0 c.requires.1 c.args.site.now w.index-actors-i.result (in_table c.args.table.now c.requires.1 c.loop-i-test.true c.loop-i.auto.i) w.is_ready-ready.ensures.held
    ]

pub loop-i-preserved : goal.loop-i-preserved
loop-i-preserved c =
    one_more c.requires.0 c.requires.1 c.args.site.now c.loop-i.invariant c.loop-i-test.true c.loop-i.auto.i (c.from.ensures ∙ as_bit c.if-is_known.ready) (right c)

pub returns : goal.returns
returns c =
    let site = c.args.site.now in
    let f = ready c.args.table.now (site_of c.args.actors site) in
    let right : c.loop-i.m ≡ mask_of f (actors_of c.args.table.now) 0 =
    c.loop-i.invariant ∙ mask_end f c.args.n c.loop-i.i c.loop-i-test.false ∙ ap (λ (n : ℕ). mask_of f n 0) c.requires.1 in
    record { held = right; alike = λ log ends journal. right ∙ mask-alike c.args.table.now c.args.actors site log ends journal }
