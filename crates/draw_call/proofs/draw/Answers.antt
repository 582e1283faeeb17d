-- `draw_call::draw` meets its contract: the scheduler's, of the policy that draws from the seed. Assumes nothing.
use mathlib.Core.Path.{◌∙◌, ap₂}
use Prim.Native.Nat.{ℕ}
use Rattle.model.specs.Scheduler.{Rule, maker_of}
use Rattle.model.specs.Draw.{draw_of}
use Rattle.draw_call.proofs.draw.Goals as goal

pub returns : goal.returns
unfolding draw_of
returns c =
    let x = c.args in
    let policy = c.drawn.ensures in
    let called = c.schedule.ensures in
    record {
      answer = called.answer ∙ ap₂ (λ (rule : Rule) (k : ℕ). (maker_of rule x.table.now k x.schedule.now).result) policy.0 policy.1;
      lent = called.lent ∙ ap₂ (λ (rule : Rule) (k : ℕ). (maker_of rule x.table.now k x.schedule.now).lent) policy.0 policy.1;
    }
