-- `readiness::answer` meets its contract: the mask is the state's, its ones are the actors that are ready, and the tests say the ending.
-- Assumes nothing.
use Rattle.std.proofs.Common.{refl, ◌∙◌, ap, sym, ℕ}
use borrow.Author.Tests.{eq-eqb, ne_eqb}
use lib.Count.{ones}
use Rattle.state.specs.State.{journal_of}
use Rattle.readiness.specs.Parts.{everyone_finished}
use Rattle.answers.specs.declared.Ending.TheVariants as case
use Rattle.readiness.proofs.Laws.{answer-right}
use Rattle.readiness.proofs.answer.Goals as goal

pub returns-then-all_finished : goal.returns-then-all_finished
returns-then-all_finished c =
    let site = c.args.site.now in
    let right =
    answer-right c.args.table.now c.args.actors site
    (record { mask = c.ready_mask-mask.result; count = ones c.ready_mask-mask.result; ending = case.Finished })
    (c.ready_mask-mask.ensures.held)
    refl
    (rw (sym (c.all_finished.ensures ∙ ap (λ (n : ℕ). everyone_finished c.args.table.now n c.args.actors) c.actors-n.ensures) ∙ c.if-all_finished.true)) in
    record { held = right site.mail.log site.mail.ends (journal_of site.journal); alike = right }

pub returns-then-count-eq0 : goal.returns-then-count-eq0
returns-then-count-eq0 c =
    let site = c.args.site.now in
    let right =
    answer-right c.args.table.now c.args.actors site
    (record { mask = c.ready_mask-mask.result; count = ones c.ready_mask-mask.result; ending = case.Stuck })
    (c.ready_mask-mask.ensures.held)
    refl
    (rw (sym (c.all_finished.ensures ∙ ap (λ (n : ℕ). everyone_finished c.args.table.now n c.args.actors) c.actors-n.ensures) ∙ c.if-all_finished.false, eq-eqb _ _ c.if-count-eq0.true)) in
    record { held = right site.mail.log site.mail.ends (journal_of site.journal); alike = right }

pub returns-else-count-eq0 : goal.returns-else-count-eq0
returns-else-count-eq0 c =
    let site = c.args.site.now in
    let right =
    answer-right c.args.table.now c.args.actors site
    (record { mask = c.ready_mask-mask.result; count = ones c.ready_mask-mask.result; ending = case.Going })
    (c.ready_mask-mask.ensures.held)
    refl
    (rw (sym (c.all_finished.ensures ∙ ap (λ (n : ℕ). everyone_finished c.args.table.now n c.args.actors) c.actors-n.ensures) ∙ c.if-all_finished.false, ne_eqb _ _ c.if-count-eq0.false)) in
    record { held = right site.mail.log site.mail.ends (journal_of site.journal); alike = right }
