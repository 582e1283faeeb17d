-- `listing::write` meets its contract: it is refused as the execution is, and the lines are those of the steps run and of the ending.
-- Assumes nothing.
use mathlib.Core.Path.{◌∙◌, ap}
use Rattle.model.specs.Ready.{ready_answer}
use Rattle.execution.proofs.Ends.{answerable}
use Rattle.listing.proofs.Outcomes.{wrote-refusal, wrote-run, held-long}
use Rattle.listing.proofs.write.Goals as goal

pub answer-now-requires : goal.answer-now-requires
answer-now-requires c = answerable c.in-Ok.ensures

pub run-requires : goal.run-requires
run-requires c =
    let E = c.in-Ok.ensures.end in
    (held-long c.args.table.now c.args.schedule.now _ E.names-right, E.entries-most, c.requires)

pub returns-in-Ok : goal.returns-in-Ok
returns-in-Ok c =
    let E = c.in-Ok.ensures in
    let w = c.run in
    record {
      wrote =
          wrote-run c.args.table.now c.args.schedule.now c.args.out.now w.new.buf w.result c.execute.new.names c.answer-now.result E.checked E.end.names-right
          (c.answer-now.ensures.held ∙ ap (ready_answer c.args.table.now) E.end.site)
          w.ensures.wrote;
      upper_bound = w.ensures.upper_bound;
    }

pub returns-in-Err : goal.returns-in-Err
returns-in-Err c =
    let w = c.refused in
    let both = wrote-refusal c.args.table.now c.args.schedule.now c.args.out.now w.new.buf w.result c.number.result c.position.result
    c.in-Err.ensures c.number.ensures c.position.ensures (w.ensures.wrote, w.ensures.upper_bound) in
    record { wrote = both.0; upper_bound = both.1 }
