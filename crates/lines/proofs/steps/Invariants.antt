-- Each part is a step's line.
-- Assumes nothing.
use Rattle.lines.specs.FirstSteps.{line_at}
use Rattle.lines.proofs.steps.Given as goal

abbrev pub ghost-each : goal.ghost-each
ghost-each a = line_at a.part.0.now
