-- Each part is an actor's line.
-- Assumes nothing.
use Rattle.page.specs.Parts.{line_at}
use Rattle.page.proofs.lines.Given as goal

abbrev pub ghost-each : goal.ghost-each
ghost-each a = line_at a.part.0.now a.part.1.now a.part.2.now
