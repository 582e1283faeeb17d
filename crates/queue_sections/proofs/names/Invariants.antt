-- Each part is a step's name.
-- Assumes nothing.
use Rattle.queue_sections.specs.Parts.{name_at}
use Rattle.queue_sections.proofs.names.Given as goal

abbrev pub ghost-each : goal.ghost-each
ghost-each a = name_at a.part.0.now.log a.part.1.now
