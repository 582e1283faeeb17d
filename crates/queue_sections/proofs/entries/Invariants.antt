-- Each part is an entry.
-- Assumes nothing.
use Rattle.queue_sections.specs.Parts.{entry_at}
use Rattle.queue_sections.proofs.entries.Given as goal

abbrev pub ghost-each : goal.ghost-each
ghost-each a = entry_at a.part.0.now.bytes a.part.1.now
