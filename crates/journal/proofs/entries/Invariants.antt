-- Each part is an entry.
-- Assumes nothing.
use Rattle.journal.specs.Parts.{six_at}
use Rattle.journal.proofs.entries.Given as goal

abbrev pub ghost-each : goal.ghost-each
ghost-each a = six_at a.part.0.now
