-- Each part is a mailbox.
-- Assumes nothing.
use Rattle.model.specs.Report.{box_bytes}
use Rattle.queue_sections.specs.Parts.{queue_of}
use Rattle.queue_sections.proofs.boxes_part.Given as goal

abbrev pub ghost-each : goal.ghost-each
ghost-each a = λ m. box_bytes (queue_of a.part.0.now.log a.part.0.now.ends m)
