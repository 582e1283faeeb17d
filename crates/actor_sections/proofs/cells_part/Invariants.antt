-- Each part is a cell.
-- Assumes nothing.
use lib.ListN.{get_or}
use Rattle.model.specs.Report.{long}
use Rattle.actor_sections.proofs.cells_part.Given as goal

abbrev pub ghost-each : goal.ghost-each
ghost-each a = λ c. long (get_or a.part.0.now c 0)
