-- Each part is an actor's actions.
-- Assumes nothing.
use Rattle.table.specs.Format.{count_of}
use Rattle.actor_sections.specs.Parts.{own_bytes}
use Rattle.actor_sections.proofs.actions_part.Given as goal

abbrev pub ghost-each : goal.ghost-each
ghost-each a = λ i. own_bytes a.part.0.now.comms i (count_of a.part.1.now i)
