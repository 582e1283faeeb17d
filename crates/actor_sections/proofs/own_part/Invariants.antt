-- Each part is an action.
-- Assumes nothing.
use Rattle.model.specs.Site.{name}
use Rattle.model.specs.Report.{comm_bytes}
use Rattle.state.specs.State.{comms_of}
use Rattle.actor_sections.proofs.own_part.Given as goal

abbrev pub ghost-each : goal.ghost-each
ghost-each a = λ k. comm_bytes (comms_of a.part.0.now.comms (name a.part.1.now k))
