-- Each part is an actor.
-- Assumes nothing.
use Rattle.model.specs.Report.{actor_bytes}
use Rattle.state.specs.State.{records_of}
use Rattle.actor_sections.proofs.actors_part.Given as goal

abbrev pub ghost-each : goal.ghost-each
ghost-each a = λ i. actor_bytes (records_of a.part.0.now i)
