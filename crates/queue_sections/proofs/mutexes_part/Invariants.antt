-- Each part is a mutex.
-- Assumes nothing.
use Rattle.model.specs.Report.{mutex_bytes}
use Rattle.state.specs.State.{queues_of}
use Rattle.queue_sections.proofs.mutexes_part.Given as goal

abbrev pub ghost-each : goal.ghost-each
ghost-each a = λ m. mutex_bytes (queues_of a.part.0.now.bytes m)
