-- The draws of `specs/DrawExamples.antt`: one proof, by computation.
-- Assumes nothing.
use mathlib.Core.Path.{refl}
use Rattle.table.specs.Decode.{decode_as}
use Rattle.table.specs.Read.{read_of}
use Rattle.model.specs.Site.{initial}
use Rattle.model.specs.Local.{cells_after}
use Rattle.model.specs.Step.{ready, step}
use Rattle.model.specs.Ready.{ready_answer}
use Rattle.model.specs.Calls.{ready_of}
use Rattle.model.specs.Scheduler.{made_from}
use Rattle.model.specs.Draw.{draw_of}
use Rattle.model.specs.Claims.{AllHold}
use Rattle.model.specs.DrawExamples.{draws}

pub draws-hold : AllHold draws
unfolding draw_of made_from ready_of ready_answer read_of decode_as initial ready step cells_after
draws-hold = refl
