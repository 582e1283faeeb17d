-- The reports of `specs/Reports.antt` are what the model's run leaves: one proof, by computation.
-- Assumes nothing.
use mathlib.Core.Path.{refl}
use Rattle.table.specs.Decode.{decode_as}
use Rattle.table.specs.Read.{read_of}
use Rattle.model.specs.Site.{initial}
use Rattle.model.specs.Local.{cells_after}
use Rattle.model.specs.Step.{ready, step}
use Rattle.model.specs.Report.{report}
use Rattle.model.specs.Calls.{run_of}
use Rattle.model.specs.Claims.{AllHold}
use Rattle.model.specs.Reports.{reports}

pub reports-hold : AllHold reports
unfolding run_of read_of decode_as initial ready step cells_after report
reports-hold = refl
