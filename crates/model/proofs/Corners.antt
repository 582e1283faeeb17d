-- The corners of `specs/Corners.antt` hold of the model: one proof, by computation.
-- Assumes nothing.
use mathlib.Core.Path.{refl}
use Rattle.table.specs.Decode.{decode_as}
use Rattle.table.specs.Read.{read_of}
use Rattle.trace.specs.Same.{equivalent}
use Rattle.model.specs.Site.{initial}
use Rattle.model.specs.Local.{cells_after}
use Rattle.model.specs.Step.{ready, step}
use Rattle.model.specs.Ready.{ready_answer}
use Rattle.model.specs.Pair.{depends}
use Rattle.model.specs.Report.{report}
use Rattle.model.specs.Calls.{run_of, ready_of, pair_of, same_of, comparison_of}
use Rattle.model.specs.Claims.{AllHold}
use Rattle.model.specs.Corners.{corners}

pub corners-hold : AllHold corners
unfolding run_of ready_of pair_of comparison_of same_of read_of decode_as initial ready step cells_after ready_answer depends report equivalent
corners-hold = refl
