-- The totals of `specs/OverExamples.antt`: one proof, by computation.
-- Assumes nothing.
use mathlib.Core.Path.{refl}
use Rattle.table.specs.Decode.{decode_as}
use Rattle.table.specs.Read.{read_of}
use Rattle.trace.specs.Same.{equivalent}
use Rattle.model.specs.Site.{initial}
use Rattle.model.specs.Local.{cells_after}
use Rattle.model.specs.Step.{ready, step}
use Rattle.model.specs.Ready.{ready_answer}
use Rattle.model.specs.Pair.{depends}
use Rattle.model.specs.Calls.{run_of, ready_of, same_of, comparison_of}
use Rattle.model.specs.Page as Page
use Rattle.model.specs.Claims.{AllHold}
use Rattle.model.specs.OverExamples.{totals}

pub totals-hold : AllHold totals
unfolding run_of ready_of comparison_of same_of Page.page_of Page.page ready_answer depends equivalent read_of decode_as initial ready step cells_after
totals-hold = refl
