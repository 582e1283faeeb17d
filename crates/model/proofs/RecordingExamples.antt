-- The recordings of `specs/RecordingExamples.antt`: one proof, by computation.
-- Assumes nothing.
use mathlib.Core.Path.{refl}
use Rattle.table.specs.Decode.{decode_as}
use Rattle.table.specs.Read.{read_of}
use Rattle.trace.specs.Same.{equivalent}
use Rattle.model.specs.Site.{initial}
use Rattle.model.specs.Local.{cells_after}
use Rattle.model.specs.Step.{ready, step}
use Rattle.model.specs.Pair.{depends}
use Rattle.model.specs.Calls.{same_of, comparison_of}
use Rattle.model.specs.Recordings.{prefix_comparison_of, remainder_in}
use Rattle.model.specs.Claims.{AllHold}
use Rattle.model.specs.RecordingExamples.{recordings}

pub recordings-hold : AllHold recordings
unfolding prefix_comparison_of remainder_in comparison_of same_of depends equivalent read_of decode_as initial ready step cells_after
recordings-hold = refl
