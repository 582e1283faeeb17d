-- The numbers of `specs/ComparisonExamples.antt`: one proof, by computation.
-- Assumes nothing.
use mathlib.Core.Path.{refl}
use Rattle.table.specs.Decode.{decode_as}
use Rattle.table.specs.Read.{read_of}
use Rattle.trace.specs.Same.{equivalent}
use Rattle.trace.specs.Search.{pairs_compared}
use Rattle.model.specs.Site.{initial}
use Rattle.model.specs.Local.{cells_after}
use Rattle.model.specs.Step.{ready, step}
use Rattle.model.specs.Pair.{depends}
use Rattle.model.specs.Calls.{same_of, comparison_of}
use Rattle.model.specs.Recordings.{prefix_comparison_of}
use Rattle.model.specs.Claims.{AllHold}
use Rattle.model.specs.ComparisonExamples.{comparisons}

pub comparisons-hold : AllHold comparisons
unfolding prefix_comparison_of comparison_of same_of pairs_compared depends equivalent read_of decode_as initial ready step cells_after
comparisons-hold = refl
