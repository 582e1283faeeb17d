-- The verdict on two lists of step names of one length, and its number.
-- Assumes nothing: these are definitions.
use Rattle.std.specs.Prelude.{◌≡◌, Bool, not, ◌&&◌, cond, List, length}
use Rattle.trace.specs.Machine.{Name}
use Rattle.trace.specs.Order.{within}
use Rattle.trace.specs.Same.{reorders}
use Rattle.trace.specs.Search.{compared_in, search, opposed}
use Rattle.model.specs.Calls.{same, different}
use Rattle.answers.specs.declared.Comparison.{Comparison}
use Rattle.answers.specs.Answers.{comparison_as}

-- whether the second list has the first's names and no dependent pair in the opposite order; and the pairs compared, none where it lacks a name
pub record Judges (dep : Name → Name → Bool) (u v : List Name) (r : Comparison) : Type 0 where
  pub verdict : (comparison_as r).verdict ≡ cond (within u v && not (reorders dep u v)) same different
  pub counted : (comparison_as r).pairs ≡ cond (within u v) (compared_in (search (opposed dep u v) (length u))) 0
