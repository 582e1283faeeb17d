-- Each part is a cell.
-- Assumes nothing.
use mathlib.Core.List.{◌∷◌}
use lib.ListN.{get_or}
use Rattle.model.specs.Text.{decimal, space, right}
use Rattle.page.proofs.cells_part.Given as goal

abbrev pub ghost-each : goal.ghost-each
ghost-each a = λ c. space ∷ right 10 (decimal (get_or a.part.0.now c 0))
