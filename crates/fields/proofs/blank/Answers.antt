-- `fields::blank` meets its contract.
-- Assumes nothing.
use mathlib.Core.Path.{◌∙◌, ap}
use Prim.Native.Nat.{ℕ, ◌*◌, ◌%◌, ◌^◌}
use lib.Dec.{ltb}
use Rattle.table.specs.Outcome.{demand}
use Rattle.fields.proofs.Blanks.{blank-size}
use Rattle.fields.proofs.blank.Goals as goal

pub returns : goal.returns
returns c =
    let a = c.args in
    c.demand.ensures
    ∙ ap (λ (v : ℕ). demand (ltb v (1 * 2 ^ (8 * a.from) % 18446744073709551616)) 9 a.at) (c.from.ensures ∙ c.long.ensures)
    ∙ blank-size a.t.now a.at (λ i. (c.type_inv.t i).fits) a.from c.requires.1
