-- `fields::mutexes` meets its contract: the test of all is the check of each.
-- Assumes nothing.
use mathlib.Core.Path.{◌∙◌, ap, sym}
use mathlib.Core.Bool.{Bool}
use Prim.Native.Nat.{ℕ}
use lib.Dec.{ltb}
use Rattle.std.proofs.Common.{rules, tests}
use Rattle.std.proofs.lemmas.Iterator.{YieldsList-from_slice}
use Rattle.std.proofs.lemmas.Iterator.Search.{all_from_yields_List}
use Rattle.table.specs.Format.{listed_at, z_at}
use Rattle.table.specs.Outcome.{demand, each}
use Rattle.table.proofs.Checks.{then-accepted}
use Rattle.fields.proofs.InARow.{each-listed}
use Rattle.fields.proofs.mutexes.Goals as goal

pub returns : goal.returns
returns c =
    let a = c.args in
    let test = λ (x : ℕ). ltb x a.limits.now.mutexes in
    c.demand.ensures
    ∙ ap (λ (all : Bool). demand all 7 a.at)
    (all_from_yields_List test _ _ _ c.all.ensures.ran (YieldsList-from_slice a.list.now cc) (λ x b q k. search (rules, tests)))
    ∙ each-listed a.t.now a.at test 7 a.at a.list.now c.requires.0 c.requires.2
    ∙ ap (λ (m : ℕ). each (λ i. demand (ltb (listed_at a.t.now a.at i) m) 7 a.at) (z_at a.t.now a.at) 0) c.requires.1.mutexes
    ∙ sym (then-accepted _ _ c.requires.2.sized)
