-- `fields::communications` meets its contract: the test of all is the check of each.
-- Assumes nothing.
use mathlib.Core.Path.{◌∙◌, ap}
use mathlib.Core.Bool.{Bool}
use Rattle.std.proofs.Common.{rules, tests}
use Rattle.std.proofs.lemmas.Iterator.{YieldsList-from_slice}
use Rattle.std.proofs.lemmas.Iterator.Search.{all_from_yields_List}
use Rattle.table.specs.Format.{place_of}
use Rattle.table.specs.Outcome.{demand}
use Rattle.table.specs.Read.{allowed}
use Rattle.fields.proofs.InARow.{each-listed}
use Rattle.fields.proofs.communications.Goals as goal

pub returns : goal.returns
returns c =
    let a = c.args in
    c.demand.ensures
    ∙ ap (λ (all : Bool). demand all 8 (place_of a.first a.k))
    (all_from_yields_List (allowed a.t.now a.first a.k) _ _ _ c.all.ensures.ran (YieldsList-from_slice a.list.now cc)
    (λ x b q k. search (rules, tests)))
    ∙ each-listed a.t.now (place_of a.first a.k) (allowed a.t.now a.first a.k) 8 (place_of a.first a.k) a.list.now c.requires.0 c.requires.1
