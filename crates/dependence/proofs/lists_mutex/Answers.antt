-- `dependence::lists_mutex` meets its contract: the test of the list's numbers.
-- Assumes nothing.
use mathlib.Core.Path.{◌∙◌, sym}
use lib.Dec.{eqb}
use borrow.Author.Tests.{tests}
use Rattle.std.proofs.Common.{rules}
use Rattle.std.proofs.lemmas.Iterator.{YieldsList-from_slice, YieldsList-from_take}
use Rattle.std.proofs.lemmas.Iterator.Search.{any_from_yields_List}
use Rattle.model.specs.Views.{listed}
use Rattle.names.proofs.Listed.{has-any}
use Rattle.dependence.proofs.ListTests.{any-listed}
use Rattle.dependence.proofs.lists_mutex.Goals as goal

pub returns : goal.returns
returns c =
    let x = c.args in
    any_from_yields_List (eqb x.m) _ _ c.any.result c.any.ensures.ran (YieldsList-from_take x.list.count (YieldsList-from_slice x.list.all cc) cc) (λ n b q k. search (rules, tests))
    ∙ any-listed (eqb x.m) (listed x.list) ∙ sym (has-any (listed x.list) x.m)
