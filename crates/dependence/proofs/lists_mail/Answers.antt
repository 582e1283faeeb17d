-- `dependence::lists_mail` meets its contract: the test of the list's numbers.
-- Assumes nothing.
use mathlib.Core.Path.{◌∙◌}
use borrow.Author.Tests.{tests}
use Prim.Native.Nat.{ℕ}
use mathlib.Core.Bool.{Bool}
use Rattle.std.proofs.Common.{rules}
use Rattle.std.proofs.lemmas.Iterator.{YieldsList-from_slice, YieldsList-from_take}
use Rattle.std.proofs.lemmas.Iterator.Search.{any_from_yields_List}
use Rattle.std.proofs.lemmas.Iterator.Adapters.{serves_from_places}
use Rattle.table.specs.Decode.{action_of}
use Rattle.names.specs.Steps.{Stands}
use Rattle.model.specs.Site.{name}
use Rattle.model.specs.Views.{listed}
use Rattle.dependence.specs.Codes.{is_on}
use Rattle.dependence.proofs.ListTests.{any-listed, each-at}
use Rattle.dependence.proofs.lists_mail.Goals as goal

pub any-requires-clause-callable : goal.any-requires-clause-callable
any-requires-clause-callable c =
    let x = c.args in
    serves_from_places (YieldsList-from_take x.list.count (YieldsList-from_slice x.list.all cc) cc)
    (λ k q e. search rules)
    (λ k i h e. let s : Stands x.table.now (name x.a k.now) = rw e (each-at (λ n. Stands x.table.now (name x.a n)) (listed x.list) i k.now c.requires.1 h) in search rules)

pub returns : goal.returns
returns c =
    let x = c.args in
    let test : ℕ → Bool = λ k. is_on x.kind x.m (action_of x.table.now x.a k) in
    any_from_yields_List test _ _ c.any.result c.any.ensures.ran (YieldsList-from_take x.list.count (YieldsList-from_slice x.list.all cc) cc) (λ n b q k. search (rules, tests))
    ∙ any-listed test (listed x.list)
