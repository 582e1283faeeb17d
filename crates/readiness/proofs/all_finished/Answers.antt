-- `readiness::all_finished` meets its contract: what its chain tests of each actor with its number, the model tests of the number.
-- Assumes nothing.
use Rattle.std.proofs.Common.{rules, ◌∙◌, arith, leb, ℕ}
use Rattle.std.proofs.lemmas.Iterator.{YieldsList-from_slice, YieldsList-from_take}
use Rattle.std.proofs.lemmas.Iterator.Consumers.{YieldsList-from_enumerate}
use Rattle.std.proofs.lemmas.Iterator.Search.{all_from_yields_List}
use borrow.Author.Tests.{tests}
use Rattle.table.specs.Format.{count_of}
use Rattle.state.specs.declared.Actor.{Actor}
use Rattle.readiness.proofs.Laws.{everyone}
use Rattle.readiness.proofs.all_finished.Goals as goal

pub returns : goal.returns
returns c =
    all_from_yields_List (λ (p : ℕ × Actor). leb (count_of c.args.table.now p.0) p.1.position) _ _ _ c.all.ensures.ran
    (YieldsList-from_enumerate (YieldsList-from_take c.args.n (YieldsList-from_slice c.args.actors (cc)) (cc)) (cc))
    (λ x b q k. search (rules, tests))
    ∙ everyone c.args.table.now c.args.actors c.args.n (omega arith)
