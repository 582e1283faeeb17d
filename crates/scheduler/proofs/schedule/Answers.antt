-- `scheduler::schedule` meets its contract: only an accepted table's schedule is written, and it is made to its end. Assumes nothing.
use mathlib.Core.Path.{refl, ◌∙◌, ap₂, sym}
use mathlib.Core.List.{List, ◌++◌}
use Prim.Native.Nat.{ℕ}
use lib.ListN.{drop}
use Rattle.std.proofs.lemmas.Result.{MatchResult-at_ok}
use Rattle.table.specs.Read.{read_of}
use Rattle.model.proofs.Fills.{rest-accepted}
use Rattle.play.specs.Parts.{schedule_by, Through}
use Rattle.scheduler.proofs.Made.{made, entries-right}
use Rattle.scheduler.proofs.schedule.Goals as goal

pub unwrap-played-requires : goal.unwrap-played-requires
unwrap-played-requires c = made c.args.table.now c.args.policy c.in_ok-read.ensures.well_formed _ c.make.result c.make.ensures

pub returns-clause-lent : goal.returns-clause-lent
returns-clause-lent c =
    let x = c.args in
    let m = c.make.new in
    let T = MatchResult-at_ok (Through x.table.now (schedule_by x.table.now x.policy) m.site m.names) _ _ c.unwrap-played.ensures c.make.ensures in
    (rest-accepted 256 23 (read_of x.table.now) (schedule_by x.table.now x.policy) x.entries.now _ _ _ c.if-entries-lt256.false
    (sym c.in_ok-read.ensures.result_value) refl T.counted
    (c.write.ensures
    ∙ ap₂ (λ (l : List ℕ) (n : ℕ). l ++ drop n x.entries.now) (entries-right x.table.now x.policy c.in_ok-read.ensures.well_formed T) T.counted)).1
