-- `Steps::search` meets its contract. Assumes nothing.
use Rattle.equivalence.proofs.Searching.{search-begins, search-next, is-crossed, search-finds}
use Rattle.equivalence.proofs.Steps.search.Goals as goal

pub loop-j-init : goal.loop-j-init
loop-j-init c =
    let x = c.args.self.now in
    search-begins x.table.now x.first.now x.index.now x.m c.new-latest.result c.new-latest.ensures

pub unwrap-i-requires : goal.unwrap-i-requires
unwrap-i-requires c =
    let x = c.args.self.now in
    is-crossed x.table.now x.first.now x.index.now x.m c.requires x.placed c.loop-j.invariant c.loop-j-test.true c.pass-met.new.self c.from-name.ensures
    (rw c.place-place.ensures at c.pass-met.ensures) (rw c.place-place.ensures at c.if-place-met.true) c.earliest.result c.earliest.ensures

pub returns-then-place-met : goal.returns-then-place-met
returns-then-place-met c =
    let x = c.args.self.now in
    search-finds x.table.now x.first.now x.index.now x.m c.requires x.placed c.loop-j.invariant c.loop-j-test.true c.pass-met.new.self c.from-name.ensures
    (rw c.place-place.ensures at c.pass-met.ensures) (rw c.place-place.ensures at c.if-place-met.true) c.earliest.ensures c.unwrap-i.ensures

pub loop-j-preserved : goal.loop-j-preserved
loop-j-preserved c =
    let x = c.args.self.now in
    search-next x.table.now x.first.now x.index.now x.m c.requires x.placed c.loop-j.invariant c.loop-j-test.true c.pass-met.new.self c.from-name.ensures
    (rw c.place-place.ensures at c.pass-met.ensures) (rw c.place-place.ensures at c.if-place-met.false)
