-- `route_call::route` meets its contract: refused as comparing the schedules is, then 19, then 18, and otherwise the route is written.
-- Assumes nothing.
use mathlib.Core.Path.{◌≡◌, refl, ◌∙◌, ap, subst}
use Rattle.std.proofs.Common.{Ok, Err, rules}
use mathlib.Core.List.{List, ◌++◌}
use Prim.Native.Nat.{ℕ, ◌<◌, ◌≤◌}
use native.Mathlib.Omega.{arith}
use lib.ListN.{length, drop}
use Rattle.model.specs.Calls.{gives, same as alike, same_of}
use Rattle.comparison.specs.Traces.{Kept}
use Rattle.comparison.proofs.TraceNames.{routable, route-names}
use Rattle.route_call.proofs.RouteOutcomes.{verdict-of, told-different, are-same, one-length, first_taken, second-taken, route-refused, route-different, route-small, route-short, route-given}
use Rattle.route_call.proofs.route.Goals as goal
use Rattle.route_call.proofs.route.Goals.{In-Same}

-- ---- where the schedules are the same: the verdict and the names that are kept

said_same : (d : In-Same) → gives alike ≡ same_of d.args.table.now d.args.first.now d.args.second.now
said_same d = verdict-of (ap Ok d.in-Same.is) d.in_ok-comparison.ensures

kept : (d : In-Same) → Kept d.args.table.now d.args.first.now d.compared.new.names × Kept d.args.table.now d.args.second.now d.compared.new.others
kept d = d.in_ok-comparison.ensures.kept _ (ap Ok d.in-Same.is)

pub returns-then-route-most_exchanges : goal.returns-then-route-most_exchanges
returns-then-route-most_exchanges c =
    let x = c.args in
    route-small x.table.now x.first.now x.second.now x.route.now (said_same (goal.at.returns-then-route-most_exchanges c).In-Same)
    (subst (λ (n : ℕ). length x.route.now < n) c.most_exchanges.ensures c.if-route-most_exchanges.true)

pub route-n-requires : goal.route-n-requires
route-n-requires c =
    let x = c.args in
    let d = (goal.at.route-n-requires c).In-Same in
    let h = said_same d in
    routable x.table.now x.first.now x.second.now c.compared.new.names c.compared.new.others
    (first_taken x.table.now x.first.now x.second.now alike h) (second-taken x.table.now x.first.now x.second.now alike h)
    (kept d).0 (kept d).1 (one-length x.table.now x.first.now x.second.now h) x.route.now (are-same x.table.now x.first.now x.second.now h)
    (subst (λ (n : ℕ). n ≤ length x.route.now) c.most_exchanges.ensures c.if-route-most_exchanges.false)

pub overflow_cast-result : goal.overflow_cast-result
overflow_cast-result c =
    let x = c.args in
    let d = (goal.at.overflow_cast-result c).In-Same in
    let h = said_same d in
    let same_route =
    route-names x.table.now x.first.now x.second.now c.compared.new.names c.compared.new.others
    (first_taken x.table.now x.first.now x.second.now alike h) (second-taken x.table.now x.first.now x.second.now alike h)
    (kept d).0 (kept d).1 (one-length x.table.now x.first.now x.second.now h) in
    omega (arith, c.route-n.ensures.count, ap length same_route, route-short x.table.now x.first.now x.second.now h (kept d).0.entries-most)

pub returns : goal.returns
returns c =
    let x = c.args in
    let d = (goal.at.returns c).In-Same in
    let h = said_same d in
    let same_route =
    route-names x.table.now x.first.now x.second.now c.compared.new.names c.compared.new.others
    (first_taken x.table.now x.first.now x.second.now alike h) (second-taken x.table.now x.first.now x.second.now alike h)
    (kept d).0 (kept d).1 (one-length x.table.now x.first.now x.second.now h) in
    route-given x.table.now x.first.now x.second.now x.route.now _ _ h
    (subst (λ (n : ℕ). n ≤ length x.route.now) c.most_exchanges.ensures c.if-route-most_exchanges.false)
    (c.route-n.ensures.count ∙ ap length same_route)
    (c.route-n.ensures.lent ∙ ap (λ (l : List ℕ). l ++ drop (length l) x.route.now) same_route)

pub returns-in_default : goal.returns-in_default
returns-in_default c =
    let x = c.args in
    route-different x.table.now x.first.now x.second.now x.route.now (told-different c.in_ok-comparison.comparison c.in_default.not-Same c.in_ok-comparison.ensures)

pub returns-in_err-comparison : goal.returns-in_err-comparison
returns-in_err-comparison c =
    let x = c.args in
    let e : c.from_residual.result ≡ Err c.in_err-comparison.field-0.0 = search rules in
    rw e (route-refused x.table.now x.first.now x.second.now x.route.now (verdict-of refl c.in_err-comparison.ensures))
