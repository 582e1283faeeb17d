-- The loop's invariant: of the first i cells the one asked for has its new value, and all else is as it was.
-- Assumes nothing.
use Rattle.std.proofs.Common.{ℕ, ◌≡◌, cond, List, ltb, set}
use Rattle.state.proofs.Actor.put.Given as goal

-- the cells once the first i of them have been gone through
abbrev pub written : (cells : List ℕ) (cell value : ℕ) → ℕ → List ℕ
written cells cell value i = cond (ltb cell i) (set cells cell value) cells

abbrev pub invariant-loop-i : goal.invariant-loop-i
invariant-loop-i l = l.held-items ≡ written l.fn.self.cells l.cell l.value l.i
