-- The loop's invariant: none before i is crossed.
-- Assumes nothing.
use Prim.Native.Nat.{ℕ, ◌<◌}
use mathlib.Core.Path.{◌≡◌}
use mathlib.Core.Bool.{false}
use Rattle.equivalence.specs.Parts.{place_in, crosses}
use Rattle.equivalence.proofs.Steps.earliest.Given as goal

abbrev pub invariant-loop-i : goal.invariant-loop-i
invariant-loop-i l =
    (k : ℕ) → k < l.i → crosses l.self.table.now l.self.first.now (place_in l.self.index.now l.self.first.now) k l.j ≡ false
