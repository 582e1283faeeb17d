-- What the same verdict says, part by part.
-- Assumes nothing.
use mathlib.Core.Path.{◌≡◌}
use mathlib.Core.Bool.{Bool, true, false, not, ◌&&◌}
use mathlib.Core.List.{List}
use Prim.Native.Nat.{ℕ}
use borrow.Author.Tests.{eqb-true, eq-eqb, not-true}
use lib.Dec.{eqb}
use lib.ListN.{length}
use Rattle.trace.specs.Machine.{Machine}
use Rattle.trace.specs.Schedule.{names}
use Rattle.trace.specs.Order.{within}
use Rattle.trace.specs.Same.{equivalent, reorders}
use Rattle.trace.proofs.Bools.{both, and_left, and_right}

pub record SameParts (M : Machine) (s : M.State) (p q : List ℕ) : Type 0 where
  pub lengths : length p ≡ length q
  pub in-second : within (names M s p) (names M s q) ≡ true
  pub in-first : within (names M s q) (names M s p) ≡ true
  pub in_order : reorders M.dep (names M s p) (names M s q) ≡ false

module _ (M : Machine) (s : M.State) (p q : List ℕ) where
  pub same_parts : equivalent M s p q ≡ true → SameParts M s p q
  unfolding equivalent
  same_parts h =
      let l : Bool = eqb (length p) (length q) in
      let a : Bool = within (names M s p) (names M s q) in
      let b : Bool = within (names M s q) (names M s p) in
      let r : Bool = reorders M.dep (names M s p) (names M s q) in
      let front : (l && (a && b)) ≡ true = and_left (l && (a && b)) (not r) h in
      let held : (a && b) ≡ true = and_right l (a && b) front in
      record {
        lengths = eqb-true _ _ (and_left l (a && b) front);
        in-second = and_left a b held;
        in-first = and_right a b held;
        in_order = not-true r (and_right (l && (a && b)) (not r) h);
      }

  pub parts_same : SameParts M s p q → equivalent M s p q ≡ true
  unfolding equivalent
  parts_same e = both (both (eq-eqb (length p) (length q) e.lengths) (both e.in-second e.in-first)) (rw e.in_order)
