-- The numbers that an action lists, as bytes in a row: a check of each is one check of all.
-- Assumes nothing.
use mathlib.Core.Path.{◌≡◌, refl, ◌∙◌, ap, sym}
use mathlib.Core.Bool.{Bool, true, false, ◌&&◌}
use mathlib.Core.List.{List}
use Prim.Native.Nat.{ℕ, zero, suc, ◌+◌, ◌-◌, ◌<◌, ◌≤◌}
use native.Mathlib.Omega.{arith}
use native.Mathlib.Nat.{add-zero}
use borrow.Author.Tests.{leb-true}
use lib.Dec.{leb}
use lib.ListN.{length, take, drop}
use Rattle.std.specs.List.{list_all}
use Rattle.std.proofs.Common.{drop-cons}
use Rattle.table.specs.Outcome.{Outcome, demand, ◌⨾◌, each}
use Rattle.table.specs.Format.{z_at, listed_at}
use Rattle.table.proofs.Checks.{and_right, demand-true}
use Rattle.fields.specs.Parts.{Room, Listed}

demand-and : (s t : Bool) (number p : ℕ) → demand (s && t) number p ≡ (demand s number p ⨾ demand t number p)
demand-and true t number p = refl
demand-and false t number p = refl

module _ (b : List ℕ) (at : ℕ) (test : ℕ → Bool) (number p : ℕ) where
  abbrev check : ℕ → Outcome
  check i = demand (test (listed_at b at i)) number p

  from-place : (n k : ℕ) → at + 4 + k + n ≤ length b → each check n k ≡ demand (list_all test (take n (drop (at + 4 + k) b))) number p
  from-place zero k h = refl
  from-place (suc n) k h =
      let here : at + 4 + k < length b = omega arith in
      let more : suc (at + 4 + k) ≡ at + 4 + suc k = omega arith in
      rw (drop-cons b (at + 4 + k) 0 here, more)
      (ap (λ (o : Outcome). check k ⨾ o) (from-place n (suc k) (omega arith)) ∙ sym (demand-and (test (listed_at b at k)) _ number p))

  -- the same, where they are the bytes that an action lists
  pub each-listed : (list : List ℕ) → Room b at → Listed b at list → demand (list_all test list) number p ≡ each check (z_at b at) 0
  each-listed list room listed =
      let most : z_at b at ≤ 4 = leb-true _ _ (and_right (leb 1 (z_at b at)) (leb (z_at b at) 4) (demand-true _ 7 at listed.sized)) in
      let many : at + 4 + z_at b at - (at + 4) ≡ z_at b at = omega arith in
      rw (listed.bytes, many) (sym (rw add-zero at (from-place (z_at b at) 0 (omega arith))))
