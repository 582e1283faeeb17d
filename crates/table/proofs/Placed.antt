-- The directory of an accepted file: what one entry's check says, and that every actor's actions lie within the file.
-- Assumes nothing.
use mathlib.Core.Path.{◌≡◌, ◌∙◌, ap, sym, subst}
use mathlib.Core.List.{List}
use Prim.Native.Nat.{ℕ, zero, suc, ◌+◌, ◌-◌, ◌*◌, ◌<◌, ◌≤◌}
use native.Mathlib.Nat.{add-zero, zero-add, add-suc, le_refl}
use native.Mathlib.Omega.{arith}
use borrow.Author.Tests.{eqb-true, leb-true}
use lib.Dec.{eqb, leb}
use lib.ListN.{length}
use Rattle.table.specs.Outcome.{accepted, demand, each}
use Rattle.table.specs.Format.{actors_of, offset_of, count_of, due_of}
use Rattle.table.specs.Read.{entry_of}
use Rattle.table.proofs.Checks.{then-left, then-right, demand-true, each_at}

module _ (b : List ℕ) where
  module _ (right : each (entry_of b) (actors_of b) 0 ≡ accepted) where
    entry_at : (a : ℕ) → a < actors_of b → entry_of b a ≡ accepted
    entry_at a h = rw zero-add at (each_at (entry_of b) (actors_of b) 0 right a h)

    pub offset-due : (a : ℕ) → a < actors_of b → offset_of b a ≡ due_of b a
    offset-due a h =
        eqb-true _ _
        (demand-true (eqb (offset_of b a) (due_of b a)) 4 0 (then-left _ (demand (leb (count_of b a) 32) 4 0) (entry_at a h)))

    pub count_most : (a : ℕ) → a < actors_of b → count_of b a ≤ 32
    count_most a h =
        leb-true _ _
        (demand-true (leb (count_of b a) 32) 4 0 (then-right (demand (eqb (offset_of b a) (due_of b a)) 4 0) _ (entry_at a h)))

    due-rises : (d a : ℕ) → a + d ≤ actors_of b → due_of b a ≤ due_of b (a + d)
    due-rises zero a h = rw add-zero (le_refl _)
    due-rises (suc d) a h =
        let here : a + d < actors_of b = omega arith in
        let so_far : due_of b a ≤ due_of b (a + d) = due-rises d a (omega arith) in
        rw add-suc (omega (arith, offset-due (a + d) here))

    -- each actor's actions end at the latest where the file does
    pub inside : length b ≡ due_of b (actors_of b) → (a : ℕ) → a < actors_of b → offset_of b a + 8 * count_of b a ≤ length b
    inside end a h =
        let rest : ℕ = actors_of b - suc a in
        let all : suc a + rest ≡ actors_of b = omega arith in
        let rises : due_of b (suc a) ≤ due_of b (suc a + rest) = due-rises rest (suc a) (omega arith) in
        subst (λ (n : ℕ). due_of b (suc a) ≤ n) (ap (due_of b) all ∙ sym end) rises
