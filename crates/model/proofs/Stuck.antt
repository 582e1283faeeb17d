-- A site where nobody is ready and somebody is not finished: the mask is 0, the number 0, and the ending stuck.
-- Assumes nothing.
use Prim.Native.Nat.{ℕ, zero, suc, ◌+◌, ◌≤◌, ◌<◌}
use native.Mathlib.Omega.{arith}
use mathlib.Core.Path.{◌≡◌, refl, sym, ◌∙◌, ap}
use mathlib.Core.Logic.{◌⊎◌, inl, inr}
use mathlib.Core.Bool.{Bool, true, false, not}
use mathlib.Core.List.{List}
use lib.Dec.{eqb, ltb}
use borrow.Author.Tests.{ltb-true, eqb-true, eqb-false}
use Rattle.table.specs.Format.{actors_of}
use Rattle.trace.proofs.Bools.{which}
use Rattle.model.specs.Site.{Site}
use Rattle.model.specs.Step.{unfinished, ready}
use Rattle.model.specs.Ready.{mask_of, all, stuck, ending_of, ready_mask, ready_count, ready_answer}
use Rattle.model.proofs.Scheduled.{nobody-counts}

none-masked : (f : ℕ → Bool) (n k : ℕ) → ((j : ℕ) → f j ≡ false) → mask_of f n k ≡ 0
none-masked f zero k h = refl
none-masked f (suc n) k h = rw (h k) (omega (arith, none-masked f n (suc k) h))

not-all : (f : ℕ → Bool) (n k j : ℕ) → k ≤ j → j < k + n → f j ≡ false → all f n k ≡ false
not-all f zero k j a b h = absurd (omega arith)
not-all f (suc n) k j a b h = go (which (eqb j k)) (which (f k)) (λ e. not-all f n (suc k) j e (omega arith) h)
  where
    go : (eqb j k ≡ true) ⊎ (eqb j k ≡ false) → (f k ≡ true) ⊎ (f k ≡ false) → (suc k ≤ j → all f n (suc k) ≡ false) → all f (suc n) k ≡ false
    go _ (inr e) rest = rw e
    go (inl e) (inl t) rest = let z : f k ≡ false = ap f (sym (eqb-true j k e)) ∙ h in rw z
    go (inr e) (inl t) rest = let ne : j ≡ k → ⊥ = eqb-false j k e in rw t (rest (omega arith))

pub nobody-stuck : (table : List ℕ) (s : Site) → ((a : ℕ) → ready table s a ≡ false) → (u : ℕ) → ltb u (actors_of table) ≡ true → unfinished table s u ≡ true
    → ready_answer table s ≡ record { mask = 0; count = 0; ending = stuck }
unfolding ready_answer
nobody-stuck table s none u inside left =
    let mask : ready_mask table s ≡ 0 = none-masked (ready table s) (actors_of table) 0 none in
    let count : ready_count table s ≡ 0 = nobody-counts table s none in
    let unended : all (λ a. not (unfinished table s a)) (actors_of table) 0 ≡ false =
    not-all (λ a. not (unfinished table s a)) (actors_of table) 0 u (omega arith) (omega (arith, ltb-true u (actors_of table) inside)) (ap not left) in
    (λ k. record { mask = mask k; count = count k; ending = ending_of (unended k) (count k) })
