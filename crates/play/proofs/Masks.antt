-- A mask is 0 exactly where nobody is ready; and the mask where one bit may have changed.
-- Assumes nothing.
use mathlib.Core.Path.{◌≡◌, refl, ◌∙◌, ap, ap₂, sym}
use mathlib.Core.Logic.{◌⊎◌, inl, inr, ◌≢◌}
use mathlib.Core.Bool.{Bool, true, false, cond}
use mathlib.Core.List.{List}
use Prim.Native.Nat.{ℕ, zero, suc, ◌+◌, ◌-◌, ◌*◌, ◌^◌, ◌<◌, ◌≤◌}
use native.Mathlib.Nat.{pow-succ'}
use native.Mathlib.Omega.{arith}
use lib.Count.{ones}
use Rattle.std.proofs.lemmas.Nat.{zero_from_ones, ones_le_self}
use lib.Dec.{eqb}
use borrow.Author.Tests.{eqb-true, eqb-false, eq-eqb, ne_eqb}
use Rattle.table.specs.Format.{actors_of}
use Rattle.trace.proofs.Bools.{which}
use Rattle.model.specs.Site.{Site}
use Rattle.model.specs.Step.{ready}
use Rattle.model.specs.Ready.{bit, mask_of, ready_mask, ready_count}
use Rattle.model.proofs.ReadyMask.{mask-ones}

module _ (table : List ℕ) (s : Site) {mask : ℕ} (masked : mask ≡ ready_mask table s) where
  mask-counts : ones mask ≡ ready_count table s
  mask-counts = ap ones masked ∙ mask-ones (ready table s) (actors_of table) 0

  pub mask-some : 0 < mask → 0 < ready_count table s
  mask-some h = grind (arith, mask-counts, zero_from_ones mask)

  pub mask-none : mask ≡ 0 → ready_count table s ≡ 0
  mask-none z = omega (arith, mask-counts, ones_le_self mask)

-- ---- one bit

mask-alike : (f g : ℕ → Bool) (n k : ℕ) → ((j : ℕ) → k ≤ j → f j ≡ g j) → mask_of f n k ≡ mask_of g n k
mask-alike f g zero k h = refl
mask-alike f g (suc n) k h =
    ap₂ (λ (b : Bool) (m : ℕ). bit b + 2 * m) (h k (omega arith)) (mask-alike f g n (suc k) (λ j l. h j (omega arith)))

-- a bit that went
mask-less : (f g : ℕ → Bool) (a n k : ℕ) → k ≤ a → a < k + n → f a ≡ true → g a ≡ false → ((j : ℕ) → j ≢ a → f j ≡ g j)
    → mask_of f n k ≡ mask_of g n k + 2 ^ (a - k)
mask-less f g a zero k l h t u other = absurd (omega arith)
mask-less f g a (suc n) k l h t u other = go (which (eqb k a)) (λ e. mask-less f g a n (suc k) e (omega arith) t u other)
  where
    go : (eqb k a ≡ true) ⊎ (eqb k a ≡ false) → (suc k ≤ a → mask_of f n (suc k) ≡ mask_of g n (suc k) + 2 ^ (a - suc k))
        → mask_of f (suc n) k ≡ mask_of g (suc n) k + 2 ^ (a - k)
    go (inl e) rest =
        let here : k ≡ a = eqb-true k a e in
        let none : a - k ≡ 0 = omega arith in
        let one : 2 ^ (a - k) ≡ 1 = ap (λ (d : ℕ). 2 ^ d) none in
        let was : bit (f k) ≡ 1 = ap (λ (j : ℕ). bit (f j)) here ∙ ap bit t in
        let went : bit (g k) ≡ 0 = ap (λ (j : ℕ). bit (g j)) here ∙ ap bit u in
        let same : mask_of f n (suc k) ≡ mask_of g n (suc k) = mask-alike f g n (suc k) (λ j b. other j (omega arith)) in
        omega arith
    go (inr e) rest =
        let ne : k ≢ a = eqb-false k a e in
        let up : a - k ≡ suc (a - suc k) = omega arith in
        let twice : 2 ^ (a - k) ≡ 2 * 2 ^ (a - suc k) = ap (λ (d : ℕ). 2 ^ d) up ∙ pow-succ' 2 (a - suc k) in
        let same : bit (f k) ≡ bit (g k) = ap bit (other k ne) in
        omega (arith, rest (omega arith))

-- a mask is right but perhaps for an actor that it has
pub record OwnOpen (table : List ℕ) (s : Site) (mask a : ℕ) : Type 0 where
  pub before : ℕ → Bool
  pub was-masked : mask ≡ mask_of before (actors_of table) 0
  pub had : before a ≡ true
  pub others : (j : ℕ) → j ≢ a → before j ≡ ready table s j

module _ {table : List ℕ} {s : Site} {mask a : ℕ} (O : OwnOpen table s mask a) (in_table : a < actors_of table) where
  abbrev now : ℕ → Bool
  now = ready table s

  own-kept : ready table s a ≡ true → mask ≡ ready_mask table s
  own-kept r = O.was-masked ∙ mask-alike O.before now (actors_of table) 0 (λ j l. go j (which (eqb j a)))
    where
      go : (j : ℕ) → (eqb j a ≡ true) ⊎ (eqb j a ≡ false) → O.before j ≡ now j
      go j (inl e) = ap O.before (eqb-true j a e) ∙ O.had ∙ sym r ∙ sym (ap now (eqb-true j a e))
      go j (inr e) = O.others j (eqb-false j a e)

  own-gone : ready table s a ≡ false → mask ≡ ready_mask table s + 2 ^ a
  own-gone r =
      let all : a - 0 ≡ a = omega arith in
      O.was-masked ∙ mask-less O.before now a (actors_of table) 0 (omega arith) (omega arith) O.had r O.others
      ∙ ap (λ (d : ℕ). ready_mask table s + 2 ^ d) all

  pub own-masked : cond (ready table s a) mask (mask - 2 ^ a) ≡ ready_mask table s
  own-masked = go (which (ready table s a))
    where
      go : (ready table s a ≡ true) ⊎ (ready table s a ≡ false) → cond (ready table s a) mask (mask - 2 ^ a) ≡ ready_mask table s
      go (inl r) = rw r (own-kept r)
      go (inr r) = rw r (omega (arith, own-gone r))

  -- it has the actor's bit
  pub own-there : 2 ^ a ≤ mask
  own-there =
      let without : ℕ → Bool = λ j. cond (eqb j a) false (O.before j) in
      let all : 2 ^ (a - 0) ≡ 2 ^ a = ap (λ (d : ℕ). 2 ^ d) (omega arith) in
      let gone : without a ≡ false = rw (eq-eqb a a refl) in
      let others : (j : ℕ) → j ≢ a → O.before j ≡ without j = λ j ne. rw (ne_eqb j a ne) in
      omega (
        arith,
        O.was-masked,
        mask-less O.before without a (actors_of table) 0 (omega arith) (omega arith) O.had gone others,
      )
