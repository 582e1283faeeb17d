-- A function that has a value at one place and is another function elsewhere is that other function with one value changed; and what stands in a
-- list after a store.
-- Assumes nothing.
use Prim.Native.Nat.{ℕ, ◌<◌}
use mathlib.Core.Path.{◌≡◌, ◌∙◌, ap, fun_ext}
use mathlib.Core.Logic.{◌⊎◌, inl, inr, ◌≢◌}
use mathlib.Core.Bool.{Bool, true, false}
use mathlib.Core.List.{List}
use borrow.Author.Tests.{eqb-true, eqb-false}
use lib.Dec.{eqb}
use lib.ListN.{length, get_or, set}
use lib.Seq.{get_or-set_same, get_or-set_other}
use Rattle.trace.proofs.Bools.{which, contrary}
use Rattle.model.specs.Site.{upd}
use Rattle.model.proofs.Upd.{Decides}

pub changed-at : {A B : Type 0} {eq : A → A → Bool} → Decides eq → (f g : A → B) (k : A) (v : B) → g k ≡ v → ((j : A) → j ≢ k → g j ≡ f j)
    → g ≡ upd eq f k v
changed-at {A} {B} {eq} E f g k v same other = fun_ext (λ j. go j (which (eq j k)))
  where
    go : (j : A) → (eq j k ≡ true) ⊎ (eq j k ≡ false) → g j ≡ upd eq f k v j
    go j (inl p) = rw p (ap g (E.equal j k p) ∙ same)
    go j (inr p) = rw p (other j (λ e. contrary (ap (λ (x : A). eq x k) e ∙ E.same k) p))

-- what holds of a stored value, and of every value before the store, holds of every value after it
pub each_after : (P : ℕ → ℕ → Type 0) (l : List ℕ) (i v : ℕ) → i < length l → P i v → ((j : ℕ) → P j (get_or l j 0)) → (j : ℕ) → P j (get_or (set l i v) j 0)
each_after P l i v h own each j = go (which (eqb j i))
  where
    go : (eqb j i ≡ true) ⊎ (eqb j i ≡ false) → P j (get_or (set l i v) j 0)
    go (inl t) = rw (eqb-true j i t) (rw (get_or-set_same l i v 0 h) own)
    go (inr f) = rw (get_or-set_other l i j v 0 (eqb-false j i f)) (each j)
