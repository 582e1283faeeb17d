-- A function with one value changed: what it has at that place and at another, and that changes at different places commute.
-- Assumes nothing.
use mathlib.Core.Path.{◌≡◌, sym, ◌∙◌, ap, fun_ext}
use mathlib.Core.Logic.{◌⊎◌, inl, inr, ◌≢◌}
use mathlib.Core.Bool.{Bool, true, false}
use Rattle.trace.proofs.Bools.{which, contrary, is_false}
use Rattle.model.specs.Site.{upd}

-- a test decides equality
pub record Decides {A : Type 0} (eq : A → A → Bool) : Type 0 where
  pub same : (k : A) → eq k k ≡ true
  pub equal : (j k : A) → eq j k ≡ true → j ≡ k

pub not_equal : {A : Type 0} {eq : A → A → Bool} → Decides eq → (j k : A) → j ≢ k → eq j k ≡ false
not_equal E j k h = is_false _ (λ e. h (E.equal j k e))

module _ {A B : Type 0} {eq : A → A → Bool} (E : Decides eq) where
  pub upd_same : (f : A → B) (k : A) (v : B) → upd eq f k v k ≡ v
  upd_same f k v = rw (E.same k)

  pub upd_other : (f : A → B) (j k : A) (v : B) → j ≢ k → upd eq f k v j ≡ f j
  upd_other f j k v h = rw (not_equal E j k h)

  -- at any place: the changed one, with the new value, or another, with the old one
  pub upd-at : (f : A → B) (j k : A) (v : B) → ((j ≡ k) × (upd eq f k v j ≡ v)) ⊎ ((j ≢ k) × (upd eq f k v j ≡ f j))
  upd-at f j k v = go (which (eq j k))
    where
      go : (eq j k ≡ true) ⊎ (eq j k ≡ false) → ((j ≡ k) × (upd eq f k v j ≡ v)) ⊎ ((j ≢ k) × (upd eq f k v j ≡ f j))
      go (inl t) = inl (E.equal j k t, rw t)
      go (inr n) = inr (λ e. contrary (ap (λ (z : A). eq z k) e ∙ E.same k) n, rw n)

  pub upd-comm : (f : A → B) (k l : A) (v w : B) → k ≢ l → upd eq (upd eq f k v) l w ≡ upd eq (upd eq f l w) k v
  upd-comm f k l v w h = fun_ext (λ j. go j (which (eq j k)) (which (eq j l)))
    where
      go : (j : A) → (eq j k ≡ true) ⊎ (eq j k ≡ false) → (eq j l ≡ true) ⊎ (eq j l ≡ false)
          → upd eq (upd eq f k v) l w j ≡ upd eq (upd eq f l w) k v j
      go j (inl p) (inl q) = absurd (h (sym (E.equal j k p) ∙ E.equal j l q))
      go j (inl p) (inr q) = rw (p, q)
      go j (inr p) (inl q) = rw (p, q)
      go j (inr p) (inr q) = rw (p, q)

  -- the last of two changes at one place counts
  pub upd-upd : (f : A → B) (k : A) (v w : B) → upd eq (upd eq f k v) k w ≡ upd eq f k w
  upd-upd f k v w = fun_ext (λ j. go j (which (eq j k)))
    where
      go : (j : A) → (eq j k ≡ true) ⊎ (eq j k ≡ false) → upd eq (upd eq f k v) k w j ≡ upd eq f k w j
      go j (inl p) = rw p
      go j (inr p) = rw p

  -- a change to what is there is none
  pub upd-self : (f : A → B) (k : A) (v : B) → f k ≡ v → upd eq f k v ≡ f
  upd-self f k v h = fun_ext (λ j. go j (which (eq j k)))
    where
      go : (j : A) → (eq j k ≡ true) ⊎ (eq j k ≡ false) → upd eq f k v j ≡ f j
      go j (inl p) = rw p (rw (E.equal j k p) (sym h))
      go j (inr p) = rw p

  -- a change commutes with two others, and two with two
  pub upd-past-two : (f : A → B) (k l j : A) (v w u : B) → k ≢ j → l ≢ j
      → upd eq (upd eq (upd eq f k v) l w) j u ≡ upd eq (upd eq (upd eq f j u) k v) l w
  upd-past-two f k l j v w u hk hl =
      upd-comm (upd eq f k v) l j w u hl ∙ ap (λ (g : A → B). upd eq g l w) (upd-comm f k j v u hk)

  pub upd-two-past-two : (f : A → B) (k l i j : A) (v w t u : B) → k ≢ i → l ≢ i → k ≢ j → l ≢ j
      → upd eq (upd eq (upd eq (upd eq f k v) l w) i t) j u ≡ upd eq (upd eq (upd eq (upd eq f i t) j u) k v) l w
  upd-two-past-two f k l i j v w t u ki li kj lj =
      ap (λ (g : A → B). upd eq g j u) (upd-past-two f k l i v w t ki li) ∙ upd-past-two (upd eq f i t) k l j v w u kj lj

-- a test of equality is symmetric
pub test-symmetric : {A : Type 0} {eq : A → A → Bool} → Decides eq → (j k : A) → eq j k ≡ eq k j
test-symmetric {A} {eq} E j k = go (which (eq j k))
  where
    turned : (x y : A) → eq x y ≡ true → eq y x ≡ true
    turned x y e = ap (eq y) (E.equal x y e) ∙ E.same y

    go : (eq j k ≡ true) ⊎ (eq j k ≡ false) → eq j k ≡ eq k j
    go (inl t) = t ∙ sym (turned j k t)
    go (inr f) = f ∙ sym (is_false _ (λ t. contrary (turned k j t) f))
