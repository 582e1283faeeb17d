-- The search for the one of a rank, a bit of the mask at a time.
-- Assumes nothing.
use Rattle.std.proofs.Common.{◌≡◌, ℕ, suc, ◌+◌, ◌-◌, ◌*◌, ◌/◌, ◌%◌, ◌<◌, ◌≤◌, Bool, true, false, eqb, ◌⊎◌, sym, ap, ◌∙◌, inl, inr, add-one, arith, eq-eqb, eqb-true}
use borrow.Author.Tests.{eqb-false}
use Rattle.trace.proofs.Bools.{which}
use Rattle.model.specs.Ready.{bit, mask_of}
use Rattle.model.specs.Draw.{ranked}
use Rattle.model.proofs.ReadyMask.{lowest, rest-half}
use Rattle.model.proofs.Ranked.{ranked-past}

module _ (f : ℕ → Bool) (n rank : ℕ) where
  -- the bits from a on are left, and the one that is looked for has the rank r among them
  pub record Search (a m r : ℕ) : Type 0 where
    pub left : m ≡ mask_of f (n - a) a
    pub alike : ranked f (n - a) a r ≡ ranked f n 0 rank

  pub search-begin : (mask : ℕ) → mask ≡ mask_of f n 0 → Search 0 mask rank
  search-begin mask e =
      let all : n - 0 ≡ n = omega arith in
      record { left = e ∙ ap (λ (c : ℕ). mask_of f c 0) (sym all); alike = ap (λ (c : ℕ). ranked f c 0 rank) all }

  module _ {a m r : ℕ} (S : Search a m r) (some : 0 < m) where
    abbrev rest : ℕ
    rest = n - (a + 1)

    -- a bit is left
    one_left : n - a ≡ suc rest
    one_left = go (which (eqb (n - a) 0))
      where
        go : (eqb (n - a) 0 ≡ true) ⊎ (eqb (n - a) 0 ≡ false) → n - a ≡ suc rest
        go (inl e) = let none : mask_of f (n - a) a ≡ 0 = ap (λ (c : ℕ). mask_of f c a) (eqb-true (n - a) 0 e) in absurd (omega (arith, S.left))
        go (inr e) = let ne : n - a ≡ 0 → ⊥ = eqb-false (n - a) 0 e in omega arith

    split : m ≡ bit (f a) + 2 * mask_of f rest (suc a)
    split = S.left ∙ ap (λ (c : ℕ). mask_of f c a) one_left

    pub the-bit : m % 2 ≡ bit (f a)
    the-bit = ap (λ (x : ℕ). x % 2) split ∙ lowest (f a) (mask_of f rest (suc a))

    here : ranked f (suc rest) a r ≡ ranked f n 0 rank
    here = ap (λ (c : ℕ). ranked f c a r) (sym one_left) ∙ S.alike

    pub search-found : r < m % 2 → a ≡ ranked f n 0 rank
    search-found h = go (which (f a))
      where
        go : (f a ≡ true) ⊎ (f a ≡ false) → a ≡ ranked f n 0 rank
        go (inl t) =
            let one : bit (f a) ≡ 1 = rw t in
            let z : eqb r 0 ≡ true = eq-eqb r 0 (omega (arith, the-bit)) in
            rw (t, z) at here
        go (inr t) = let none : bit (f a) ≡ 0 = rw t in absurd (omega (arith, the-bit))

    pub search-next : m % 2 ≤ r → Search (a + 1) (m / 2) (r - m % 2)
    search-next h =
        let b : m % 2 ≡ bit (f a) = the-bit in
        let low : bit (f a) ≤ r = omega arith in
        let up : suc a ≡ a + 1 = sym (add-one a) in
        record {
          left = ap (λ (x : ℕ). x / 2) split ∙ rest-half (f a) (mask_of f rest (suc a)) ∙ ap (mask_of f rest) up;
          alike =
              ap (λ (x : ℕ). ranked f rest (a + 1) (r - x)) b ∙ ap (λ (k : ℕ). ranked f rest k (r - bit (f a))) (sym up)
              ∙ sym (ranked-past f rest a r low) ∙ here;
        }
