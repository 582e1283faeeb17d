-- The one of a rank among those that pass a test: it passes it, its rank is that one, and there is no other.
-- Assumes nothing.
use Prim.Native.Nat.{ℕ, zero, suc, ◌+◌, ◌-◌, ◌≤◌, ◌<◌}
use native.Mathlib.Omega.{arith}
use mathlib.Core.Path.{◌≡◌, sym, ◌∙◌, ap, subst}
use mathlib.Core.Logic.{◌⊎◌, inl, inr}
use mathlib.Core.Bool.{Bool, true, false}
use lib.Dec.{eqb}
use borrow.Author.Tests.{eqb-true, eqb-false, eq-eqb, ne_eqb}
use Rattle.trace.proofs.Bools.{which}
use Rattle.model.specs.Ready.{bit, how_many}
use Rattle.model.specs.Draw.{ranked}

module _ (f : ℕ → Bool) where
  -- the j-th test from k on has this rank, counted from 0
  pub record Rank (n k rank found : ℕ) : Type 0 where
    pub from : k ≤ found
    pub below : found < k + n
    pub holds : f found ≡ true
    pub others : how_many f (found - k) k ≡ rank

  -- one number further on
  rank-later : (n k rank found : ℕ) → Rank n (suc k) (rank - bit (f k)) found → bit (f k) ≤ rank → Rank (suc n) k rank found
  rank-later n k rank found r l =
      let up : found - k ≡ suc (found - suc k) = omega (arith, r.from) in
      record {
        from = omega (arith, r.from);
        below = omega (arith, r.below);
        holds = r.holds;
        others = ap (λ (d : ℕ). how_many f d k) up ∙ omega (arith, r.others);
      }

  -- the first is passed over unless it is the one
  pub ranked-past : (n k rank : ℕ) → bit (f k) ≤ rank → ranked f (suc n) k rank ≡ ranked f n (suc k) (rank - bit (f k))
  ranked-past n k rank l = go (which (f k))
    where
      go : (f k ≡ true) ⊎ (f k ≡ false) → ranked f (suc n) k rank ≡ ranked f n (suc k) (rank - bit (f k))
      go (inl t) =
          let one : bit (f k) ≡ 1 = rw t in
          let z : eqb rank 0 ≡ false = ne_eqb rank 0 (omega arith) in
          rw (t, z)
      go (inr t) = rw t

  pub ranked-finds : (n k rank : ℕ) → rank < how_many f n k → Rank n k rank (ranked f n k rank)
  ranked-finds zero k rank h = absurd (omega arith)
  ranked-finds (suc n) k rank h = go (which (f k)) (which (eqb rank 0)) (λ l. ranked-finds n (suc k) (rank - bit (f k)) l)
    where
      later : bit (f k) ≤ rank → Rank n (suc k) (rank - bit (f k)) (ranked f n (suc k) (rank - bit (f k)))
          → Rank (suc n) k rank (ranked f (suc n) k rank)
      later l r = subst (Rank (suc n) k rank) (sym (ranked-past n k rank l)) (rank-later n k rank _ r l)

      go : (f k ≡ true) ⊎ (f k ≡ false) → (eqb rank 0 ≡ true) ⊎ (eqb rank 0 ≡ false)
          → (rank - bit (f k) < how_many f n (suc k) → Rank n (suc k) (rank - bit (f k)) (ranked f n (suc k) (rank - bit (f k))))
          → Rank (suc n) k rank (ranked f (suc n) k rank)
      go (inl t) (inl z) rest =
          let none : k - k ≡ 0 = omega arith in
          rw (t, z) (record { from = omega arith; below = omega arith; holds = t; others = ap (λ (d : ℕ). how_many f d k) none ∙ sym (eqb-true rank 0 z) })
      go (inl t) (inr z) rest =
          let some : rank ≡ 0 → ⊥ = eqb-false rank 0 z in
          let one : bit (f k) ≡ 1 = rw t in
          later (omega arith) (rest (omega arith))
      go (inr t) z rest =
          let none : bit (f k) ≡ 0 = rw t in
          later (omega arith) (rest (omega arith))

  -- past the first one
  rank-further : (n k rank found : ℕ) → Rank (suc n) k rank found → (found ≡ k → ⊥) → (bit (f k) ≤ rank) × Rank n (suc k) (rank - bit (f k)) found
  rank-further n k rank found r ne =
      let up : found - k ≡ suc (found - suc k) = omega (arith, r.from) in
      let split : bit (f k) + how_many f (found - suc k) (suc k) ≡ rank = ap (λ (d : ℕ). how_many f d k) (sym up) ∙ r.others in (
        omega arith,
        record { from = omega (arith, r.from); below = omega (arith, r.below); holds = r.holds; others = omega arith },
      )

  -- no other has that rank
  pub ranked-only : (n k rank found : ℕ) → Rank n k rank found → ranked f n k rank ≡ found
  ranked-only zero k rank found r = absurd (omega (arith, r.from, r.below))
  ranked-only (suc n) k rank found r = go (which (eqb found k)) (λ q. ranked-only n (suc k) (rank - bit (f k)) found q)
    where
      go : (eqb found k ≡ true) ⊎ (eqb found k ≡ false) → (Rank n (suc k) (rank - bit (f k)) found → ranked f n (suc k) (rank - bit (f k)) ≡ found)
          → ranked f (suc n) k rank ≡ found
      go (inl e) rest =
          let here : found ≡ k = eqb-true found k e in
          let t : f k ≡ true = ap f (sym here) ∙ r.holds in
          let none : found - k ≡ 0 = omega arith in
          let z : eqb rank 0 ≡ true = eq-eqb rank 0 (sym r.others ∙ ap (λ (d : ℕ). how_many f d k) none) in
          rw (t, z) (sym here)
      go (inr e) rest =
          let q = rank-further n k rank found r (eqb-false found k e) in
          ranked-past n k rank q.0 ∙ rest q.1
