-- What the laws give along a schedule: the invariant holds, what is ready stays ready, and no step name is run twice.
-- Assumes nothing.
use Prim.Native.Nat.{ℕ, suc, ◌≤◌, ◌<◌}
use native.Mathlib.Omega.{arith}
use native.Mathlib.Nat.{le_refl, le_trans}
use mathlib.Core.Path.{◌≡◌, refl, ◌∙◌, ap}
use mathlib.Core.Logic.{◌⊎◌, inl, inr, ◌≢◌}
use mathlib.Core.Bool.{true, false, false≢true}
use mathlib.Core.List.{List, [], ◌∷◌, ◌++◌, map}
use borrow.Author.Tests.{eqb-true, eqb-false}
use lib.Dec.{eqb}
use lib.ListN.{length}
use Rattle.trace.specs.Machine.{Machine, Name, name_of}
use Rattle.trace.specs.Laws.{Laws}
use Rattle.trace.specs.Schedule.{accepted, final, names}
use Rattle.trace.specs.Order.{mem, Distinct, has}
use Rattle.trace.specs.Theorems.{StaysReady}
use Rattle.trace.proofs.Bools.{which, is_false, and_left, and_right, or-false-left, or-false-right}
use Rattle.trace.proofs.Names.{mem-cases}

module _ (M : Machine) where
  -- a schedule is its names' actors
  pub actors : (s : M.State) (p : List ℕ) → map (λ (x : Name). x.actor) (names M s p) ≡ p
  actors s [] = refl
  actors s (a ∷ p) = ap {B = List ℕ} (λ r. a ∷ r) (actors (M.step s a) p)

  pub names-length : (s : M.State) (p : List ℕ) → length (names M s p) ≡ length p
  names-length s [] = refl
  names-length s (a ∷ p) = ap suc (names-length (M.step s a) p)

  pub final-append : (s : M.State) (p q : List ℕ) → final M s (p ++ q) ≡ final M (final M s p) q
  final-append s [] q = refl
  final-append s (a ∷ p) q = final-append (M.step s a) p q

  pub accepted-append : (s : M.State) (p q : List ℕ) → accepted M s (p ++ q) ≡ true
      → (accepted M s p ≡ true) × (accepted M (final M s p) q ≡ true)
  accepted-append s [] q h = (refl, h)
  accepted-append s (a ∷ p) q h =
      let r = accepted-append (M.step s a) p q (and_right (M.ready s a) (accepted M (M.step s a) (p ++ q)) h) in
      (rw (and_left (M.ready s a) (accepted M (M.step s a) (p ++ q)) h) r.0, r.1)

  pub first-ready : (s : M.State) (a : ℕ) (p : List ℕ) → accepted M s (a ∷ p) ≡ true → M.ready s a ≡ true
  first-ready s a p h = and_left (M.ready s a) (accepted M (M.step s a) p) h

  pub rest-accepted : (s : M.State) (a : ℕ) (p : List ℕ) → accepted M s (a ∷ p) ≡ true → accepted M (M.step s a) p ≡ true
  rest-accepted s a p h = and_right (M.ready s a) (accepted M (M.step s a) p) h

  -- after an accepted beginning, the rest decides
  pub accepted-after : (s : M.State) (p q : List ℕ) → accepted M s p ≡ true → accepted M s (p ++ q) ≡ accepted M (final M s p) q
  accepted-after s [] q h = refl
  accepted-after s (a ∷ p) q h = rw (first-ready s a p h) (accepted-after (M.step s a) p q (rest-accepted s a p h))

module _ {M : Machine} {Inv : M.State → Type 0} (L : Laws M Inv) where
  pub inv-final : (s : M.State) (p : List ℕ) → Inv s → accepted M s p ≡ true → Inv (final M s p)
  inv-final s [] i h = i
  inv-final s (a ∷ p) i h = inv-final (M.step s a) p (L.inv-step s a i (first-ready M s a p h)) (rest-accepted M s a p h)

  -- ---- readiness lasts

  stays : (s : M.State) (p : List ℕ) (a : ℕ) → Inv s → M.ready s a ≡ true → has p a ≡ false → accepted M s p ≡ true
      → (M.ready (final M s p) a ≡ true) × (M.pos (final M s p) a ≡ M.pos s a)
  stays s [] a i r n h = (r, refl)
  stays s (b ∷ p) a i r n h =
      let rb : M.ready s b ≡ true = first-ready M s b p h in
      let ne : a ≢ b = eqb-false a b (or-false-left (eqb a b) (has p a) n) in
      let t = stays (M.step s b) p a (L.inv-step s b i rb) (L.persist s a b i ne r rb) (or-false-right (eqb a b) (has p a) n) (rest-accepted M s b p h) in
      (t.0, t.1 ∙ L.pos-other s a b i ne rb)

  pub stays-ready : (s : M.State) → Inv s → (p more : List ℕ) (a : ℕ) → M.ready (final M s p) a ≡ true → has more a ≡ false
      → accepted M s (p ++ more) ≡ true → StaysReady M s p more a
  stays-ready s i p more a r n h =
      let g = accepted-append M s p more h in
      let t = stays (final M s p) more a (inv-final s p i g.0) r n g.1 in
      record { still-ready = rw (final-append M s p more) t.0; same-action = rw (final-append M s p more) t.1 }

  -- ---- no name is run twice: an own step raises the own position, and no step lowers one

  pos_rises : (s : M.State) (a b : ℕ) → Inv s → M.ready s b ≡ true → M.pos s a ≤ M.pos (M.step s b) a
  pos_rises s a b i r = go (which (eqb a b))
    where
      go : (eqb a b ≡ true) ⊎ (eqb a b ≡ false) → M.pos s a ≤ M.pos (M.step s b) a
      go (inl e) = rw (eqb-true a b e) (let h : M.pos s b < M.pos (M.step s b) b = L.pos-own s b i r in omega arith)
      go (inr e) = let h : M.pos (M.step s b) a ≡ M.pos s a = L.pos-other s a b i (eqb-false a b e) r in omega arith

  -- each name run lies at its actor's position or above it
  pub name-above : (s : M.State) (p : List ℕ) → Inv s → accepted M s p ≡ true → (x : Name) → mem x (names M s p) ≡ true
      → M.pos s x.actor ≤ x.position
  name-above s [] i h x m = absurd (false≢true m)
  name-above s (a ∷ p) i h x m =
      go (mem-cases x (name_of M s a) (names M (M.step s a) p) m) (name-above (M.step s a) p (L.inv-step s a i r) (rest-accepted M s a p h) x)
    where
      r : M.ready s a ≡ true
      r = first-ready M s a p h

      go : (x ≡ name_of M s a) ⊎ (mem x (names M (M.step s a) p) ≡ true)
          → (mem x (names M (M.step s a) p) ≡ true → M.pos (M.step s a) x.actor ≤ x.position) → M.pos s x.actor ≤ x.position
      go (inl e) rest = rw e (le_refl (M.pos s a))
      go (inr n) rest = le_trans (pos_rises s x.actor a i r) (rest n)

  pub names-distinct : (s : M.State) (p : List ℕ) → Inv s → accepted M s p ≡ true → Distinct (names M s p)
  names-distinct s [] i h = tt
  names-distinct s (a ∷ p) i h = (is_false _ once, names-distinct (M.step s a) p next (rest-accepted M s a p h))
    where
      next : Inv (M.step s a)
      next = L.inv-step s a i (first-ready M s a p h)

      once : mem (name_of M s a) (names M (M.step s a) p) ≡ true → ⊥
      once m =
          let low : M.pos (M.step s a) a ≤ M.pos s a = name-above (M.step s a) p next (rest-accepted M s a p h) (name_of M s a) m in
          let up : M.pos s a < M.pos (M.step s a) a = L.pos-own s a i (first-ready M s a p h) in
          omega arith
