-- Order by places: `before` as a comparison of two places, and `reorders` as a search through the pairs of entries i < j.
-- Assumes nothing.
use Prim.Native.Nat.{ℕ, zero, suc, ◌<◌}
use native.Mathlib.Nat.{le_of_suc-le-suc, not-suc-le-zero}
use native.Mathlib.Omega.{arith}
use mathlib.Core.Path.{◌≡◌, sym, ◌∙◌, ap}
use mathlib.Core.Logic.{◌⊎◌, inl, inr}
use mathlib.Core.Bool.{Bool, true, false, false≢true}
use mathlib.Core.List.{List, [], ◌∷◌}
use borrow.Author.Tests.{lt-ltb, le-ltb}
use lib.Dec.{ltb, leb-suc-suc}
use lib.ListN.{length, get_or}
use Rattle.trace.specs.Machine.{Name}
use Rattle.trace.specs.Order.{eq_name, mem, before, Distinct}
use Rattle.trace.specs.Same.{reorders}
use Rattle.trace.specs.Route.{place}
use Rattle.trace.specs.Search.{has_ended, search, unnamed, entry, opposed}
use Rattle.trace.proofs.Bools.{which, contrary, is_false, both, and_left, and_right}
use Rattle.trace.proofs.Names.{eq_name-true, mem-head, mem-tail, mem-cases, before_head, before-tail, before-cases, before-absent}
use Rattle.trace.proofs.Reorders.{Reordered, reorders-of, reorders-some}
use Rattle.trace.proofs.Searched.{NoneBefore, Ends, search-none, search-ends, search-cases}

-- ---- in a list that holds no name twice, the name at the lower place stands before the other

pub before-place : (x y : Name) (v : List Name) → Distinct v → mem x v ≡ true → mem y v ≡ true → before x y v ≡ ltb (place x v) (place y v)
before-place x y [] d mx my = absurd (false≢true mx)
before-place x y (z ∷ v) d mx my = go (which (eq_name x z)) (which (eq_name y z)) (before-place x y v d.1)
  where
    go : (eq_name x z ≡ true) ⊎ (eq_name x z ≡ false) → (eq_name y z ≡ true) ⊎ (eq_name y z ≡ false)
        → (mem x v ≡ true → mem y v ≡ true → before x y v ≡ ltb (place x v) (place y v))
        → before x y (z ∷ v) ≡ ltb (place x (z ∷ v)) (place y (z ∷ v))
    go (inl e) (inl g) rest =
        let n : mem y v ≡ false = rw (eq_name-true y z g) d.0 in
        rw (e, g, n, before-absent x y v n)
    go (inl e) (inr g) rest =
        let m : mem y v ≡ true = rw g at my in
        rw (e, g, m) (sym (lt-ltb 0 (suc (place y v)) (omega arith)))
    go (inr e) (inl g) rest =
        let n : mem y v ≡ false = rw (eq_name-true y z g) d.0 in
        rw (e, g, before-absent x y v n) (sym (le-ltb (suc (place x v)) 0 (omega arith)))
    go (inr e) (inr g) rest = rw (e, g) (rest (rw e at mx) (rw g at my) ∙ sym (leb-suc-suc (suc (place x v)) (place y v)))

-- ---- the pairs of entries i < j

mem-at : (d : Name) (u : List Name) (j : ℕ) → j < length u → mem (get_or u j d) u ≡ true
mem-at d [] j h = absurd (not-suc-le-zero h)
mem-at d (z ∷ u) zero h = mem-head z u
mem-at d (z ∷ u) (suc j) h = mem-tail (get_or u j d) z u (mem-at d u j (le_of_suc-le-suc h))

before_at : (d : Name) (u : List Name) (i j : ℕ) → i < j → j < length u → before (get_or u i d) (get_or u j d) u ≡ true
before_at d [] i j h l = absurd (not-suc-le-zero l)
before_at d (z ∷ u) zero zero h l = absurd (not-suc-le-zero h)
before_at d (z ∷ u) zero (suc j) h l = before_head z (get_or u j d) u (mem-at d u j (le_of_suc-le-suc l))
before_at d (z ∷ u) (suc i) zero h l = absurd (not-suc-le-zero h)
before_at d (z ∷ u) (suc i) (suc j) h l = before-tail (get_or u i d) (get_or u j d) z u (before_at d u i j (le_of_suc-le-suc h) (le_of_suc-le-suc l))

at_mem : (d y : Name) (u : List Name) → mem y u ≡ true → (j : ℕ) × (j < length u) × (get_or u j d ≡ y)
at_mem d y [] m = absurd (false≢true m)
at_mem d y (z ∷ u) m = go (mem-cases y z u m) (at_mem d y u)
  where
    go : (y ≡ z) ⊎ (mem y u ≡ true) → (mem y u ≡ true → (j : ℕ) × (j < length u) × (get_or u j d ≡ y))
        → (j : ℕ) × (j < length (z ∷ u)) × (get_or (z ∷ u) j d ≡ y)
    go (inl e) rest = (zero, omega arith, sym e)
    go (inr n) rest = let r = rest n in (suc r.0, omega (arith, r.1), r.2)

at_before : (d x y : Name) (u : List Name) → before x y u ≡ true
    → (i : ℕ) × (j : ℕ) × (i < j) × (j < length u) × (get_or u i d ≡ x) × (get_or u j d ≡ y)
at_before d x y [] b = absurd (false≢true b)
at_before d x y (z ∷ u) b = go (before-cases x y z u b) (at_before d x y u)
  where
    go : ((x ≡ z) × (mem y u ≡ true)) ⊎ (before x y u ≡ true)
        → (before x y u ≡ true → (i : ℕ) × (j : ℕ) × (i < j) × (j < length u) × (get_or u i d ≡ x) × (get_or u j d ≡ y))
        → (i : ℕ) × (j : ℕ) × (i < j) × (j < length (z ∷ u)) × (get_or (z ∷ u) i d ≡ x) × (get_or (z ∷ u) j d ≡ y)
    go (inl e) rest = let r = at_mem d y u e.1 in (zero, suc r.0, omega arith, omega (arith, r.1), sym e.0, r.2)
    go (inr n) rest = let r = rest n in (suc r.0, suc r.1, omega (arith, r.2), omega (arith, r.3), r.4, r.5)

module _ (dep : Name → Name → Bool) (u v : List Name) where
  opposed-reorders : (i j : ℕ) → i < j → j < length u → opposed dep u v i j ≡ true → reorders dep u v ≡ true
  opposed-reorders i j h l o =
      reorders-of dep v u (record {
        x = entry u i;
        y = entry u j;
        first = before_at unnamed u i j h l;
        dependent = and_left (dep (entry u i) (entry u j)) (before (entry u j) (entry u i) v) o;
        second = and_right (dep (entry u i) (entry u j)) (before (entry u j) (entry u i) v) o;
      })

  none-opposed : NoneBefore (opposed dep u v) (length u) → reorders dep u v ≡ false
  none-opposed none = is_false _ (λ h. found (reorders-some dep v u h))
    where
      found : Reordered dep u v → ⊥
      found r =
          let a = at_before unnamed r.x r.y u r.first in
          let o : opposed dep u v a.0 a.1 ≡ true = rw (a.4, a.5) (both r.dependent r.second) in
          contrary o (none a.1 a.3 a.0 a.2)

  -- the search ends exactly where a pair is reordered
  pub search-reorders : has_ended (search (opposed dep u v) (length u)) ≡ reorders dep u v
  search-reorders = go (search-cases (opposed dep u v) (length u))
    where
      go : Ends (opposed dep u v) (length u) ⊎ NoneBefore (opposed dep u v) (length u) → has_ended (search (opposed dep u v) (length u)) ≡ reorders dep u v
      go (inl e) =
          ap has_ended (search-ends (opposed dep u v) (length u) e)
          ∙ sym (opposed-reorders e.earlier.at e.later e.earlier.below e.later-below e.earlier.passes)
      go (inr none) = ap has_ended (search-none (opposed dep u v) (length u) none) ∙ sym (none-opposed none)
