-- What `reorders` tests: that some dependent pair stands in one order in the first list and in the other in the second. It does not matter in
-- which order the pairs are looked at. Assumes nothing.
use mathlib.Core.Path.{◌≡◌}
use mathlib.Core.Logic.{◌⊎◌, inl, inr}
use mathlib.Core.Bool.{Bool, true, ◌&&◌, false≢true}
use mathlib.Core.List.{List, [], ◌∷◌}
use Rattle.trace.specs.Machine.{Name}
use Rattle.trace.specs.Order.{mem, before, any}
use Rattle.trace.specs.Same.{reorders}
use Rattle.trace.proofs.Bools.{both, and_left, and_right, or_left, or_right, or_cases}
use Rattle.trace.proofs.Names.{any_of, any_some, before-cases, before_head, before-tail}

-- a dependent pair that the two lists hold in opposite orders
pub record Reordered (dep : Name → Name → Bool) (u v : List Name) : Type 0 where
  pub x : Name
  pub y : Name
  pub first : before x y u ≡ true
  pub dependent : dep x y ≡ true
  pub second : before y x v ≡ true

module _ (dep : Name → Name → Bool) (v : List Name) where
  pub reorders-of : (u : List Name) → Reordered dep u v → reorders dep u v ≡ true
  reorders-of [] r = absurd (false≢true r.first)
  reorders-of (z ∷ u) r = go (before-cases r.x r.y z u r.first) (reorders-of u)
    where
      f : Name → Bool
      f y = dep z y && before y z v

      go : ((r.x ≡ z) × (mem r.y u ≡ true)) ⊎ (before r.x r.y u ≡ true) → (Reordered dep u v → reorders dep u v ≡ true)
          → reorders dep (z ∷ u) v ≡ true
      go (inl e) rest =
          or_left (any f u) (reorders dep u v) (any_of f r.y u e.1 (both (rw e.0 at r.dependent) (rw e.0 at r.second)))
      go (inr b) rest =
          or_right (any f u) (reorders dep u v)
          (rest (record { x = r.x; y = r.y; first = b; dependent = r.dependent; second = r.second }))

  pub reorders-some : (u : List Name) → reorders dep u v ≡ true → Reordered dep u v
  reorders-some [] h = absurd (false≢true h)
  reorders-some (z ∷ u) h = go (or_cases (any f u) (reorders dep u v) h) (reorders-some u)
    where
      f : Name → Bool
      f y = dep z y && before y z v

      go : (any f u ≡ true) ⊎ (reorders dep u v ≡ true) → (reorders dep u v ≡ true → Reordered dep u v) → Reordered dep (z ∷ u) v
      go (inl e) rest =
          let a = any_some f u e in
          record {
            x = z;
            y = a.0;
            first = before_head z a.0 u a.1;
            dependent = and_left (dep z a.0) (before a.0 z v) a.2;
            second = and_right (dep z a.0) (before a.0 z v) a.2;
          }
      go (inr n) rest =
          let r : Reordered dep u v = rest n in
          record { x = r.x; y = r.y; first = before-tail r.x r.y z u r.first; dependent = r.dependent; second = r.second }
