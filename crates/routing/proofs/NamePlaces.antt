-- Places in lists of step names, and names in bytes.
-- Assumes nothing.
use Prim.Native.Nat.{ℕ, suc, ◌<◌}
use native.Mathlib.Omega.{arith}
use mathlib.Core.Path.{◌≡◌, ap}
use mathlib.Core.Logic.{◌⊎◌, inl, inr}
use mathlib.Core.Bool.{true, false, false≢true}
use mathlib.Core.List.{List, [], ◌∷◌, ◌++◌}
use lib.ListN.{length}
use Rattle.trace.specs.Machine.{Name}
use Rattle.trace.specs.Order.{eq_name, mem}
use Rattle.trace.specs.Route.{place, remove}
use Rattle.trace.proofs.Bools.{which, is_false}
use Rattle.trace.proofs.Names.{eq_name-refl, eq_name-true}
use Rattle.names.specs.InByte.{name_of}
use Rattle.names.proofs.NamedBytes.{named-once}

-- ---- a name stands in one byte

pub name-same : (x y : ℕ) → x ≡ y → eq_name (name_of x) (name_of y) ≡ true
name-same x y e = rw e (eq_name-refl (name_of y))

pub name-other : (x y : ℕ) → (x ≡ y → ⊥) → eq_name (name_of x) (name_of y) ≡ false
name-other x y ne = is_false _ (λ h. ne (named-once x y (eq_name-true (name_of x) (name_of y) h)))

-- ---- a name that a list holds has its place within it, whatever follows

pub place-below : (y : Name) (u : List Name) → mem y u ≡ true → place y u < length u
place-below y [] m = absurd (false≢true m)
place-below y (x ∷ u) m = go (which (eq_name y x)) (place-below y u)
  where
    go : (eq_name y x ≡ true) ⊎ (eq_name y x ≡ false) → (mem y u ≡ true → place y u < length u) → place y (x ∷ u) < length (x ∷ u)
    go (inl e) rest = rw e (omega arith)
    go (inr e) rest = rw e (omega (arith, rest (rw e at m)))

pub mem-front : (y : Name) (u w : List Name) → mem y u ≡ true → mem y (u ++ w) ≡ true
mem-front y [] w m = absurd (false≢true m)
mem-front y (x ∷ u) w m = go (which (eq_name y x)) (mem-front y u w)
  where
    go : (eq_name y x ≡ true) ⊎ (eq_name y x ≡ false) → (mem y u ≡ true → mem y (u ++ w) ≡ true) → mem y ((x ∷ u) ++ w) ≡ true
    go (inl e) rest = rw e
    go (inr e) rest = rw e (rest (rw e at m))

pub place-front : (y : Name) (u w : List Name) → mem y u ≡ true → place y (u ++ w) ≡ place y u
place-front y [] w m = absurd (false≢true m)
place-front y (x ∷ u) w m = go (which (eq_name y x)) (place-front y u w)
  where
    go : (eq_name y x ≡ true) ⊎ (eq_name y x ≡ false) → (mem y u ≡ true → place y (u ++ w) ≡ place y u) → place y ((x ∷ u) ++ w) ≡ place y (x ∷ u)
    go (inl e) rest = rw e
    go (inr e) rest = rw e (ap suc (rest (rw e at m)))

pub remove-front : (y : Name) (u w : List Name) → mem y u ≡ true → remove y (u ++ w) ≡ remove y u ++ w
remove-front y [] w m = absurd (false≢true m)
remove-front y (x ∷ u) w m = go (which (eq_name y x)) (remove-front y u w)
  where
    go : (eq_name y x ≡ true) ⊎ (eq_name y x ≡ false) → (mem y u ≡ true → remove y (u ++ w) ≡ remove y u ++ w)
        → remove y ((x ∷ u) ++ w) ≡ remove y (x ∷ u) ++ w
    go (inl e) rest = rw e
    go (inr e) rest = rw e (ap {B = List Name} (λ l. x ∷ l) (rest (rw e at m)))
