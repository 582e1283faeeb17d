-- A list of names without one of them.
-- Assumes nothing.
use mathlib.Core.Path.{◌≡◌, refl, sym, ◌∙◌, subst}
use mathlib.Core.Logic.{◌⊎◌, inl, inr, ◌≢◌}
use mathlib.Core.Bool.{true, false}
use mathlib.Core.List.{List, [], ◌∷◌}
use Rattle.trace.specs.Machine.{Name}
use Rattle.trace.specs.Order.{eq_name, mem, before, Distinct}
use Rattle.trace.specs.Route.{remove}
use Rattle.trace.proofs.Bools.{which, contrary, is_false}
use Rattle.trace.proofs.Names.{eq_name-true, mem-here, mem-tail, mem-cases, before-cases, before-tail, before_head}

-- what else the list holds is left
pub mem-remove : (x y : Name) (u : List Name) → x ≢ y → mem x u ≡ true → mem x (remove y u) ≡ true
mem-remove x y [] ne m = m
mem-remove x y (z ∷ u) ne m = go (which (eq_name y z)) (mem-cases x z u m) (mem-remove x y u ne)
  where
    go : (eq_name y z ≡ true) ⊎ (eq_name y z ≡ false) → (x ≡ z) ⊎ (mem x u ≡ true) → (mem x u ≡ true → mem x (remove y u) ≡ true)
        → mem x (remove y (z ∷ u)) ≡ true
    go (inl e) (inl h) rest = absurd (ne (h ∙ sym (eq_name-true y z e)))
    go (inl e) (inr n) rest = rw e n
    go (inr e) (inl h) rest = rw e (mem-here x z (remove y u) h)
    go (inr e) (inr n) rest = rw e (mem-tail x z (remove y u) (rest n))

-- what is left was there
pub remove-mem : (x y : Name) (u : List Name) → mem x (remove y u) ≡ true → mem x u ≡ true
remove-mem x y [] h = h
remove-mem x y (z ∷ u) h = go (which (eq_name y z)) (remove-mem x y u)
  where
    past : (x ≡ z) ⊎ (mem x (remove y u) ≡ true) → (mem x (remove y u) ≡ true → mem x u ≡ true) → mem x (z ∷ u) ≡ true
    past (inl k) rest = mem-here x z u k
    past (inr n) rest = mem-tail x z u (rest n)

    go : (eq_name y z ≡ true) ⊎ (eq_name y z ≡ false) → (mem x (remove y u) ≡ true → mem x u ≡ true) → mem x (z ∷ u) ≡ true
    go (inl e) rest = mem-tail x z u (rw e at h)
    go (inr e) rest = past (mem-cases x z (remove y u) (rw e at h)) rest

-- and it stands in the order that it had
pub remove-before : (x w y : Name) (u : List Name) → before x w (remove y u) ≡ true → before x w u ≡ true
remove-before x w y [] h = h
remove-before x w y (z ∷ u) h = go (which (eq_name y z)) (remove-before x w y u)
  where
    past : ((x ≡ z) × (mem w (remove y u) ≡ true)) ⊎ (before x w (remove y u) ≡ true)
        → (before x w (remove y u) ≡ true → before x w u ≡ true) → before x w (z ∷ u) ≡ true
    past (inl k) rest = subst (λ (v : Name). before v w (z ∷ u) ≡ true) (sym k.0) (before_head z w u (remove-mem w y u k.1))
    past (inr b) rest = before-tail x w z u (rest b)

    go : (eq_name y z ≡ true) ⊎ (eq_name y z ≡ false) → (before x w (remove y u) ≡ true → before x w u ≡ true) → before x w (z ∷ u) ≡ true
    go (inl e) rest = before-tail x w z u (rw e at h)
    go (inr e) rest = past (before-cases x w z (remove y u) (rw e at h)) rest

pub remove-gone : (y : Name) (u : List Name) → Distinct u → mem y (remove y u) ≡ false
remove-gone y [] d = refl
remove-gone y (z ∷ u) d = go (which (eq_name y z)) (remove-gone y u d.1)
  where
    go : (eq_name y z ≡ true) ⊎ (eq_name y z ≡ false) → mem y (remove y u) ≡ false → mem y (remove y (z ∷ u)) ≡ false
    go (inl e) rest = rw e (rw (eq_name-true y z e) d.0)
    go (inr e) rest = rw (e, e) rest

pub remove-distinct : (y : Name) (u : List Name) → Distinct u → Distinct (remove y u)
remove-distinct y [] d = tt
remove-distinct y (z ∷ u) d = go (which (eq_name y z)) (remove-distinct y u d.1)
  where
    go : (eq_name y z ≡ true) ⊎ (eq_name y z ≡ false) → Distinct (remove y u) → Distinct (remove y (z ∷ u))
    go (inl e) rest = rw e d.1
    go (inr e) rest = rw e (is_false _ (λ m. contrary (remove-mem z y u m) d.0), rest)
