-- Two lists that hold the same names, each once.
-- Assumes nothing.
use Prim.Native.Nat.{suc}
use native.Mathlib.Nat.{suc_inj, suc-ne-zero}
use mathlib.Core.Path.{◌≡◌, refl, sym, ◌∙◌, ap}
use mathlib.Core.Logic.{◌⊎◌, inl, inr}
use mathlib.Core.Bool.{true, false, false≢true}
use mathlib.Core.List.{List, [], ◌∷◌}
use lib.ListN.{length}
use Rattle.trace.specs.Machine.{Name}
use Rattle.trace.specs.Order.{eq_name, mem, Distinct}
use Rattle.trace.specs.Route.{remove}
use Rattle.trace.proofs.Bools.{which, contrary}
use Rattle.trace.proofs.Names.{eq_name-refl, mem-head, mem-tail, mem-cases}
use Rattle.trace.proofs.Remove.{mem-remove, remove-mem, remove-gone, remove-distinct}

pub record SameNames (u v : List Name) : Type 0 where
  pub once-first : Distinct u
  pub once-second : Distinct v
  pub in-second : (x : Name) → mem x u ≡ true → mem x v ≡ true
  pub in-first : (x : Name) → mem x v ≡ true → mem x u ≡ true

pub same-nil : (u : List Name) → SameNames u [] → u ≡ []
same-nil [] a = refl
same-nil (x ∷ u) a = absurd (false≢true (a.in-second x (mem-head x u)))

pub same_head : (y : Name) (u v : List Name) → SameNames u (y ∷ v) → mem y u ≡ true
same_head y u v a = a.in-first y (mem-head y v)

-- the second list's head taken from both
pub same-tail : (y : Name) (u v : List Name) → SameNames u (y ∷ v) → SameNames (remove y u) v
same-tail y u v a =
    record {
      once-first = remove-distinct y u a.once-first;
      once-second = a.once-second.1;
      in-second = λ x m. left x m (mem-cases x y v (a.in-second x (remove-mem x y u m)));
      in-first = λ x m. mem-remove x y u (λ e. contrary m (rw e a.once-second.0)) (a.in-first x (mem-tail x y v m));
    }
  where
    left : (x : Name) → mem x (remove y u) ≡ true → (x ≡ y) ⊎ (mem x v ≡ true) → mem x v ≡ true
    left x m (inl e) = contrary m (rw e (remove-gone y u a.once-first))
    left x m (inr n) = n

-- ---- of two lists of one length, that hold no name twice, each holds the other's names where one does

remove-length : (y : Name) (u : List Name) → mem y u ≡ true → length u ≡ suc (length (remove y u))
remove-length y [] m = absurd (false≢true m)
remove-length y (x ∷ u) m = go (which (eq_name y x)) (remove-length y u)
  where
    go : (eq_name y x ≡ true) ⊎ (eq_name y x ≡ false) → (mem y u ≡ true → length u ≡ suc (length (remove y u)))
        → length (x ∷ u) ≡ suc (length (remove y (x ∷ u)))
    go (inl e) rest = rw e
    go (inr e) rest = rw e (ap suc (rest (rw e at m)))

pub in_both : (u v : List Name) → Distinct u → length u ≡ length v → ((x : Name) → mem x u ≡ true → mem x v ≡ true)
    → (x : Name) → mem x v ≡ true → mem x u ≡ true
in_both [] [] d l sub x m = m
in_both [] (z ∷ v) d l sub x m = absurd (suc-ne-zero (length v) (sym l))
in_both (y ∷ u) v d l sub x m = go (which (eq_name x y)) (in_both u (remove y v) d.1 shorter kept x)
  where
    shorter : length u ≡ length (remove y v)
    shorter = suc_inj (l ∙ remove-length y v (sub y (mem-head y u)))

    kept : (z : Name) → mem z u ≡ true → mem z (remove y v) ≡ true
    kept z n = mem-remove z y v (λ e. contrary n (rw e d.0)) (sub z (mem-tail z y u n))

    go : (eq_name x y ≡ true) ⊎ (eq_name x y ≡ false) → (mem x (remove y v) ≡ true → mem x u ≡ true) → mem x (y ∷ u) ≡ true
    go (inl e) rest = rw e
    go (inr e) rest = rw e (rest (mem-remove x y v (λ k. contrary (rw k (eq_name-refl y)) e) m))
