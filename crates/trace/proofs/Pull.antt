-- The route as a chain of names. The head of the second list is pulled to the front of the first, past names that are all independent of it; then
-- the tails are joined in the same way. Assumes nothing.
use Prim.Native.Nat.{ℕ, zero, suc, ◌+◌}
use native.Mathlib.Nat.{add-zero}
use native.Mathlib.Omega.{arith}
use mathlib.Core.Path.{◌≡◌, refl, sym, ap, subst}
use mathlib.Core.Logic.{◌⊎◌, inl, inr}
use mathlib.Core.Bool.{Bool, true, false, not, false≢true}
use mathlib.Core.List.{List, [], ◌∷◌, ◌++◌}
use lib.ListN.{length}
use lib.Seq.{append_snoc}
use Rattle.trace.specs.Machine.{Name}
use Rattle.trace.specs.Order.{eq_name, mem, before}
use Rattle.trace.specs.Chain.{swap_at, independent_at}
use Rattle.trace.specs.Route.{place, remove, pull, route_from}
use Rattle.trace.proofs.Bools.{which, contrary}
use Rattle.trace.proofs.Names.{eq_name-true, mem-cases, before_head, before-tail, before-mem, before-asym}
use Rattle.trace.proofs.Remove.{remove-before}
use Rattle.trace.proofs.SameNames.{SameNames, same-nil, same_head, same-tail}
use Rattle.trace.proofs.Linked.{Linked, linked-append}

swap-seam : (w : List Name) (x y : Name) (r : List Name) → swap_at (length w) (w ++ x ∷ y ∷ r) ≡ w ++ y ∷ x ∷ r
swap-seam [] x y r = refl
swap-seam (z ∷ w) x y r = ap {B = List Name} (λ l. z ∷ l) (swap-seam w x y r)

length-snoc : (w : List Name) (x : Name) → length (w ++ x ∷ []) ≡ suc (length w)
length-snoc [] x = refl
length-snoc (z ∷ w) x = ap suc (length-snoc w x)

-- the last of the positions is the first that the entry comes to
pull-snoc : (b k : ℕ) → pull b (suc k) ≡ pull (suc b) k ++ (b ∷ [])
pull-snoc b zero = ap {B = List ℕ} (λ k. k ∷ []) (add-zero b)
pull-snoc b (suc k) =
    let e : b + suc k ≡ suc b + k = omega arith in
    rw (e, pull-snoc b k)

module _ (dep : Name → Name → Bool) where
  independent-seam : (w : List Name) (x y : Name) (r : List Name) → independent_at dep (length w) (w ++ x ∷ y ∷ r) ≡ not (dep x y)
  independent-seam [] x y r = refl
  independent-seam (z ∷ w) x y r = independent-seam w x y r

  -- a name that is independent of all before it is pulled to the front
  pull-linked : (y : Name) (u w : List Name) → mem y u ≡ true → ((x : Name) → before x y u ≡ true → dep x y ≡ false)
      → Linked dep (pull (length w) (place y u)) (w ++ u) (w ++ y ∷ remove y u)
  pull-linked y [] w m free = absurd (false≢true m)
  pull-linked y (x ∷ u) w m free =
      go (which (eq_name y x)) (λ n. pull-linked y u (w ++ x ∷ []) n (λ z b. free z (before-tail z y x u b)))
    where
      go : (eq_name y x ≡ true) ⊎ (eq_name y x ≡ false)
          → (mem y u ≡ true → Linked dep (pull (length (w ++ x ∷ [])) (place y u)) (w ++ x ∷ [] ++ u) (w ++ x ∷ [] ++ y ∷ remove y u))
          → Linked dep (pull (length w) (place y (x ∷ u))) (w ++ x ∷ u) (w ++ y ∷ remove y (x ∷ u))
      go (inl e) rest = rw e (rw (eq_name-true y x e))
      go (inr e) rest =
          let n : mem y u ≡ true = rw e at m in
          let to-x : Linked dep (pull (suc (length w)) (place y u)) (w ++ x ∷ u) (w ++ x ∷ y ∷ remove y u) =
          rw (length-snoc w x, append_snoc w x u, append_snoc w x (y ∷ remove y u)) at (rest n) in
          let i : independent_at dep (length w) (w ++ x ∷ y ∷ remove y u) ≡ true =
          rw (independent-seam w x y (remove y u), free x (before_head x y u n)) refl in
          rw e
          (subst (λ (ks : List ℕ). Linked dep ks (w ++ x ∷ u) (w ++ y ∷ x ∷ remove y u)) (sym (pull-snoc (length w) (place y u)))
          (linked-append dep (pull (suc (length w)) (place y u)) (length w ∷ []) (w ++ x ∷ u) (w ++ x ∷ y ∷ remove y u)
          (w ++ y ∷ x ∷ remove y u) to-x (i, swap-seam w x y (remove y u))))

  -- two lists of the same names that hold no dependent pair in opposite orders, both after w
  pub route-linked : (v u w : List Name) → SameNames u v → ((x y : Name) → before x y u ≡ true → before y x v ≡ true → dep x y ≡ false)
      → Linked dep (route_from (length w) u v) (w ++ u) (w ++ v)
  route-linked [] u w a free = rw (same-nil u a)
  route-linked (y ∷ v) u w a free =
      linked-append dep (pull (length w) (place y u)) (route_from (suc (length w)) (remove y u) v) (w ++ u) (w ++ y ∷ remove y u) (w ++ y ∷ v)
      (pull-linked y u w (same_head y u v a) head-free)
      (rw (length-snoc w y, append_snoc w y (remove y u), append_snoc w y v) at (route-linked v (remove y u) (w ++ y ∷ []) (same-tail y u v a) tail-free))
    where
      other : (x : Name) → before x y u ≡ true → (x ≡ y) ⊎ (mem x v ≡ true) → mem x v ≡ true
      other x b (inl e) = contrary (rw e at b) (rw e at (before-asym x y u a.once-first b))
      other x b (inr n) = n

      head-free : (x : Name) → before x y u ≡ true → dep x y ≡ false
      head-free x b = free x y b (before_head y x v (other x b (mem-cases x y v (a.in-second x (before-mem x y u b).0))))

      tail-free : (x z : Name) → before x z (remove y u) ≡ true → before z x v ≡ true → dep x z ≡ false
      tail-free x z b c = free x z (remove-before x z y u b) (before-tail z x y v c)
