-- The number of pairs that two lists of names hold in opposite orders: a swap lowers it by at most one, so that no chain has fewer positions; the
-- route has just as many; and it is at most m · (m - 1) / 2.
-- Assumes nothing.
use Prim.Native.Nat.{ℕ, zero, suc, ◌+◌, ◌*◌, ◌-◌, ◌/◌, ◌≤◌}
use native.Mathlib.Omega.{arith}
use mathlib.Core.Path.{◌≡◌, refl, ◌∙◌, ap, ap₂}
use mathlib.Core.Logic.{◌⊎◌, inl, inr}
use mathlib.Core.Bool.{Bool, true, false, and-false, false≢true}
use mathlib.Core.List.{List, [], ◌∷◌}
use lib.ListN.{length, length-append}
use Rattle.trace.specs.Machine.{Name}
use Rattle.trace.specs.Order.{eq_name, mem, before, Distinct}
use Rattle.trace.specs.Inversions.{count, inversions}
use Rattle.trace.specs.Chain.{swap_at}
use Rattle.trace.specs.Route.{place, remove, pull, route_from}
use Rattle.trace.proofs.Bools.{which, contrary, is_false, or-false-right}
use Rattle.trace.proofs.Names.{eq_name-refl, eq_name-true, mem-head, mem-tail, mem-cases, before_head, before-tail, before-absent, before-asym}
use Rattle.trace.proofs.Remove.{remove-gone}
use Rattle.trace.proofs.Linked.{Linked}
use Rattle.trace.proofs.SameNames.{SameNames, same-nil, same_head, same-tail}
use Rattle.trace.proofs.Count.{one_at_most, count-swap, count-le, count_same, count_none, count-remove}
use Rattle.trace.proofs.Triangle.{triangle, triangle-is}

-- ---- no chain is shorter

inversions-swap : (k : ℕ) (u v : List Name) → inversions u v ≤ suc (inversions (swap_at k u) v)
inversions-swap k [] v = omega arith
inversions-swap zero (x ∷ []) v = omega arith
inversions-swap zero (x ∷ y ∷ u) v = omega (arith, one_at_most (before y x v))
inversions-swap (suc k) (x ∷ u) v = omega (arith, count-swap (λ y. before y x v) k u, inversions-swap k u v)

inversions-none : (u v : List Name) → ((x y : Name) → before x y u ≡ true → before y x v ≡ false) → inversions u v ≡ 0
inversions-none [] v h = refl
inversions-none (x ∷ u) v h =
    rw (count_none (λ y. before y x v) u (λ y m. h x y (before_head x y u m)), inversions-none u v (λ a b k. h a b (before-tail a b x u k)))

pub no-shorter : (dep : Name → Name → Bool) (ks : List ℕ) (u v : List Name) → Distinct v → Linked dep ks u v → inversions u v ≤ length ks
no-shorter dep [] u v d l =
    let z : inversions v v ≡ 0 = inversions-none v v (λ x y b. before-asym x y v d b) in
    rw l (omega arith)
no-shorter dep (k ∷ ks) u v d l = omega (arith, inversions-swap k u v, no-shorter dep ks (swap_at k u) v d l.1)

-- ---- the route's length

pull-length : (b k : ℕ) → length (pull b k) ≡ k
pull-length b zero = refl
pull-length b (suc k) = ap suc (pull-length b k)

-- a name that the first list does not hold plays no part at the head of the second
inversions-skip : (y : Name) (u v : List Name) → mem y u ≡ false → inversions u (y ∷ v) ≡ inversions u v
inversions-skip y [] v n = refl
inversions-skip y (x ∷ u) v n =
    ap₂ ◌+◌ (count_same (λ z. before z x (y ∷ v)) (λ z. before z x v) u skip) (inversions-skip y u v rest)
  where
    rest : mem y u ≡ false
    rest = or-false-right (eq_name y x) (mem y u) n

    skip : (z : Name) → mem z u ≡ true → before z x (y ∷ v) ≡ before z x v
    skip z m =
        let e : eq_name z y ≡ false = is_false _ (λ k. contrary m (rw (eq_name-true z y k) rest)) in
        rw e

-- nothing stands before a name that only the head can be
never-second : (z x y : Name) (v : List Name) → mem x v ≡ false → before z x (y ∷ v) ≡ false
never-second z x y v n = rw (n, before-absent z x v n, and-false (eq_name z y))

-- each name that the second list's head is pulled past is one pair
inversions-pull : (y : Name) (u v : List Name) → mem y v ≡ false → mem y u ≡ true → ((x : Name) → mem x u ≡ true → mem x (y ∷ v) ≡ true)
    → inversions u (y ∷ v) ≡ place y u + inversions (remove y u) (y ∷ v)
inversions-pull y [] v n m sub = absurd (false≢true m)
inversions-pull y (x ∷ u) v n m sub =
    go (which (eq_name y x)) (λ k. inversions-pull y u v n k (λ z j. sub z (mem-tail z x u j)))
  where
    f : Name → Bool
    f z = before z x (y ∷ v)

    go : (eq_name y x ≡ true) ⊎ (eq_name y x ≡ false)
        → (mem y u ≡ true → inversions u (y ∷ v) ≡ place y u + inversions (remove y u) (y ∷ v))
        → inversions (x ∷ u) (y ∷ v) ≡ place y (x ∷ u) + inversions (remove y (x ∷ u)) (y ∷ v)
    go (inl e) rest =
        let c : count f u ≡ 0 = count_none f u (λ z j. never-second z x y v (rw (eq_name-true y x e) at n)) in
        rw e (omega arith)
    go (inr e) rest =
        let k : mem y u ≡ true = rw e at m in
        let c : count f u ≡ suc (count f (remove y u)) = count-remove f y u k (before_head y x v (later (mem-cases x y v (sub x (mem-head x u))))) in
        let r : inversions u (y ∷ v) ≡ place y u + inversions (remove y u) (y ∷ v) = rest k in
        rw e (omega arith)
      where
        later : (x ≡ y) ⊎ (mem x v ≡ true) → mem x v ≡ true
        later (inl h) = contrary (eq_name-refl y) (rw h at e)
        later (inr h) = h

pub route-length : (v u : List Name) (b : ℕ) → SameNames u v → length (route_from b u v) ≡ inversions u v
route-length [] u b a = rw (same-nil u a)
route-length (y ∷ v) u b a =
    let p : length (pull b (place y u)) ≡ place y u = pull-length b (place y u) in
    let r : length (route_from (suc b) (remove y u) v) ≡ inversions (remove y u) v = route-length v (remove y u) (suc b) (same-tail y u v a) in
    let t : inversions (remove y u) (y ∷ v) ≡ inversions (remove y u) v = inversions-skip y (remove y u) v (remove-gone y u a.once-first) in
    let h : inversions u (y ∷ v) ≡ place y u + inversions (remove y u) (y ∷ v) =
    inversions-pull y u v a.once-second.0 (same_head y u v a) a.in-second in
    length-append (pull b (place y u)) (route_from (suc b) (remove y u) v) ∙ omega arith

-- ---- the bound: there are no more than m · (m - 1) / 2 pairs

few : (u v : List Name) → inversions u v ≤ triangle (length u)
few [] v = omega arith
few (x ∷ u) v = omega (arith, count-le (λ y. before y x v) u, few u v)

pub inversions-bound : (u v : List Name) → inversions u v ≤ (length u * (length u - 1)) / 2
inversions-bound u v = omega (arith, few u v, triangle-is (length u))
