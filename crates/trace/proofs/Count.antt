-- How many members of a list of names pass a test.
-- Assumes nothing.
use Prim.Native.Nat.{ℕ, zero, suc, ◌+◌, ◌≤◌}
use native.Mathlib.Omega.{arith}
use mathlib.Core.Path.{◌≡◌, refl, ap}
use mathlib.Core.Logic.{◌⊎◌, inl, inr}
use mathlib.Core.Bool.{Bool, true, false, cond, false≢true}
use mathlib.Core.List.{List, [], ◌∷◌}
use lib.ListN.{length}
use Rattle.trace.specs.Machine.{Name}
use Rattle.trace.specs.Order.{eq_name, mem}
use Rattle.trace.specs.Inversions.{count}
use Rattle.trace.specs.Chain.{swap_at}
use Rattle.trace.specs.Route.{remove}
use Rattle.trace.proofs.Bools.{which}
use Rattle.trace.proofs.Names.{eq_name-true, mem-head, mem-tail}

-- a single test counts at most one
pub one_at_most : (b : Bool) → cond b 1 0 ≤ 1
one_at_most true = omega arith
one_at_most false = omega arith

pub count-swap : (f : Name → Bool) (k : ℕ) (l : List Name) → count f (swap_at k l) ≡ count f l
count-swap f k [] = refl
count-swap f zero (x ∷ []) = refl
count-swap f zero (x ∷ y ∷ l) = omega arith
count-swap f (suc k) (x ∷ l) = ap (λ (n : ℕ). cond (f x) 1 0 + n) (count-swap f k l)

pub count-le : (f : Name → Bool) (l : List Name) → count f l ≤ length l
count-le f [] = omega arith
count-le f (x ∷ l) = omega (arith, one_at_most (f x), count-le f l)

pub count_same : (f g : Name → Bool) (l : List Name) → ((x : Name) → mem x l ≡ true → f x ≡ g x) → count f l ≡ count g l
count_same f g [] h = refl
count_same f g (x ∷ l) h = rw (h x (mem-head x l), count_same f g l (λ y m. h y (mem-tail y x l m)))

pub count_none : (f : Name → Bool) (l : List Name) → ((x : Name) → mem x l ≡ true → f x ≡ false) → count f l ≡ 0
count_none f [] h = refl
count_none f (x ∷ l) h = rw (h x (mem-head x l), count_none f l (λ y m. h y (mem-tail y x l m)))

-- a member that passes, taken away
pub count-remove : (f : Name → Bool) (y : Name) (l : List Name) → mem y l ≡ true → f y ≡ true → count f l ≡ suc (count f (remove y l))
count-remove f y [] m h = absurd (false≢true m)
count-remove f y (x ∷ l) m h = go (which (eq_name y x)) (λ n. count-remove f y l n h)
  where
    go : (eq_name y x ≡ true) ⊎ (eq_name y x ≡ false) → (mem y l ≡ true → count f l ≡ suc (count f (remove y l)))
        → count f (x ∷ l) ≡ suc (count f (remove y (x ∷ l)))
    go (inl e) rest =
        let passes : f x ≡ true = rw (eq_name-true y x e) at h in
        rw (e, passes) (omega arith)
    go (inr e) rest =
        let r : count f l ≡ suc (count f (remove y l)) = rest (rw e at m) in
        rw e (omega arith)
