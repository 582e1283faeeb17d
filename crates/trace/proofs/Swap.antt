-- What a swap of two neighbours keeps: the length, the members, and, where the two are independent, the order of each dependent pair.
-- Assumes nothing.
use Prim.Native.Nat.{ℕ, zero, suc}
use mathlib.Core.Path.{◌≡◌, refl, ◌∙◌, ap}
use mathlib.Core.Bool.{Bool, true, false, ◌&&◌, ◌||◌}
use mathlib.Core.List.{List, [], ◌∷◌}
use borrow.Author.Tests.{not-true}
use lib.ListN.{length}
use Rattle.trace.specs.Machine.{Name}
use Rattle.trace.specs.Order.{eq_name, mem, before}
use Rattle.trace.specs.Chain.{swap_at, independent_at}
use Rattle.trace.proofs.Bools.{contrary, is_false, and_left, and_right}
use Rattle.trace.proofs.Names.{eq_name-true}

pub swap-length : {A : Type 0} (k : ℕ) (l : List A) → length (swap_at k l) ≡ length l
swap-length k [] = refl
swap-length zero (x ∷ []) = refl
swap-length zero (x ∷ y ∷ l) = refl
swap-length (suc k) (x ∷ l) = ap suc (swap-length k l)

or_swap : (a b c : Bool) → (a || (b || c)) ≡ (b || (a || c))
or_swap true true c = refl
or_swap true false c = refl
or_swap false b c = refl

pub swap-mem : (x : Name) (k : ℕ) (l : List Name) → mem x (swap_at k l) ≡ mem x l
swap-mem x k [] = refl
swap-mem x zero (y ∷ []) = refl
swap-mem x zero (y ∷ z ∷ l) = or_swap (eq_name x z) (eq_name x y) (mem x l)
swap-mem x (suc k) (y ∷ l) = ap (λ (b : Bool). eq_name x y || b) (swap-mem x k l)

-- the order of a pair in `a ∷ b ∷ l` and in `b ∷ a ∷ l`, unless the pair is a and b themselves. Of the tests, xa says that the pair's first is a,
-- yb that its second is b; m that its second is in l, and r that l holds the pair in order
order-swap : (xa xb ya yb m r : Bool) → (xa && yb) ≡ false → (xb && ya) ≡ false
    → ((xb && (ya || m)) || ((xa && m) || r)) ≡ ((xa && (yb || m)) || ((xb && m) || r))
order-swap true true ya yb m r p q = rw (p, q)
order-swap true false ya yb m r p q = rw p
order-swap false true ya yb m r p q = rw q
order-swap false false ya yb m r p q = refl

module _ (dep : Name → Name → Bool) (dep-sym : (x y : Name) → dep x y ≡ dep y x) where
  -- a dependent pair is no independent one
  apart : (x y a b : Name) → dep x y ≡ true → dep a b ≡ false → (eq_name x a && eq_name y b) ≡ false
  apart x y a b h i = is_false _ (λ e. contrary h (equal e))
    where
      equal : (eq_name x a && eq_name y b) ≡ true → dep x y ≡ false
      equal e = rw (eq_name-true x a (and_left _ _ e), eq_name-true y b (and_right (eq_name x a) (eq_name y b) e)) i

  pub swap-before : (x y : Name) → dep x y ≡ true → (k : ℕ) (l : List Name) → independent_at dep k l ≡ true → before x y (swap_at k l) ≡ before x y l
  swap-before x y h k [] i = refl
  swap-before x y h zero (a ∷ []) i = refl
  swap-before x y h zero (a ∷ b ∷ l) i =
      let d : dep a b ≡ false = not-true (dep a b) i in
      order-swap (eq_name x a) (eq_name x b) (eq_name y a) (eq_name y b) (mem y l) (before x y l)
      (apart x y a b h d)
      (apart x y b a h (dep-sym b a ∙ d))
  swap-before x y h (suc k) (a ∷ l) i = rw (swap-mem y k l, swap-before x y h k l i)
