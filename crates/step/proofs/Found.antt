-- What a look finds is one of the listed numbers, at a place within the list.
-- Assumes nothing.
use mathlib.Core.Path.{◌≡◌, subst}
use mathlib.Core.Bool.{Bool, true, false, cond}
use mathlib.Core.Logic.{◌⊎◌, inl, inr}
use mathlib.Core.List.{List, [], ◌∷◌}
use Prim.Native.Nat.{ℕ, zero, suc, suc-le-suc, ◌+◌, ◌<◌}
use native.Mathlib.Omega.{arith}
use lib.ListN.{get_or, take}
use Rattle.trace.proofs.Bools.{which}
use Rattle.table.specs.declared.Numbers.{Numbers}
use Rattle.table.specs.Promise.{number}
use Rattle.model.specs.Views.{listed}
use Rattle.model.specs.Local.{Seen, unseen, seen, first}

-- what was found, if anything, has a property of its place and its number
abbrev pub Has : (ℕ → ℕ → Type 0) → Seen → Type 0
Has P unseen = Unit {0}
Has P (seen place number value) = P place number

module _ (test : ℕ → Bool) (value : ℕ → ℕ) (P : ℕ → ℕ → Type 0) where
  first-has : (l : List ℕ) (c from : ℕ) → ((i : ℕ) → i < c → P (from + i) (get_or l i 0)) → Has P (first test value from (take c l))
  first-has l zero from each = tt
  first-has [] (suc c) from each = tt
  first-has (x ∷ l) (suc c) from each = go (which (test x)) (first-has l c (suc from) later)
    where
      later : (i : ℕ) → i < c → P (suc from + i) (get_or l i 0)
      later i below = let e : from + suc i ≡ suc from + i = omega arith in subst (λ (p : ℕ). P p (get_or l i 0)) e (each (suc i) (suc-le-suc below))

      here : P from x
      here = let e : from + 0 ≡ from = omega arith in subst (λ (p : ℕ). P p x) e (each 0 (omega arith))

      go : (test x ≡ true) ⊎ (test x ≡ false) → Has P (first test value (suc from) (take c l))
          → Has P (cond (test x) (seen from x (value x)) (first test value (suc from) (take c l)))
      go (inl e) rest = rw e here
      go (inr e) rest = rw e rest

  -- each listed number has the property at its place, counted from 1
  pub listed_has : (l : Numbers) → ((i : ℕ) → i < l.count → P (1 + i) (number l i)) → Has P (first test value 1 (listed l))
  listed_has l each = first-has l.all l.count 1 each
