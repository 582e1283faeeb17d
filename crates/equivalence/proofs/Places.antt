-- The place of a byte's name in the second list, by the last place at which the byte stands there, and the index of these places.
-- Assumes nothing.
use Prim.Native.Nat.{ℕ, zero, suc, ◌<◌, ◌≤◌}
use native.Mathlib.Nat.{le_of_suc-le-suc, not-suc-le-zero, eq-or-lt_of_le}
use native.Mathlib.Omega.{arith}
use mathlib.Core.Path.{◌≡◌, refl, sym, ◌∙◌, ap}
use mathlib.Core.Logic.{◌⊎◌, inl, inr}
use mathlib.Core.Bool.{true, false}
use mathlib.Core.List.{List}
use borrow.Author.Tests.{eqb-true, eqb-false}
use lib.Dec.{eqb}
use lib.ListN.{length, get_or, replicate, length-replicate, get_or-replicate}
use Rattle.std.proofs.Common.{Option, Some, None}
use Rattle.trace.specs.Order.{mem, Distinct}
use Rattle.trace.specs.Route.{place}
use Rattle.trace.proofs.Bools.{which, is_false}
use Rattle.names.specs.InByte.{name_of}
use Rattle.names.specs.Names.{names_in}
use Rattle.equivalence.specs.Parts.{last_in, Indexed}
use Rattle.names.proofs.NamedBytes.{named-once, named_in, in-named, place-named}

-- ---- the index, byte by byte

pub index-begins : (second : List ℕ) → Indexed second 0 (replicate 256 None)
index-begins second = record { long = length-replicate {A = Option ℕ} 256 None; at = λ b h. get_or-replicate {A = Option ℕ} 256 b None None h }

-- ---- the last place of a byte: one of its places, or none

abbrev Stood : List ℕ → ℕ → ℕ → Type 0
Stood bytes m b = (i : ℕ) × (i < m) × (get_or bytes i 0 ≡ b) × (last_in bytes m b ≡ Some i)

abbrev Nowhere : List ℕ → ℕ → ℕ → Type 0
Nowhere bytes m b = ((i : ℕ) → i < m → get_or bytes i 0 ≡ b → ⊥) × (last_in bytes m b ≡ None)

last-cases : (bytes : List ℕ) (m b : ℕ) → Stood bytes m b ⊎ Nowhere bytes m b
last-cases bytes zero b = inr ((λ i h e. absurd (not-suc-le-zero h)), refl)
last-cases bytes (suc m) b = go (which (eqb b (get_or bytes m 0))) (last-cases bytes m b)
  where
    none : eqb b (get_or bytes m 0) ≡ false → ((i : ℕ) → i < m → get_or bytes i 0 ≡ b → ⊥) → (i : ℕ) → (i ≡ m) ⊎ (i < m) → get_or bytes i 0 ≡ b → ⊥
    none f before i (inl p) e = eqb-false b (get_or bytes m 0) f (sym e ∙ ap (λ (k : ℕ). get_or bytes k 0) p)
    none f before i (inr l) e = before i l e

    go : (eqb b (get_or bytes m 0) ≡ true) ⊎ (eqb b (get_or bytes m 0) ≡ false) → Stood bytes m b ⊎ Nowhere bytes m b
        → Stood bytes (suc m) b ⊎ Nowhere bytes (suc m) b
    go (inl t) rest = inl (m, omega arith, sym (eqb-true b (get_or bytes m 0) t), rw t)
    go (inr f) (inl r) = inl (r.0, omega (arith, r.1), r.2, rw f r.3)
    go (inr f) (inr r) = inr ((λ i h e. none f r.0 i (eq-or-lt_of_le (le_of_suc-le-suc h)) e), rw f r.1)

module _ (second : List ℕ) (m : ℕ) (fits : m ≤ length second) where
  -- a byte without a place has a name that the list does not hold
  pub last-absent : (b : ℕ) → last_in second m b ≡ None → mem (name_of b) (names_in m second) ≡ false
  last-absent b e = is_false _ (λ t. go (last-cases second m b) (in-named m second (name_of b) t))
    where
      go : Stood second m b ⊎ Nowhere second m b → (i : ℕ) × (i < m) × (name_of (get_or second i 0) ≡ name_of b) → ⊥
      go (inl s) r = let some : Some s.0 ≡ None = sym s.3 ∙ e in cc
      go (inr n) r = n.0 r.0 r.1 (named-once (get_or second r.0 0) b r.2)

  -- any other byte has a name that the list holds, at the byte's place
  pub last-present : (b p : ℕ) → Distinct (names_in m second) → last_in second m b ≡ Some p
      → (mem (name_of b) (names_in m second) ≡ true) × (p ≡ place (name_of b) (names_in m second))
  last-present b p d e = go (last-cases second m b)
    where
      go : Stood second m b ⊎ Nowhere second m b
          → (mem (name_of b) (names_in m second) ≡ true) × (p ≡ place (name_of b) (names_in m second))
      go (inl s) =
          let named : mem (name_of (get_or second s.0 0)) (names_in m second) ≡ true = named_in m second s.0 s.1 fits in
          let placed : place (name_of (get_or second s.0 0)) (names_in m second) ≡ s.0 = place-named m second s.0 d s.1 fits in
          let same : Some p ≡ Some s.0 = sym e ∙ s.3 in
          let here : p ≡ s.0 = cc in
          (rw s.2 at named, here ∙ sym (rw s.2 at placed))
      go (inr n) = let none : Some p ≡ None = sym e ∙ n.1 in cc
