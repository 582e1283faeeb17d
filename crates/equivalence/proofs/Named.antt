-- The places of the first list's names in the second: none without one means that the second has each of the first's names.
-- Assumes nothing.
use Prim.Native.Nat.{ℕ, zero, suc, ◌/◌, ◌<◌, ◌≤◌}
use native.Mathlib.Omega.{arith}
use mathlib.Core.Path.{◌≡◌, refl, sym, ◌∙◌, ap, ap₂}
use mathlib.Core.Bool.{Bool, true, false, not, ◌&&◌, ◌||◌}
use mathlib.Core.List.{List, [], ◌∷◌, map}
use lib.ListN.{length, get_or, take}
use Rattle.std.proofs.Common.{Option, Some, None}
use Rattle.std.specs.List.{list_any}
use Rattle.trace.specs.Order.{mem, within}
use Rattle.trace.specs.Route.{place}
use Rattle.trace.proofs.Bools.{contrary, or-false-left, or-false-right}
use Rattle.names.specs.InByte.{name_of}
use Rattle.names.specs.Names.{names_in}
use Rattle.names.specs.Steps.{Each}
use Rattle.equivalence.specs.Compared.{Compared}
use Rattle.equivalence.specs.Parts.{absent, place_of, place_in, Indexed}
use Rattle.equivalence.proofs.Places.{last-absent, last-present}

-- ---- the first m bytes of a list

each-taken : (P : ℕ → Type 0) (m : ℕ) (l : List ℕ) → ((i : ℕ) → i < m → P (get_or l i 0)) → Each P (take m l)
each-taken P zero l h = tt
each-taken P (suc m) [] h = tt
each-taken P (suc m) (b ∷ l) h = (h 0 (omega arith), each-taken P m l (λ i lt. h (suc i) (omega arith)))

none-taken : (f : ℕ → Bool) (m : ℕ) (l : List ℕ) → list_any f (take m l) ≡ false → (i : ℕ) → i < m → i < length l → f (get_or l i 0) ≡ false
none-taken f zero l n i h k = absurd (omega arith)
none-taken f (suc m) [] n i h k = absurd (omega arith)
none-taken f (suc m) (b ∷ l) n zero h k = or-false-left (f b) (list_any f (take m l)) n
none-taken f (suc m) (b ∷ l) n (suc i) h k = none-taken f m l (or-false-right (f b) (list_any f (take m l)) n) i (omega arith) (omega arith)

module _ (table first second : List ℕ) (m : ℕ) (compared : Compared table first second m) (index : List (Option ℕ)) (indexed : Indexed second m index) where
  fits : m ≤ length second
  fits = omega (arith, compared.most, compared.second-long)

  -- a step's name fits a byte
  small : (i : ℕ) → i < m → get_or first i 0 < 256
  small i h =
      let actor : get_or first i 0 / 32 < 8 = omega (arith, (compared.stand i h).0, compared.accepted.actors-most) in
      omega arith

  -- what the index has of a byte says whether the second list has its name, and where
  told : (b : ℕ) → b < 256 → (o : Option ℕ) → get_or index b None ≡ o
      → (not (absent index b) ≡ mem (name_of b) (names_in m second))
      × (absent index b ≡ false → place_of (get_or index b None) ≡ place (name_of b) (names_in m second))
  told b h None e =
      let none = last-absent second m fits b (sym (indexed.at b h) ∙ e) in
      rw e (sym none, λ f. contrary refl f)
  told b h (Some p) e =
      let some = last-present second m fits b p compared.second-distinct (sym (indexed.at b h) ∙ e) in
      rw e (sym some.0, λ f. some.1)

  all_found-in : (l : List ℕ) → Each (λ b. b < 256) l → not (list_any (absent index) l) ≡ within (map name_of l) (names_in m second)
  all_found-in [] e = refl
  all_found-in (b ∷ l) e =
      not-or (absent index b) (list_any (absent index) l) ∙ ap₂ ◌&&◌ (told b e.0 (get_or index b None) refl).0 (all_found-in l e.1)
    where
      not-or : (a c : _) → not (a || c) ≡ (not a && not c)
      not-or true c = refl
      not-or false c = refl

  pub all_found : not (list_any (absent index) (take m first)) ≡ within (names_in m first) (names_in m second)
  all_found = all_found-in (take m first) (each-taken (λ b. b < 256) m first small)

  -- where all are found, each has its place in the second list
  pub all_placed : list_any (absent index) (take m first) ≡ false → (i : ℕ) → i < m
      → (absent index (get_or first i 0) ≡ false) × (mem (name_of (get_or first i 0)) (names_in m second) ≡ true)
      × (place_in index first i ≡ place (name_of (get_or first i 0)) (names_in m second))
  all_placed f i h =
      let there = none-taken (absent index) m first f i h (omega (arith, compared.most, compared.first-long)) in
      let t = told (get_or first i 0) (small i h) (get_or index (get_or first i 0) None) refl in
      (there, sym t.0 ∙ ap not there, t.1 there)
