-- A step taken out of what is left, by its place there: by the bytes as by the names.
-- Assumes nothing.
use Prim.Native.Nat.{ℕ, suc, ◌+◌, ◌<◌}
use native.Mathlib.Numerals.{one-add, add-one}
use native.Mathlib.Omega.{arith}
use mathlib.Core.Path.{◌≡◌, refl, ◌∙◌, ap, sym}
use mathlib.Core.Bool.{true, false, false≢true}
use mathlib.Core.Logic.{◌⊎◌, inl, inr}
use mathlib.Core.List.{List, [], ◌∷◌, ◌++◌, map}
use borrow.Author.Tests.{eqb-true, eqb-false, lt-ltb}
use lib.Dec.{eqb}
use lib.ListN.{length, get_or, set, take, drop, length-append, length-drop, drop_of_length-le}
use lib.Seq.{length-take-le}
use Rattle.std.specs.List.{position_or_len, position}
use Rattle.std.proofs.lemmas.List.{drop_more, take_more, append_assoc, append-nil, take-take, set_at, get_or_at}
use Rattle.std.specs.declared.option.Option.{Option}
use Rattle.std.specs.declared.option.Option.TheVariants.{Some}
use Rattle.trace.specs.Order.{eq_name, mem}
use Rattle.trace.specs.Route.{place, remove}
use Rattle.trace.proofs.Bools.{which}
use Rattle.names.specs.InByte.{name_of}
use Rattle.routing.specs.Parts.{Brought}
use Rattle.routing.proofs.NamePlaces.{name-same, name-other}

-- y stands among the bytes
abbrev pub held : ℕ → List ℕ → Type 0
held y l = mem (name_of y) (map name_of l) ≡ true

-- the place of its name
abbrev pub place_in : ℕ → List ℕ → ℕ
place_in y l = place (name_of y) (map name_of l)

pub taken-out : (y : ℕ) (l : List ℕ) → held y l
    → (position_or_len (λ x. eqb x y) l ≡ place_in y l) × (place_in y l < length l)
    × (map name_of (take (place_in y l) l ++ drop (suc (place_in y l)) l) ≡ remove (name_of y) (map name_of l))
taken-out y [] m = absurd (false≢true m)
taken-out y (x ∷ l) m = go (which (eqb x y)) (taken-out y l)
  where
    Taken : List ℕ → Type 0
    Taken l =
        (position_or_len (λ x. eqb x y) l ≡ place_in y l) × (place_in y l < length l)
        × (map name_of (take (place_in y l) l ++ drop (suc (place_in y l)) l) ≡ remove (name_of y) (map name_of l))

    go : (eqb x y ≡ true) ⊎ (eqb x y ≡ false) → (held y l → Taken l) → Taken (x ∷ l)
    go (inl e) rest =
        let same : eq_name (name_of y) (name_of x) ≡ true = name-same y x (sym (eqb-true x y e)) in
        rw (e, same) (refl, omega arith, refl)
    go (inr e) rest =
        let other : eq_name (name_of y) (name_of x) ≡ false = name-other y x (λ p. eqb-false x y e (sym p)) in
        let r = rest (rw other at m) in
        rw (e, other) (rw one-add (ap suc r.0), omega (arith, r.1), ap (λ u. name_of x ∷ u) r.2)

pub found : (y : ℕ) (l : List ℕ) (r : Option ℕ) → held y l → r ≡ position (λ x. eqb x y) l → r ≡ Some (place_in y l)
found y l r m e =
    let t = taken-out y l m in
    e ∙ rw (t.0, lt-ltb (place_in y l) (length l) t.1)

-- y and i steps of s have moved to the front, the next is carried, and from there on s is as it was
pub record Moving (y : ℕ) (s now : List ℕ) (carry i : ℕ) : Type 0 where
  pub moved : now ≡ take i (y ∷ s) ++ drop i s
  pub carried : carry ≡ get_or (y ∷ s) i 0

pub moves : {y : ℕ} {s now : List ℕ} {carry i : ℕ} → Moving y s now carry i → i < length s → Moving y s (set now i carry) (get_or now i 0) (i + 1)
moves {y} {s} {now} {carry} {i} m h =
    let front : List ℕ = take i (y ∷ s) in
    let long : length front ≡ i = length-take-le i (y ∷ s) (omega (arith, h)) in
    let here : now ≡ front ++ get_or s i 0 ∷ drop (i + 1) s = m.moved ∙ ap (λ r. front ++ r) (drop_more s i 0 h) in
    let more : take (i + 1) (y ∷ s) ≡ front ++ carry ∷ [] =
    take_more (y ∷ s) i 0 (omega (arith, h)) ∙ ap (λ (c : ℕ). front ++ c ∷ []) (sym m.carried) in
    record {
      moved =
          ap (λ (l : List ℕ). set l i carry) here ∙ set_at front (get_or s i 0) (drop (i + 1) s) carry i long
          ∙ rw more (sym (append_assoc front (carry ∷ []) (drop (i + 1) s)));
      carried =
          ap (λ (l : List ℕ). get_or l i 0) here ∙ get_or_at front (get_or s i 0) (drop (i + 1) s) 0 i long ∙ rw (add-one i) refl;
    }

pub brought : {y : ℕ} (l : List ℕ) {now : List ℕ} {carry : ℕ} (way i : ℕ) → held y l → way ≡ place_in y l
    → Moving y (take (way + 1) l) now carry i → i ≡ length (take (way + 1) l) → Brought l (now ++ drop (way + 1) l) y way
brought {y} l {now} {carry} way i m e c all =
    let t = taken-out y l m in
    let inside : way < length l = rw e t.1 in
    let long : length (take (way + 1) l) ≡ way + 1 = length-take-le (way + 1) l (omega (arith, inside)) in
    let none : drop i (take (way + 1) l) ≡ [] = drop_of_length-le (take (way + 1) l) (omega (arith, all)) in
    let past : i ≡ suc way = all ∙ long ∙ add-one way in
    let front : now ≡ y ∷ take way l = c.moved ∙ rw (none, past, take-take way (way + 1) l (omega arith)) (append-nil (y ∷ take way l)) in
    let moved : now ++ drop (way + 1) l ≡ y ∷ take way l ++ drop (suc way) l = rw (front, add-one way) refl in
    record {
      long = ap length moved ∙ simp (length-append, length-drop) (omega (arith, length-take-le way l (omega arith)));
      before = e;
      behind = rw (moved, e) t.2;
    }
