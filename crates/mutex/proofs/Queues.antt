-- The queues after one of them has changed: the model's queues with that one updated.
-- Assumes nothing.
use Prim.Native.Nat.{ℕ, zero, suc, ◌+◌, ◌-◌, ◌*◌, ◌<◌, ◌≤◌}
use native.Mathlib.Omega.{arith}
use mathlib.Core.Path.{◌≡◌, refl, ◌∙◌, ap, sym, fun_ext}
use mathlib.Core.Bool.{Bool, true, false, cond}
use mathlib.Core.Logic.{◌⊎◌, inl, inr}
use mathlib.Core.List.{List, [], ◌∷◌, map}
use lib.Dec.{eqb, ltb}
use lib.ListN.{length, get_or, take, drop}
use lib.Seq.{get_or-take, get_or-drop, take-take, drop-drop}
use borrow.Author.Tests.{eqb-true, eqb-false, ltb-true, ltb-false}
use Rattle.trace.proofs.Bools.{which}
use Rattle.model.specs.Site.{upd}
use Rattle.state.specs.State.{queued_of, entries_in, queues_of}
use Rattle.state.specs.Rooms.{size_in, QueueRoom}

-- a part of a list lies within its front
part-of-front : (i k n : ℕ) (l : List ℕ) → i + k ≤ n → take k (drop i (take n l)) ≡ take k (drop i l)
part-of-front zero k n l h = take-take k n l (omega arith)
part-of-front (suc i) k zero l h = absurd (omega arith)
part-of-front (suc i) k (suc n) [] h = refl
part-of-front (suc i) k (suc n) (x ∷ l) h = part-of-front i k n l (omega arith)

-- so it is the same where the front is, and a part behind an index where all behind it is
pub part-before : (i k n : ℕ) (l after : List ℕ) → i + k ≤ n → take n after ≡ take n l → take k (drop i after) ≡ take k (drop i l)
part-before i k n l after h e =
    sym (part-of-front i k n after h) ∙ ap (λ (x : List ℕ). take k (drop i x)) e ∙ part-of-front i k n l h

pub part-behind : (i n : ℕ) (l after : List ℕ) → n ≤ i → drop n after ≡ drop n l → drop i after ≡ drop i l
part-behind i n l after h e =
    let far : i ≡ n + (i - n) = omega arith in
    ap (λ (k : ℕ). drop k after) far
    ∙ sym (drop-drop (i - n) n after)
    ∙ ap (drop (i - n)) e
    ∙ drop-drop (i - n) n l
    ∙ ap (λ (k : ℕ). drop k l) (sym far)

-- and likewise one element
pub elem-before : (i n : ℕ) (l after : List ℕ) → i < n → take n after ≡ take n l → get_or after i 0 ≡ get_or l i 0
elem-before i n l after h e = sym (get_or-take n after i 0 h) ∙ ap (λ (x : List ℕ). get_or x i 0) e ∙ get_or-take n l i 0 h

elem-behind : (i n : ℕ) (l after : List ℕ) → n ≤ i → drop n after ≡ drop n l → get_or after i 0 ≡ get_or l i 0
elem-behind i n l after h e =
    let far : i ≡ n + (i - n) = omega arith in
    ap (λ (k : ℕ). get_or after k 0) far
    ∙ sym (get_or-drop n after (i - n) 0)
    ∙ ap (λ (x : List ℕ). get_or x (i - n) 0) e
    ∙ get_or-drop n l (i - n) 0
    ∙ ap (λ (k : ℕ). get_or l k 0) (sym far)

module _ (queues : List ℕ) (m : ℕ) (room : QueueRoom queues) (known : m < 8) where
  -- nothing before the mutex's nine bytes or behind them has changed
  module _ (after : List ℕ) (before : take (9 * m) after ≡ take (9 * m) queues) (behind : drop (9 * m + 9) after ≡ drop (9 * m + 9) queues) where
    -- no other queue changes
    other-size : (j : ℕ) → (j ≡ m → ⊥) → size_in after j ≡ size_in queues j
    other-size j differs = go (which (ltb j m))
      where
        go : (ltb j m ≡ true) ⊎ (ltb j m ≡ false) → size_in after j ≡ size_in queues j
        go (inl t) = elem-before (9 * j) (9 * m) queues after (omega (arith, ltb-true j m t)) before
        go (inr t) = elem-behind (9 * j) (9 * m + 9) queues after (omega (arith, ltb-false j m t, differs)) behind

    other : (j : ℕ) → (j ≡ m → ⊥) → entries_in after j ≡ entries_in queues j
    other j differs = ap (λ (k : ℕ). take k (drop (9 * j + 1) after)) (other-size j differs) ∙ go (which (ltb j m))
      where
        go : (ltb j m ≡ true) ⊎ (ltb j m ≡ false) → take (size_in queues j) (drop (9 * j + 1) after) ≡ entries_in queues j
        go (inl t) =
            part-before (9 * j + 1) (size_in queues j) (9 * m) queues after (omega (arith, ltb-true j m t, room.bounded j)) before
        go (inr t) =
            ap (take (size_in queues j))
            (part-behind (9 * j + 1) (9 * m + 9) queues after (omega (arith, ltb-false j m t, differs)) behind)

    module _ (n : ℕ) (size : size_in after m ≡ n) where
      pub changed : (l : List ℕ) → take n (drop (9 * m + 1) after) ≡ l → queues_of after ≡ upd eqb (queues_of queues) m (map queued_of l)
      changed l is = fun_ext (λ j. go j (which (eqb j m)))
        where
          go : (j : ℕ) → (eqb j m ≡ true) ⊎ (eqb j m ≡ false) → queues_of after j ≡ cond (eqb j m) (map queued_of l) (queues_of queues j)
          go j (inl t) =
              ap (queues_of after) (eqb-true j m t)
              ∙ ap (λ (k : ℕ). map queued_of (take k (drop (9 * m + 1) after))) size
              ∙ ap (map queued_of) is
              ∙ sym (ap (λ (b : Bool). cond b (map queued_of l) (queues_of queues j)) t)
          go j (inr t) =
              ap (map queued_of) (other j (eqb-false j m t)) ∙ sym (ap (λ (b : Bool). cond b (map queued_of l) (queues_of queues j)) t)

      pub room-kept : length after ≡ 72 → n ≤ 8 → QueueRoom after
      room-kept long short = record { long = long; bounded = λ j. go j (which (eqb j m)) }
        where
          go : (j : ℕ) → (eqb j m ≡ true) ⊎ (eqb j m ≡ false) → size_in after j ≤ 8
          go j (inl t) = rw (eqb-true j m t) (omega (arith, size))
          go j (inr t) = omega (arith, other-size j (eqb-false j m t), room.bounded j)
