-- Bytes written at the front of a part: two writings one after the other, the second into the rest of the part after the first.
-- Assumes nothing.
use mathlib.Core.Path.{◌≡◌, refl, ◌∙◌, ap, sym, subst}
use mathlib.Core.List.{List, [], ◌++◌, append_assoc, append-nil}
use Prim.Native.Nat.{ℕ, ◌+◌, ◌-◌, ◌≤◌}
use native.Mathlib.Nat.{le_refl, zero-add}
use native.Mathlib.Omega.{arith}
use lib.ListN.{length, take, drop, length-append, length-drop, drop_of_length-le}
use lib.Seq.{take-append_seam, drop-append_seam, drop-drop, take_all, sets, sets-eq}
use Rattle.writing.specs.Written.{Written, Wrote}

-- the rest of a part from a place on, as it is lent, and the part when that has come back as p
abbrev pub rest : ℕ → List ℕ → List ℕ
rest at b = take (length b - at) (drop at b)

abbrev pub joined : ℕ → List ℕ → List ℕ → List ℕ
joined at b p = take at b ++ (p ++ drop (length b - at) (drop at b))

rest-drop : (at : ℕ) (b : List ℕ) → rest at b ≡ drop at b
rest-drop at b = take_all (length b - at) (drop at b) (subst (λ (n : ℕ). n ≤ length b - at) (sym (length-drop at b)) (le_refl (length b - at)))

joined-front : (at : ℕ) (b p : List ℕ) → joined at b p ≡ take at b ++ p
joined-front at b p =
    let none : drop (length b - at) (drop at b) ≡ [] = drop_of_length-le (drop at b) (subst (λ (n : ℕ). n ≤ length b - at) (sym (length-drop at b)) (le_refl (length b - at))) in
    rw (none, append-nil)

rest-length : (at : ℕ) (b : List ℕ) → length (rest at b) ≡ length b - at
rest-length at b = ap length (rest-drop at b) ∙ length-drop at b

-- what fits after a place fits the rest
pub rest-room : (at m : ℕ) (b : List ℕ) → at + m ≤ length b → m ≤ length (rest at b)
rest-room at m b h = rw (rest-length at b) (omega arith)

-- what is written keeps the length of the part
pub written-length : (e s b : List ℕ) → length s ≤ length e → Written e s b → length b ≡ length e
written-length e s b h w = ap length w ∙ simp (length-append, length-drop) (omega arith)

-- a second writing, into the rest after the first
pub written_then : (e s b t p : List ℕ) → Written e s b → Written (drop (length s) b) t p → Written e (s ++ t) (take (length s) b ++ p)
written_then e s b t p w v =
    let front : take (length s) b ≡ s = ap (take (length s)) w ∙ take-append_seam s (drop (length s) e) in
    let after : drop (length s) b ≡ drop (length s) e = ap (drop (length s)) w ∙ drop-append_seam s (drop (length s) e) in
    let told : p ≡ t ++ drop (length t) (drop (length s) e) = v ∙ ap (λ (l : List ℕ). t ++ drop (length t) l) after in
    rw (front, told, drop-drop, length-append, append_assoc)

-- the same of two writers, of which the second was lent the rest
pub wrote_then : (e s b t p : List ℕ) (at n : ℕ) → Wrote e s b at → Wrote (rest at b) t p n → Wrote e (s ++ t) (joined at b p) (at + n)
wrote_then e s b t p at n w v =
    let second : Written (drop (length s) b) t p = v.1 ∙ ap (λ (l : List ℕ). t ++ drop (length t) l) (rest-drop at b ∙ ap (λ (m : ℕ). drop m b) w.0) in
    let both : Written e (s ++ t) (take (length s) b ++ p) = written_then e s b t p w.1 second in (
      rw (w.0, v.0, length-append),
      joined-front at b p ∙ ap (λ (m : ℕ). take m b ++ p) w.0 ∙ both,
    )

-- a run of stores from the front on
pub wrote_stores : (s e : List ℕ) → length s ≤ length e → Wrote e s (sets e 0 s) (length s)
wrote_stores s e h = (refl, sets-eq s e 0 (rw zero-add h) ∙ rw zero-add)
