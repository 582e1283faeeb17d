-- Eleven columns filled from the right: what stands in them while a number's last digits are written.
-- Assumes nothing.
use mathlib.Core.Path.{◌≡◌, refl, ◌∙◌, ap, sym, subst}
use mathlib.Core.List.{List, [], ◌∷◌, ◌++◌, append_assoc, append-nil}
use Prim.Native.Nat.{ℕ, zero, suc, ◌+◌, ◌-◌, ◌*◌, ◌/◌, ◌%◌, ◌^◌, ◌<◌, ◌≤◌}
use native.Mathlib.Nat.{pow-succ'}
use native.Mathlib.Omega.{arith}
use lib.ListN.{length, drop, set, replicate, length-append, length-replicate, length-drop}
use Rattle.model.specs.Text.{digit, decimal, right, space}
use Rattle.model.proofs.Decimal.{decimal-small, decimal-more}
use Rattle.model.proofs.Columns.{length-right}
use Rattle.writing.specs.Written.{Wrote}
use Rattle.writing.proofs.Written.{written-length}

-- of a number's digits the last ones stand behind the first i columns of a part that was e, and those of `rest` are to come
pub record Filling (e : List ℕ) (x : ℕ) (b : List ℕ) (rest i : ℕ) : Type 0 where
  pub room : 11 ≤ length e
  pub last : List ℕ
  pub split : decimal x ≡ decimal rest ++ last
  pub held : b ≡ replicate i space ++ (last ++ drop 11 e)
  pub counted : i + length last ≡ 11
  pub small : rest < 10 ^ (i - 1)
  pub more : i < 11 → 1 ≤ rest

-- eleven spaces written over a part e
module _ (e m : List ℕ) {at : ℕ} (w : Wrote e (replicate 11 space) m at) where
  after : drop 11 m ≡ drop 11 e
  after = ap (drop 11) w.1

  pub filling-start : (x : ℕ) → 11 ≤ length e → x < 2 ^ 32 → Filling m x m x 11
  filling-start x room h =
      record {
        room = omega (arith, written-length e (replicate 11 space) m room w.1);
        last = [];
        split = sym (append-nil (decimal x));
        held = w.1 ∙ ap (λ (l : List ℕ). replicate 11 space ++ l) (sym after);
        counted = refl;
        small = omega arith;
        more = λ h. omega arith;
      }

  -- what is written over them is written over e
  pub over-spaces : (s : List ℕ) {b : List ℕ} → length s ≡ 11 → b ≡ s ++ drop 11 m → Wrote e s b at
  over-spaces s h g = (w.0 ∙ sym h, g ∙ ap (λ (l : List ℕ). s ++ l) after ∙ ap (λ (n : ℕ). s ++ drop n e) (sym h))

-- the last of the spaces becomes a digit
set_last : (i d : ℕ) (l : List ℕ) → set (replicate (suc i) space ++ l) i d ≡ replicate i space ++ (d ∷ l)
set_last zero d l = refl
set_last (suc i) d l = ap (λ (t : List ℕ). space ∷ t) (set_last i d l)

tenth : (rest i : ℕ) → 1 ≤ i → rest < 10 ^ i → rest / 10 < 10 ^ (i - 1)
tenth rest zero h g = absurd (omega arith)
tenth rest (suc i) h g =
    let whole : 10 ^ suc i ≡ 10 * 10 ^ i = pow-succ' 10 i in
    let less : suc i - 1 ≡ i = omega arith in
    let bound : rest < 10 * 10 ^ i = subst (λ (n : ℕ). rest < n) whole g in
    rw less (omega arith)

module _ {e : List ℕ} {x : ℕ} {b : List ℕ} {rest i : ℕ} (F : Filling e x b rest i) where
  -- the part keeps its length, and column i - 1 is in it
  filling-length : length b ≡ length e
  filling-length =
      ap length F.held ∙ simp (length-append, length-replicate, length-drop) (omega (arith, F.room, F.counted))

  pub column-in : 1 < i → i - 1 < length b
  column-in h = omega (arith, filling-length, F.room, F.counted)

  -- not all of the columns are filled while digits are to come
  pub filling-over : i ≤ 1 → ⊥
  filling-over h =
      let none : i - 1 ≡ 0 = omega arith in
      let few : rest < 10 ^ 0 = subst (λ (n : ℕ). rest < 10 ^ n) none F.small in
      omega (arith, few, F.more)

  module _ (left : 1 < i) (d : ℕ) where
    set-next : set b (i - 1) d ≡ replicate (i - 1) space ++ (d ∷ (F.last ++ drop 11 e))
    set-next =
        let up : suc (i - 1) ≡ i = omega arith in
        ap (λ (t : List ℕ). set t (i - 1) d) (F.held ∙ ap (λ (n : ℕ). replicate n space ++ (F.last ++ drop 11 e)) (sym up))
        ∙ set_last (i - 1) d (F.last ++ drop 11 e)

    pub filling-more : (rest / 10 ≡ 0 → ⊥) → d ≡ digit (rest % 10) → Filling e x (set b (i - 1) d) (rest / 10) (i - 1)
    filling-more some g =
        let big : 10 ≤ rest = omega arith in
        record {
          room = F.room;
          last = d ∷ F.last;
          split =
              F.split ∙ ap (λ (l : List ℕ). l ++ F.last) (decimal-more rest big) ∙ append_assoc (decimal (rest / 10)) (digit (rest % 10) ∷ []) F.last
              ∙ ap (λ (c : ℕ). decimal (rest / 10) ++ (c ∷ F.last)) (sym g);
          held = set-next;
          counted = omega (arith, F.counted);
          small = tenth rest (i - 1) (omega arith) F.small;
          more = λ h. omega arith;
        }

    pub filling-end : rest / 10 ≡ 0 → d ≡ digit (rest % 10)
        → (length (space ∷ right 10 (decimal x)) ≡ 11) × (set b (i - 1) d ≡ (space ∷ right 10 (decimal x)) ++ drop 11 e)
    filling-end none g =
        let few : rest < 10 = omega arith in
        let own : rest % 10 ≡ rest = omega arith in
        let whole : decimal x ≡ d ∷ F.last = F.split ∙ ap (λ (l : List ℕ). l ++ F.last) (decimal-small rest few) ∙ ap (λ (c : ℕ). c ∷ F.last) (sym (g ∙ ap digit own)) in
        let spaces : i - 1 ≡ suc (10 - length (decimal x)) = omega (arith, ap length whole, F.counted) in (
          ap suc (length-right 10 (decimal x) (omega (arith, ap length whole, F.counted))),
          set-next
              ∙ ap (λ (n : ℕ). replicate n space ++ ((d ∷ F.last) ++ drop 11 e)) spaces
              ∙ ap (λ (l : List ℕ). replicate (suc (10 - length (decimal x))) space ++ (l ++ drop 11 e)) (sym whole)
              ∙ sym (append_assoc (replicate (suc (10 - length (decimal x))) space) (decimal x) (drop 11 e)),
        )
