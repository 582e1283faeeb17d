-- A number in decimal, digit by digit, at the right of its columns.
-- Assumes nothing.
use mathlib.Core.Path.{◌≡◌, ◌∙◌, ap, sym, subst}
use mathlib.Core.List.{List, [], ◌∷◌, ◌++◌, append_assoc}
use Prim.Native.Nat.{ℕ, ◌+◌, ◌-◌, ◌/◌, ◌%◌, ◌<◌, ◌≤◌}
use native.Mathlib.Omega.{arith}
use lib.ListN.{length, set, replicate, length-append, length-replicate}
use Rattle.model.specs.Text.{digit, decimal, right, space}
use Rattle.model.proofs.Decimal.{decimal-small, decimal-more}
use Rattle.writing.specs.Written.{Wrote}
use Rattle.writing.proofs.Texts.{wrote-store}

-- a number needs no columns but its own
pub right-none : (x : ℕ) → right 0 (decimal x) ≡ decimal x
right-none x = let z : 0 - length (decimal x) ≡ 0 = omega arith in ap (λ (n : ℕ). replicate n space ++ decimal x) z

-- a text that is another and one character more
module _ (front whole : List ℕ) (d : ℕ) (split : whole ≡ front ++ (d ∷ [])) where
  last-length : length whole ≡ length front + 1
  last-length = ap length split ∙ length-append front (d ∷ [])

  wrote-last : (e b : List ℕ) (x at : ℕ) → x ≡ d → length whole ≤ length e → Wrote e front b at → Wrote e whole (set b at x) (at + 1)
  wrote-last e b x at g room w =
      let same : whole ≡ front ++ (x ∷ []) = split ∙ ap (λ (c : ℕ). front ++ (c ∷ [])) (sym g) in
      subst (λ (l : List ℕ). Wrote e l (set b at x) (at + 1)) (sym same) (wrote-store e front b at x (omega (arith, last-length)) w)

module _ (columns x front : ℕ) (less : front ≡ columns - 1) where
  -- a number below 10 is its digit, after spaces
  right-small : x < 10 → right columns (decimal x) ≡ replicate front space ++ (digit x ∷ [])
  right-small h = rw less (ap (right columns) (decimal-small x h))

  pub small-length : x < 10 → length (right columns (decimal x)) ≡ front + 1
  small-length h = last-length (replicate front space) (right columns (decimal x)) (digit x) (right-small h) ∙ rw length-replicate

  pub wrote-small : x < 10 → (e b : List ℕ) (d at : ℕ) → d ≡ digit x → length (right columns (decimal x)) ≤ length e
      → Wrote e (replicate front space) b at → Wrote e (right columns (decimal x)) (set b at d) (at + 1)
  wrote-small h = wrote-last (replicate front space) (right columns (decimal x)) (digit x) (right-small h)

  -- any other is its tenth in one column fewer, and its last digit
  right-more : 10 ≤ x → right columns (decimal x) ≡ right front (decimal (x / 10)) ++ (digit (x % 10) ∷ [])
  right-more h =
      let last : List ℕ = digit (x % 10) ∷ [] in
      let tens : List ℕ = decimal (x / 10) in
      let fewer : columns - length (tens ++ last) ≡ front - length tens = omega (arith, length-append tens last) in
      ap (right columns) (decimal-more x h) ∙ ap (λ (n : ℕ). replicate n space ++ (tens ++ last)) fewer
      ∙ sym (append_assoc (replicate (front - length tens) space) tens last)

  pub more-length : 10 ≤ x → length (right columns (decimal x)) ≡ length (right front (decimal (x / 10))) + 1
  more-length h = last-length (right front (decimal (x / 10))) (right columns (decimal x)) (digit (x % 10)) (right-more h)

  pub wrote-more : 10 ≤ x → (e b : List ℕ) (d at : ℕ) → d ≡ digit (x % 10) → length (right columns (decimal x)) ≤ length e
      → Wrote e (right front (decimal (x / 10))) b at → Wrote e (right columns (decimal x)) (set b at d) (at + 1)
  wrote-more h = wrote-last (right front (decimal (x / 10))) (right columns (decimal x)) (digit (x % 10)) (right-more h)
