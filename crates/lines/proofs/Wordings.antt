-- The line of a refusal and the line of a step, with their lengths.
-- Assumes nothing.
use mathlib.Core.Path.{◌≡◌, refl, ◌∙◌, ap, sym, subst}
use mathlib.Core.List.{List, [], ◌∷◌, ◌++◌, map, append_assoc}
use Prim.Native.Nat.{ℕ, zero, suc, ◌+◌, ◌*◌, ◌/◌, ◌%◌, ◌^◌, ◌<◌, ◌≤◌}
use native.Mathlib.Omega.{arith}
use lib.ListN.{length, get_or, take, drop, length-append}
use lib.Seq.{drop-cons}
use Rattle.model.specs.Report.{parts}
use Rattle.model.specs.Text.{ascii, decimal, space, line}
use Rattle.model.specs.Listing.{end_text, refused_text, step_lines}
use Rattle.model.specs.Ready.{Ending, finished, stuck, going}
use Rattle.model.proofs.Decimal.{decimal-most, ten-digits}
use Rattle.names.specs.InByte.{name_of}
use Rattle.writing.specs.Written.{Wrote}
use Rattle.lines.specs.FirstSteps.{first_steps, step_line, line_at}
use Rattle.writing.proofs.Written.{rest, joined, wrote_then}

-- ---- lines

-- a line in two parts, of which the second ends it
line-parts : (s t : List ℕ) → s ++ line t ≡ line (s ++ t)
line-parts s t = sym (append_assoc s t (10 ∷ []))

abbrev pub refused_label : List ℕ
refused_label = ascii "refused "

abbrev at_label : List ℕ
at_label = ascii " at "

pub label-length : (x : ℕ) → x < 2 ^ 32 → length (refused_label ++ decimal x) ≤ 18
label-length x h = omega (arith, ten-digits x h)

pub position-length : (x : ℕ) → x < 2 ^ 32 → length (line (at_label ++ decimal x)) ≤ 15
position-length x h = omega (arith, length-append (at_label ++ decimal x) (10 ∷ []), ten-digits x h)

pub wrote-refused : (e b p : List ℕ) (number position at n : ℕ) → number < 2 ^ 32 → position < 2 ^ 32
    → Wrote e (refused_label ++ decimal number) b at → Wrote (rest at b) (line (at_label ++ decimal position)) p n
    → Wrote e (line (refused_text number position)) (joined at b p) (at + n) × (at + n ≤ 33)
wrote-refused e b p number position at n h k w v = (
  subst (λ (l : List ℕ). Wrote e l (joined at b p) (at + n)) (line-parts (refused_label ++ decimal number) (at_label ++ decimal position))
      (wrote_then e (refused_label ++ decimal number) b (line (at_label ++ decimal position)) p at n w v),
  omega (arith, w.0, v.0, label-length number h, position-length position k),
)

-- ---- the line of a step, in the numbers that the code widened

pub wrote-step : (e b p : List ℕ) (x actor action at n : ℕ) → actor ≡ x / 32 → action ≡ x % 32 → Wrote e (decimal actor) b at
    → Wrote (rest at b) (line (space ∷ decimal action)) p n → Wrote e (step_line x) (joined at b p) (at + n)
wrote-step e b p x actor action at n f g w v =
    let w' : Wrote e (decimal (x / 32)) b at = subst (λ (k : ℕ). Wrote e (decimal k) b at) f w in
    let v' : Wrote (rest at b) (line (space ∷ decimal (x % 32))) p n = subst (λ (k : ℕ). Wrote (rest at b) (line (space ∷ decimal k)) p n) g v in
    subst (λ (l : List ℕ). Wrote e l (joined at b p) (at + n)) (line-parts (decimal (x / 32)) (space ∷ decimal (x % 32)))
    (wrote_then e (decimal (x / 32)) b (line (space ∷ decimal (x % 32))) p at n w' v')

step-length : (x : ℕ) → x < 256 → length (step_line x) ≤ 5
step-length x h =
    omega (
      arith,
      length-append (decimal (x / 32) ++ (space ∷ decimal (x % 32))) (10 ∷ []),
      length-append (decimal (x / 32)) (space ∷ decimal (x % 32)),
      decimal-most 0 (x / 32) (omega arith),
      decimal-most 1 (x % 32) (omega arith),
    )

-- ---- the lines of the first steps

module _ (names : List ℕ) where
  lines-from : (n k : ℕ) → k + n ≤ length names → parts (line_at names) n k ≡ step_lines (map name_of (take n (drop k names)))
  lines-from zero k h = refl
  lines-from (suc n) k h =
      ap (λ (l : List ℕ). line_at names k ++ l) (lines-from n (suc k) (omega arith))
      ∙ sym (ap (λ (l : List ℕ). step_lines (map name_of (take (suc n) l))) (drop-cons names k 0 (omega arith)))

  pub lines-of : (n : ℕ) → n ≤ length names → parts (line_at names) n 0 ≡ first_steps names n
  lines-of n h = lines-from n 0 (omega arith)

  pub lines-length : ((i : ℕ) → get_or names i 0 < 256) → (n k : ℕ) → length (parts (line_at names) n k) ≤ 5 * n
  lines-length small zero k = omega arith
  lines-length small (suc n) k =
      omega (arith, length-append (line_at names k) (parts (line_at names) n (suc k)), step-length (get_or names k 0) (small k), lines-length small n (suc k))

-- ---- the last line

pub last-length : (e : Ending) → length (line (end_text e)) ≤ 13
last-length finished = omega arith
last-length stuck = omega arith
last-length going = omega arith
