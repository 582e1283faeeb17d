-- The remainder that is handed back: how long it is, and that a part of that length at the end of the
-- longer recording is the remainder by the two lengths. Assumes nothing.
use Prim.Native.Nat.{ℕ, ◌-◌, ◌≤◌, ◌<◌}
use native.Mathlib.Omega.{arith}
use mathlib.Core.Path.{◌≡◌, ap, ◌∙◌}
use borrow.Author.Tests.{lt-ltb, le-ltb}
use lib.ListN.{length, length-take, length-drop}
use Rattle.model.specs.Recordings.{Slice, remainder_of, remainder_in}
use Rattle.answers.specs.declared.Recording.TheVariants.{First, Second}
use Rattle.answers.specs.declared.Part.{Part}
use Rattle.answers.specs.Answers.{part_of}

-- ---- its length

abbrev size : Slice → ℕ
size s = length s.bytes

module _ {r : Slice} (a b : Slice) (handed : r ≡ remainder_in a b) where
  pub length-of-second : size a < size b → size r ≡ size b - size a
  unfolding remainder_in
  length-of-second l =
      ap size handed ∙ rw (lt-ltb _ _ l) (simp (length-take, length-drop) (omega arith))

  pub length-of-first : size b ≤ size a → size r ≡ size a - size b
  unfolding remainder_in
  length-of-first l =
      ap size handed ∙ rw (le-ltb _ _ l) (simp (length-take, length-drop) (omega arith))

-- ---- the part of that length at the end

abbrev second-end : (length count : ℕ) → Part
second-end n k = record { recording = Second; from = n - k; length = k }

abbrev first-end : (length count : ℕ) → Part
first-end m k = record { recording = First; from = m - k; length = k }

module _ (m n k : ℕ) where
  pub end-of-second : m < n → k ≡ n - m → part_of (second-end n k) ≡ remainder_of m n
  end-of-second l e = let begin : n - (n - m) ≡ m = omega arith in rw (e, begin, lt-ltb _ _ l)

  pub end-of-first : n ≤ m → k ≡ m - n → part_of (first-end m k) ≡ remainder_of m n
  end-of-first l e = let begin : m - (m - n) ≡ n = omega arith in rw (e, begin, le-ltb _ _ l)
