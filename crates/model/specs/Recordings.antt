-- Two recordings of the order that was seen, of any lengths (document 02, W3): the verdict on them as far as both reach, and the remainder of the
-- longer, which is a part of the caller's own bytes.
-- Assumes nothing: these are definitions.
use Rattle.std.specs.Prelude.{ℕ, ◌+◌, ◌-◌, cond, List, ltb, length, take, drop}
use Rattle.std.specs.Borrow.{Bor}
use Rattle.model.specs.Calls.{Result, Comparison, comparison_of}

-- ---- the verdict

-- "the longer is held to the length of the shorter": of a recording the first entries, as many as the other has; of the shorter that is all
abbrev pub held : (recording other : List ℕ) → List ℕ
held recording other = take (length other) recording

-- "the same verdict is given on those parts", with its refusals, in its order, and the number of pairs compared of them (W6: "on shortened recordings
-- too"); what follows the parts is not stepped
unfoldable pub prefix_comparison_of : (table first second : List ℕ) → Result Comparison
prefix_comparison_of table first second = comparison_of table (held first second) (held second first)

-- ---- the remainder

-- one of the two recordings
pub data Recording : Type 0 where
  the_first the_second : Recording

abbrev pub choose : {A : Type 0} → Recording → (first second : A) → A
choose the_first a b = a
choose the_second a b = b

-- a part of one of them: from which entry on, and how many entries
pub record Part : Type 0 where
  pub recording : Recording
  pub from : ℕ
  pub length : ℕ

-- "the remainder of the longer", by the two lengths only: what lies after the shorter's length; with equal lengths the empty end of the first
abbrev pub remainder_of : (first_length second_length : ℕ) → Part
remainder_of m n =
    cond (ltb m n) (record { recording = the_second; from = m; length = n - m }) (record { recording = the_first; from = n; length = m - n })

-- ---- "a part of the caller's own bytes"

-- bytes in the caller's memory: where they begin, a block and an offset into it, and what they are
pub record Slice : Type 0 where
  pub block : ℕ
  pub offset : ℕ
  pub bytes : List ℕ

-- what a reference to bytes stands for
abbrev pub slice_of : Bor (List ℕ) → Slice
slice_of r = record { block = r.ref_ptr.0; offset = r.ref_ptr.1; bytes = r.now }

-- so many bytes of a slice, from one on, where they stand
abbrev pub piece : Slice → (from length : ℕ) → Slice
piece s from n = record { block = s.block; offset = s.offset + from; bytes = take n (drop from s.bytes) }

abbrev pub part_in : Part → (first second : Slice) → Slice
part_in p a b = piece (choose p.recording a b) p.from p.length

-- what the remainder call hands back
unfoldable pub remainder_in : (first second : Slice) → Slice
remainder_in a b = part_in (remainder_of (length a.bytes) (length b.bytes)) a b
