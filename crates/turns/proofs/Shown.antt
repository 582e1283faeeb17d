-- The part of a listing's bytes that is shown is its text.
-- Assumes nothing.
use mathlib.Core.Path.{◌≡◌, ◌∙◌, ap, sym}
use mathlib.Core.List.{List}
use Prim.Native.Nat.{ℕ, ◌-◌, ◌≤◌}
use native.Mathlib.Omega.{arith}
use lib.ListN.{length, take, replicate, length-append}
use lib.Seq.{take-append_seam, length-take-le}
use Rattle.listing.specs.declared.laid.Listing.{Listing}
use Rattle.listing.specs.Laid.{Laid}

module _ (text : List ℕ) (r : Listing) (l : Laid text r) where
  pub shown : take r.length r.bytes ≡ text
  shown =
      ap (λ (n : ℕ). take n r.bytes) l.counted ∙ ap (take (length text)) l.laid
      ∙ take-append_seam text (replicate (1293 - length text) 0)

  pub within : r.length ≤ length r.bytes
  within =
      omega (arith, l.counted, ap length l.laid ∙ length-append text (replicate (1293 - length text) 0))

-- a part of so many bytes has so many
pub part_count : (n : ℕ) (b : List ℕ) → n ≤ length b → n ≡ length (take n b)
part_count n b h = sym (length-take-le n b h)
