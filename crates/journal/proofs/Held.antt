-- The journal in its array: an entry stored behind the others, and the bytes of the entries.
-- Assumes nothing.
use Prim.Native.Nat.{ℕ}
use native.Mathlib.Omega.{arith}
use mathlib.Core.Path.{◌≡◌, refl, ◌∙◌, ap}
use mathlib.Core.List.{List, [], ◌∷◌, ◌++◌, map}
use lib.ListN.{length, take, length-map}
use lib.Seq.{length-take-le}
use Rattle.model.specs.Report.{parts, entry_bytes}
use Rattle.state.specs.State.{entry_of, journal_of}
use Rattle.state.specs.declared.arrays.Journal.{Journal}
use Rattle.journal.specs.Parts.{six_bytes, six_at}
use Rattle.writing.proofs.Flat.{flat, flat-whole}

-- the journal is as long as its count says
pub counts : (j : Journal) → length (journal_of j) ≡ j.count
counts j = length-map (take j.count j.entries) entry_of ∙ length-take-le j.count j.entries (omega (arith, j.room.long, j.room.bounded))

-- ---- the bytes

entries-flat : (l : List ℕ) → flat six_bytes l ≡ entry_bytes (map entry_of l)
entries-flat [] = refl
entries-flat (x ∷ l) = ap (λ (r : List ℕ). six_bytes x ++ r) (entries-flat l)

pub entries_at : (j : Journal) → parts (six_at (take j.count j.entries)) (length (take j.count j.entries)) 0 ≡ entry_bytes (journal_of j)
entries_at j = flat-whole six_bytes (take j.count j.entries) ∙ entries-flat (take j.count j.entries)
