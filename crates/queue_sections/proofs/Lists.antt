-- Bytes made of an array's elements from a place on: as the loops write them, part by part, and as the report has them, of a list.
-- Assumes nothing.
use mathlib.Core.Path.{◌≡◌, refl, ◌∙◌, ap}
use mathlib.Core.List.{List, [], ◌∷◌, map}
use Prim.Native.Nat.{ℕ, ◌+◌, ◌/◌, ◌%◌, ◌≤◌}
use native.Mathlib.Omega.{arith}
use lib.ListN.{length, take, drop, length-drop}
use lib.Seq.{length-take-le}
use Rattle.model.specs.Report.{parts, name_bytes, queued_bytes}
use Rattle.names.specs.InByte.{name_of}
use Rattle.state.specs.State.{queued_of}
use Rattle.queue_sections.specs.Parts.{name_at, entry_at}
use Rattle.writing.proofs.Flat.{flat, flat-at}

names-flat : (l : List ℕ) → flat (λ x. x / 32 ∷ x % 32 ∷ []) l ≡ name_bytes (map name_of l)
names-flat [] = refl
names-flat (x ∷ l) = ap (λ (r : List ℕ). x / 32 ∷ x % 32 ∷ r) (names-flat l)

pub names_at : (l : List ℕ) (from n : ℕ) → from + n ≤ length l → parts (name_at l from) n 0 ≡ name_bytes (map name_of (take n (drop from l)))
names_at l from n h = flat-at (λ x. x / 32 ∷ x % 32 ∷ []) l from n h ∙ names-flat (take n (drop from l))

entries-flat : (l : List ℕ) → flat (λ x. x % 8 ∷ (x / 8 + 1) ∷ []) l ≡ queued_bytes (map queued_of l)
entries-flat [] = refl
entries-flat (x ∷ l) = ap (λ (r : List ℕ). x % 8 ∷ (x / 8 + 1) ∷ r) (entries-flat l)

pub entries_at : (l : List ℕ) (from n : ℕ) → from + n ≤ length l → parts (entry_at l from) n 0 ≡ queued_bytes (map queued_of (take n (drop from l)))
entries_at l from n h = flat-at (λ x. x % 8 ∷ (x / 8 + 1) ∷ []) l from n h ∙ entries-flat (take n (drop from l))

-- how long
pub taken-length : (l : List ℕ) (from n : ℕ) → from + n ≤ length l → length (take n (drop from l)) ≡ n
taken-length l from n h = length-take-le n (drop from l) (rw (length-drop from l) (omega arith))
