-- What the writers of the journal promise.
-- Assumes nothing: these are definitions.
use Rattle.std.specs.Prelude.{ℕ, ◌/◌, ◌%◌, List, ◌∷◌, get_or}
use Rattle.model.specs.Report.{long}

-- an entry's bytes, from the number that holds it
abbrev pub six_bytes : ℕ → List ℕ
six_bytes e = e % 256 / 32 ∷ e % 256 % 32 ∷ long (e / 256)

-- those of entry i
abbrev pub six_at : (entries : List ℕ) → ℕ → List ℕ
six_at entries i = six_bytes (get_or entries i 0)
