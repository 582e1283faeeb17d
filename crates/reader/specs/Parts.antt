-- What the reader's own functions promise one another. A caller of the crate needs nothing of this.
-- Assumes nothing.
use Rattle.std.specs.Prelude.{ℕ, ◌≡◌, List}
use Rattle.table.specs.Outcome.{accepted}
use Rattle.table.specs.Read.{header_of, directory_of, end_of}

-- nothing is wrong before the actions
pub record Placed (b : List ℕ) : Type 0 where
  pub header : header_of b ≡ accepted
  pub directory : directory_of b ≡ accepted
  pub end : end_of b ≡ accepted
