-- What a listing that was laid out holds: the text in front, and zeros after it.
-- Assumes nothing: these are definitions.
use Rattle.std.specs.Prelude.{ℕ, ◌-◌, ◌≤◌, ◌≡◌, List, ◌++◌, length, replicate}
use Rattle.listing.specs.declared.laid.Listing.{Listing}

pub record Laid (text : List ℕ) (r : Listing) : Type 0 where
  pub counted : r.length ≡ length text
  pub room : length text ≤ 1293
  pub laid : r.bytes ≡ text ++ replicate (1293 - length text) 0
