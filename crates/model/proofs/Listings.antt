-- The listings of `specs/Listings.antt`, document 01's five lines among them: one proof, by computation.
-- Assumes nothing.
use mathlib.Core.Path.{refl}
use Rattle.table.specs.Decode.{decode_as}
use Rattle.table.specs.Read.{read_of}
use Rattle.model.specs.Site.{initial}
use Rattle.model.specs.Local.{cells_after}
use Rattle.model.specs.Step.{ready, step}
use Rattle.model.specs.Listing.{listing_of}
use Rattle.model.specs.Listings.{ListingsHold}

pub listings-hold : ListingsHold
unfolding listing_of read_of decode_as initial ready step cells_after
listings-hold = refl
