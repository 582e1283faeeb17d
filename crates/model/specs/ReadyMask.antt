-- What the mask and the number ready say of a state: `proofs/ReadyMask.antt` proves it.
-- Assumes nothing: these are definitions.
use Rattle.std.specs.Prelude.{ℕ, ◌<◌, ◌^◌, ◌≡◌, List}
use Rattle.std.specs.Int.Count.{ones}
use Rattle.table.specs.Format.{actors_of}
use Rattle.model.specs.Site.{Site}
use Rattle.model.specs.Step.{ready}
use Rattle.model.specs.Ready.{bit, bit_of, ready_mask, ready_count}

pub record MaskRight (table : List ℕ) (s : Site) : Type 0 where
  -- bit i is 1 for an actor i that is ready, and else 0, past the table's actors too
  pub bits : (i : ℕ) → bit_of (ready_mask table s) i ≡ bit (ready table s i)
  -- it has no bit past the table's actors
  pub small : ready_mask table s < 2 ^ actors_of table
  -- the number of actors that are ready is the number of ones in the mask
  pub counted : ones (ready_mask table s) ≡ ready_count table s
