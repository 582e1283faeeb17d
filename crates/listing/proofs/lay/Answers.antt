-- `listing::lay` meets its contract: what was written into zeros is the listing, of these bytes and of all files that begin with them.
-- Assumes nothing.
use Rattle.listing.proofs.Outcomes.{laid, laid-files}
use Rattle.model.specs.Listing.{listing_of}
use Rattle.listing.proofs.lay.Goals as goal

pub returns : goal.returns
returns c =
    let w = c.write-length in
    let text = listing_of c.args.table.now c.args.schedule.now in
    record {
      listing = laid text w.new.out w.result w.ensures.wrote _;
      beginnings = laid-files c.args.table.now c.args.schedule.now (laid text w.new.out w.result w.ensures.wrote _);
    }
