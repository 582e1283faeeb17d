-- `page::lines` meets its contract: what the closure has borrowed outlives the call, and the rest the search finds. Assumes nothing.
use contract.BorrowLft.{⊑_meet, ⊑_static}
use Rattle.std.proofs.Common.{rules}
use Rattle.page.proofs.lines.Goals as goal

pub each-requires : goal.each-requires
each-requires c κs within = (search (⊑_meet, ⊑_static) depth 12, (search rules, (search rules, search rules)))
