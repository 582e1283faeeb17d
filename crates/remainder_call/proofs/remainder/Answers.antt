-- `remainder_call::remainder` meets its contract: the part's bytes, where they stand. Assumes nothing.
use Rattle.remainder_call.proofs.Parts.{of-first, of-second, left-of-first, left-of-second}
use Rattle.remainder_call.proofs.remainder.Goals as goal

pub returns-in-First : goal.returns-in-First
returns-in-First c =
    let f = of-first _ _ c.part-part.result c.part-part.ensures c.in-First.is in left-of-first _ _ _ f.0 f.1

pub returns-in-Second : goal.returns-in-Second
returns-in-Second c =
    let f = of-second _ _ c.part-part.result c.part-part.ensures c.in-Second.is in left-of-second _ _ _ f.0 f.1
