-- Exchanged schedules have the same page, since they end in one state.
-- Assumes nothing.
use Prim.Native.Nat.{ℕ}
use mathlib.Core.Path.{◌≡◌, sym, ◌∙◌}
use mathlib.Core.List.{List}
use lib.ListN.{take}
use Rattle.trace.specs.Chain.{replay}
use Rattle.model.specs.Site.{initial}
use Rattle.model.specs.Schedule.{first_numbers, check_schedule}
use Rattle.model.specs.Page.{page_of}
use Rattle.model.specs.PageShape.{SamePages}
use Rattle.model.specs.Demand3.{Accepted, EndsAlike}
use Rattle.model.proofs.Checks.{taken-checks}
use Rattle.model.proofs.Demand3.{demand-3}

page-alike : (table p q buffer : List ℕ) → Accepted table p → EndsAlike table p q → page_of table q buffer ≡ page_of table p buffer
unfolding page_of
page-alike table p q buffer h alike =
    let checks : check_schedule first_numbers table q ≡ check_schedule first_numbers table p =
    taken-checks table first_numbers initial 0 q alike.taken ∙ sym (taken-checks table first_numbers initial 0 p h) in
    rw (checks, alike.ends)

pub same-pages : SamePages
same-pages table read chain p q h c buffer =
    let along = (demand-3 table read).chains chain p q h c in
    (λ n. page-alike table p (replay (take n chain) p) buffer h (along.0 n), page-alike table p q buffer h along.1)
