-- The small forecourt of `examples/`: a loyalty task and a fleet task each send their price to the pump's mailbox, and the pump takes what comes
-- first. Two orders that end at different prices, and a third that is the first one's run. `proofs/Forecourt.antt` computes what is claimed.
-- Assumes nothing: these are definitions.
use Rattle.std.specs.Prelude.{ℕ, List, [], ◌∷◌}
use Rattle.model.specs.Calls.{gives, independent, dependent, same, different}
use Rattle.model.specs.Site.{name}
use Rattle.model.specs.Claims.{Claim, ◌⇒◌, cell, pair, are_same, holds, paired, judged}

-- actor 0, loyalty, sets 145 and sends; actor 1, fleet, sets 139 and sends; actor 2, the pump, receives into cell 0 and waits, result in cell 1
abbrev pub forecourt : List ℕ
forecourt =
    1 ∷ 3 ∷ 1 ∷ 0
    ∷ 16 ∷ 0 ∷ 2 ∷ 0 ∷ 32 ∷ 0 ∷ 2 ∷ 0 ∷ 48 ∷ 0 ∷ 2 ∷ 0
    ∷ 0 ∷ 0 ∷ 0 ∷ 0 ∷ 145 ∷ 0 ∷ 0 ∷ 0
    ∷ 3 ∷ 0 ∷ 0 ∷ 0 ∷ 0 ∷ 0 ∷ 0 ∷ 0
    ∷ 0 ∷ 0 ∷ 0 ∷ 0 ∷ 139 ∷ 0 ∷ 0 ∷ 0
    ∷ 3 ∷ 0 ∷ 0 ∷ 0 ∷ 0 ∷ 0 ∷ 0 ∷ 0
    ∷ 4 ∷ 0 ∷ 0 ∷ 0 ∷ 0 ∷ 0 ∷ 0 ∷ 0
    ∷ 6 ∷ 1 ∷ 0 ∷ 1 ∷ 0 ∷ 0 ∷ 0 ∷ 0
    ∷ []

abbrev pub loyalty_first : List ℕ
loyalty_first = 0 ∷ 0 ∷ 1 ∷ 1 ∷ 2 ∷ 2 ∷ []

abbrev pub fleet_first : List ℕ
fleet_first = 1 ∷ 1 ∷ 0 ∷ 0 ∷ 2 ∷ 2 ∷ []

abbrev pub another_order : List ℕ
another_order = 2 ∷ 1 ∷ 0 ∷ 0 ∷ 1 ∷ 2 ∷ []

abbrev pub orders : List Claim
orders =
    -- the price in the pump's cell 0
    cell forecourt loyalty_first 2 0 ⇒ holds 145
    ∷ cell forecourt fleet_first 2 0 ⇒ holds 139
    ∷ cell forecourt another_order 2 0 ⇒ holds 145
    -- what the same verdict says
    ∷ are_same forecourt loyalty_first fleet_first ⇒ judged (gives different)
    ∷ are_same forecourt loyalty_first another_order ⇒ judged (gives same)
    -- why: the two Sends go to one mailbox, while a Send and the Receive there may trade places
    ∷ pair forecourt (name 0 1) (name 1 1) ⇒ paired (gives dependent)
    ∷ pair forecourt (name 0 1) (name 2 0) ⇒ paired (gives independent)
    ∷ []
