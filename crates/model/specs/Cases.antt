-- Document 01's "One site throughout": table A, and the marked cases (a) to (j). `proofs/Cases.antt` shows them of the model.
-- Assumes nothing: these are definitions.
use Rattle.std.specs.Prelude.{ℕ, true, List, [], ◌∷◌, set, take}
use Rattle.table.specs.Outcome.{refused}
use Rattle.model.specs.Site.{name}
use Rattle.model.specs.Ready.{going}
use Rattle.model.specs.Calls.{gives, refuses, independent, dependent, same}
use Rattle.model.specs.Claims.{Claim, ◌⇒◌, read, run, cell, ready, pair, are_same, is_route, outcome, ran, holds, readied, paired, judged, routed}

-- table A: actor 0 sets 149 and sends; actor 1 receives into cell 2 and waits, result in cell 3
abbrev pub table_a : List ℕ
table_a =
    0x01 ∷ 0x02 ∷ 0x01 ∷ 0x00
    ∷ 0x0C ∷ 0x00 ∷ 0x02 ∷ 0x00 ∷ 0x1C ∷ 0x00 ∷ 0x02 ∷ 0x00
    ∷ 0x00 ∷ 0x00 ∷ 0x00 ∷ 0x00 ∷ 0x95 ∷ 0x00 ∷ 0x00 ∷ 0x00
    ∷ 0x03 ∷ 0x00 ∷ 0x00 ∷ 0x00 ∷ 0x00 ∷ 0x00 ∷ 0x00 ∷ 0x00
    ∷ 0x04 ∷ 0x00 ∷ 0x02 ∷ 0x00 ∷ 0x00 ∷ 0x00 ∷ 0x00 ∷ 0x00
    ∷ 0x06 ∷ 0x03 ∷ 0x00 ∷ 0x01 ∷ 0x00 ∷ 0x00 ∷ 0x00 ∷ 0x00
    ∷ []

abbrev pub cases : List Claim
cases =
    -- (a) the run of 0, 1, 0, 1 has actor 1's cells 2 and 3 at 149 and 1; its report has 102 bytes, two more than document 01 says (W5)
    run table_a (0 ∷ 1 ∷ 0 ∷ 1 ∷ []) ⇒ ran (gives 102)
    ∷ cell table_a (0 ∷ 1 ∷ 0 ∷ 1 ∷ []) 1 2 ⇒ holds 149
    ∷ cell table_a (0 ∷ 1 ∷ 0 ∷ 1 ∷ []) 1 3 ⇒ holds 1
    -- (b) 1, 1 is refused 13 at 1
    ∷ run table_a (1 ∷ 1 ∷ []) ⇒ ran (refuses 13 1)
    -- (c) 0, 0, 0 is refused 12 at 2
    ∷ run table_a (0 ∷ 0 ∷ 0 ∷ []) ⇒ ran (refuses 12 2)
    -- (d) 2 is refused 11 at 0
    ∷ run table_a (2 ∷ []) ⇒ ran (refuses 11 0)
    -- (e) the empty schedule ends going, mask 3, two ready
    ∷ ready table_a [] ⇒ readied (gives (record { mask = 3; count = 2; ending = going }))
    -- (f) schedule 1 leaves mask 1
    ∷ ready table_a (1 ∷ []) ⇒ readied (gives (record { mask = 1; count = 1; ending = going }))
    -- (g) steps 0·1 and 1·0 are independent, 0·1 and 1·1 dependent
    ∷ pair table_a (name 0 1) (name 1 0) ⇒ paired (gives independent)
    ∷ pair table_a (name 0 1) (name 1 1) ⇒ paired (gives dependent)
    -- (h) 0, 0, 1, 1 and 1, 0, 0, 1 are same; 1, 0 is a route
    ∷ are_same table_a (0 ∷ 0 ∷ 1 ∷ 1 ∷ []) (1 ∷ 0 ∷ 0 ∷ 1 ∷ []) ⇒ judged (gives same)
    ∷ is_route table_a (1 ∷ 0 ∷ []) (0 ∷ 0 ∷ 1 ∷ 1 ∷ []) (1 ∷ 0 ∷ 0 ∷ 1 ∷ []) ⇒ routed true
    -- (i) A cut to 43 bytes is refused 5; with kind 255 at offset 12, refused 6 at 12
    ∷ read (take 43 table_a) ⇒ outcome (refused 5 0)
    ∷ read (set table_a 12 255) ⇒ outcome (refused 6 12)
    -- (j) z = 0 at offset 36 is refused 7; listing action 1 there, 8
    ∷ read (set table_a 39 0) ⇒ outcome (refused 7 36)
    ∷ read (set table_a 40 1) ⇒ outcome (refused 8 36)
    ∷ []
