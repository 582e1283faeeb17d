-- Corners of document 01 at given inputs: which refusal comes first where several conditions hold, and what a test or a wait leaves in the cells.
-- `proofs/Corners.antt` computes them.
-- Assumes nothing: these are definitions.
use Rattle.std.specs.Prelude.{ℕ, List, [], ◌∷◌, ◌++◌, set}
use Rattle.table.specs.Outcome.{accepted, refused}
use Rattle.model.specs.Site.{name}
use Rattle.model.specs.Calls.{gives, refuses, different}
use Rattle.model.specs.Claims.{Claim, ◌⇒◌, run_in, run, cell, ready, pair, are_same, route_in, outcome, ran, holds, readied, paired, judged}
use Rattle.model.specs.Cases.{table_a}
use Rattle.model.specs.Examples.{plain, sets, lists, send, receive, test_any, mutex_test, site, two}

-- ---- which refusal comes first

-- table A with kind 255 at offset 12, which is refused 6 at 12
abbrev pub bad_table : List ℕ
bad_table = set table_a 12 255

abbrev pub refusal_order : List Claim
refusal_order =
    -- run: 10 before the table and the schedule, and by the buffer's length, although this report has 102 bytes; then the table before the schedule
    run_in 4513 bad_table (2 ∷ []) ⇒ ran (refuses 10 0)
    ∷ run_in 4513 table_a (0 ∷ 1 ∷ 0 ∷ 1 ∷ []) ⇒ ran (refuses 10 0)
    ∷ run bad_table (2 ∷ []) ⇒ ran (refuses 6 12)
    -- ready, pair, same: the table before the schedule, the names, the two schedules
    ∷ ready bad_table (2 ∷ []) ⇒ readied (refuses 6 12)
    ∷ pair bad_table (name 2 0) (name 0 2) ⇒ paired (refuses 6 12)
    ∷ are_same bad_table (2 ∷ []) (2 ∷ []) ⇒ judged (refuses 6 12)
    -- same: the first schedule whole before the second; a refusal of either before "different", which different lengths give
    ∷ are_same table_a (1 ∷ 1 ∷ []) (2 ∷ []) ⇒ judged (refuses 13 1)
    ∷ are_same table_a (1 ∷ 1 ∷ []) [] ⇒ judged (refuses 13 1)
    ∷ are_same table_a [] (1 ∷ 1 ∷ []) ⇒ judged (refuses 16 1)
    ∷ are_same table_a [] (1 ∷ []) ⇒ judged (gives different)
    -- route: the schedules, then 19, then 18; schedules of one entry need no room
    ∷ route_in 0 table_a (0 ∷ 1 ∷ []) (0 ∷ 2 ∷ []) ⇒ outcome (refused 14 1)
    ∷ route_in 0 table_a (0 ∷ 1 ∷ []) (0 ∷ 0 ∷ []) ⇒ outcome (refused 19 0)
    ∷ route_in 0 table_a (0 ∷ 1 ∷ []) (1 ∷ 0 ∷ []) ⇒ outcome (refused 18 0)
    ∷ route_in 1 table_a (0 ∷ 1 ∷ []) (1 ∷ 0 ∷ []) ⇒ outcome accepted
    ∷ route_in 0 table_a (0 ∷ []) (0 ∷ []) ⇒ outcome accepted
    ∷ []

-- ---- what a test or a wait leaves in the cells

-- actor 0 receives 149 into cell 0; a TestAny or WaitAny of that Receive has its result in cell 0 too
abbrev pub one_cell : (kind : ℕ) → List ℕ
one_cell kind = two (receive ∷ lists kind 0 (0 ∷ []) ∷ []) (sets 0 149 ∷ send ∷ [])

-- the actor's Receive into cell 2 takes its own Send of 5; then cell 0, which was sent, is set to 6, and a TestAny or WaitAny lists the Send (1) and
-- the Receive (2), with its result in cell 1
abbrev pub own_pair : (kind : ℕ) (numbers : List ℕ) → List ℕ
own_pair kind numbers = site ((sets 0 5 ∷ send ∷ plain 4 0 2 ∷ sets 0 6 ∷ lists kind 1 numbers ∷ []) ∷ [])

-- the whole of that one actor
abbrev pub own_order : List ℕ
own_order = 0 ∷ 0 ∷ 0 ∷ 0 ∷ 0 ∷ []

abbrev pub left_in_cells : List Claim
left_in_cells =
    -- the result cell is the Receive's cell: it is written last, so the place stays
    cell (one_cell 5) (0 ∷ 1 ∷ 1 ∷ 0 ∷ []) 0 0 ⇒ holds 1
    ∷ cell (one_cell 6) (0 ∷ 1 ∷ 1 ∷ 0 ∷ []) 0 0 ⇒ holds 1
    -- a test that finds nothing writes 0 over the 9 that its result cell held
    ∷ cell (site ((receive ∷ sets 1 9 ∷ test_any ∷ []) ∷ [])) (0 ∷ 0 ∷ 0 ∷ []) 0 1 ⇒ holds 0
    ∷ cell (site ((sets 1 9 ∷ mutex_test ∷ []) ∷ [])) (0 ∷ 0 ∷ []) 0 1 ⇒ holds 0
    -- a done Send earlier in the list stops the search at place 1; no value is written, neither to its cell nor to the Receive's
    ∷ cell (own_pair 5 (1 ∷ 2 ∷ [])) own_order 0 1 ⇒ holds 1
    ∷ cell (own_pair 5 (1 ∷ 2 ∷ [])) own_order 0 0 ⇒ holds 6
    ∷ cell (own_pair 5 (1 ∷ 2 ∷ [])) own_order 0 2 ⇒ holds 0
    -- with the Receive earlier, its cell gets the value, though the test comes later than the Set
    ∷ cell (own_pair 6 (2 ∷ 1 ∷ [])) own_order 0 1 ⇒ holds 1
    ∷ cell (own_pair 6 (2 ∷ 1 ∷ [])) own_order 0 0 ⇒ holds 6
    ∷ cell (own_pair 6 (2 ∷ 1 ∷ [])) own_order 0 2 ⇒ holds 5
    ∷ []

abbrev pub corners : List Claim
corners = refusal_order ++ left_in_cells
