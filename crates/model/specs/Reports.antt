-- Two state reports byte by byte: document 01's case (a), and a site whose report has every form. `proofs/Reports.antt` computes them.
-- Assumes nothing: these are definitions.
use Rattle.std.specs.Prelude.{ℕ, List, [], ◌∷◌}
use Rattle.model.specs.Claims.{Claim, ◌⇒◌, run, bytes, ran, written}
use Rattle.model.specs.Calls.{gives}
use Rattle.model.specs.Cases.{table_a}
use Rattle.model.specs.Examples.{plain, sets, lists, lock, table_with}

-- ---- table A, 0, 1, 0, 1

abbrev pub report_a : List ℕ
report_a =
    -- actor 0, at position 2: cell 0 holds 149
    2 ∷ 149 ∷ 0 ∷ 0 ∷ 0 ∷ 0 ∷ 0 ∷ 0 ∷ 0 ∷ 0 ∷ 0 ∷ 0 ∷ 0 ∷ 0 ∷ 0 ∷ 0 ∷ 0 ∷ 0 ∷ 0 ∷ 0 ∷ 0 ∷ 0 ∷ 0 ∷ 0 ∷ 0 ∷ 0 ∷ 0 ∷ 0 ∷ 0 ∷ 0 ∷ 0 ∷ 0 ∷ 0
    -- actor 1, at position 2: cell 2 holds 149, cell 3 the place 1
    ∷ 2 ∷ 0 ∷ 0 ∷ 0 ∷ 0 ∷ 0 ∷ 0 ∷ 0 ∷ 0 ∷ 149 ∷ 0 ∷ 0 ∷ 0 ∷ 1 ∷ 0 ∷ 0 ∷ 0 ∷ 0 ∷ 0 ∷ 0 ∷ 0 ∷ 0 ∷ 0 ∷ 0 ∷ 0 ∷ 0 ∷ 0 ∷ 0 ∷ 0 ∷ 0 ∷ 0 ∷ 0 ∷ 0
    -- 0·0 Set
    ∷ 0 ∷ 0 ∷ 0 ∷ 0 ∷ 0 ∷ 0 ∷ 0 ∷ 0
    -- 0·1 Send: done with 1·0, value 149
    ∷ 2 ∷ 1 ∷ 0 ∷ 0 ∷ 149 ∷ 0 ∷ 0 ∷ 0
    -- 1·0 Receive: done with 0·1, value 149
    ∷ 2 ∷ 0 ∷ 1 ∷ 0 ∷ 149 ∷ 0 ∷ 0 ∷ 0
    -- 1·1 WaitAny
    ∷ 0 ∷ 0 ∷ 0 ∷ 0 ∷ 0 ∷ 0 ∷ 0 ∷ 0
    -- mailbox 0 is empty
    ∷ 0 ∷ 0
    -- so is the journal
    ∷ 0 ∷ 0
    ∷ []

-- ---- every form at once

abbrev pub actors_b : List (List (List ℕ))
actors_b =
    -- actor 0: Set; Lock; Receive from mailbox 1; Receive from mailbox 0 into cell 5; TestAny of the two, result in cell 6
    (sets 1 9 ∷ lock ∷ plain 4 1 4 ∷ plain 4 0 5 ∷ lists 5 6 (2 ∷ 3 ∷ []) ∷ [])
    -- actor 1: Set; Set; Send of cell 2 to mailbox 0; Send of cell 3 to mailbox 0; Send of cell 2 to mailbox 1
    ∷ (sets 2 67305985 ∷ sets 3 258 ∷ plain 3 0 2 ∷ plain 3 0 3 ∷ plain 3 1 2 ∷ [])
    -- actor 2: Set; Send of cell 7 to mailbox 0; Lock, twice; Note of cell 7
    ∷ (sets 7 300 ∷ plain 3 0 7 ∷ lock ∷ lock ∷ plain 11 7 0 ∷ [])
    ∷ []

-- with two mailboxes and two mutexes
abbrev pub table_b : List ℕ
table_b = table_with 2 2 actors_b

-- 1·2 and 2·1 send; actor 2 locks before actor 0, and again after it; 0·3 takes what 1·2 sent, the oldest; 0·4 finds it; 1·3 sends; 2·4 notes; 1·4 has not run
abbrev pub order_b : List ℕ
order_b = 1 ∷ 1 ∷ 1 ∷ 2 ∷ 2 ∷ 2 ∷ 0 ∷ 0 ∷ 0 ∷ 0 ∷ 0 ∷ 1 ∷ 2 ∷ 2 ∷ []

abbrev pub report_b : List ℕ
report_b =
    -- actor 0, at position 5: cell 1 holds 9, cell 5 the value 67305985 (bytes 1, 2, 3, 4), cell 6 the place 2
    5 ∷ 0 ∷ 0 ∷ 0 ∷ 0 ∷ 9 ∷ 0 ∷ 0 ∷ 0 ∷ 0 ∷ 0 ∷ 0 ∷ 0 ∷ 0 ∷ 0 ∷ 0 ∷ 0 ∷ 0 ∷ 0 ∷ 0 ∷ 0 ∷ 1 ∷ 2 ∷ 3 ∷ 4 ∷ 2 ∷ 0 ∷ 0 ∷ 0 ∷ 0 ∷ 0 ∷ 0 ∷ 0
    -- actor 1, at position 4: cell 2 holds 67305985, cell 3 holds 258
    ∷ 4 ∷ 0 ∷ 0 ∷ 0 ∷ 0 ∷ 0 ∷ 0 ∷ 0 ∷ 0 ∷ 1 ∷ 2 ∷ 3 ∷ 4 ∷ 2 ∷ 1 ∷ 0 ∷ 0 ∷ 0 ∷ 0 ∷ 0 ∷ 0 ∷ 0 ∷ 0 ∷ 0 ∷ 0 ∷ 0 ∷ 0 ∷ 0 ∷ 0 ∷ 0 ∷ 0 ∷ 0 ∷ 0
    -- actor 2, at position 5: cell 7 holds 300
    ∷ 5 ∷ 0 ∷ 0 ∷ 0 ∷ 0 ∷ 0 ∷ 0 ∷ 0 ∷ 0 ∷ 0 ∷ 0 ∷ 0 ∷ 0 ∷ 0 ∷ 0 ∷ 0 ∷ 0 ∷ 0 ∷ 0 ∷ 0 ∷ 0 ∷ 0 ∷ 0 ∷ 0 ∷ 0 ∷ 0 ∷ 0 ∷ 0 ∷ 0 ∷ 44 ∷ 1 ∷ 0 ∷ 0
    -- 0·0 Set
    ∷ 0 ∷ 0 ∷ 0 ∷ 0 ∷ 0 ∷ 0 ∷ 0 ∷ 0
    -- 0·1 Lock
    ∷ 0 ∷ 0 ∷ 0 ∷ 0 ∷ 0 ∷ 0 ∷ 0 ∷ 0
    -- 0·2 Receive: pending
    ∷ 1 ∷ 0 ∷ 0 ∷ 0 ∷ 0 ∷ 0 ∷ 0 ∷ 0
    -- 0·3 Receive: done with 1·2, value 67305985
    ∷ 2 ∷ 1 ∷ 2 ∷ 0 ∷ 1 ∷ 2 ∷ 3 ∷ 4
    -- 0·4 TestAny
    ∷ 0 ∷ 0 ∷ 0 ∷ 0 ∷ 0 ∷ 0 ∷ 0 ∷ 0
    -- 1·0 Set
    ∷ 0 ∷ 0 ∷ 0 ∷ 0 ∷ 0 ∷ 0 ∷ 0 ∷ 0
    -- 1·1 Set
    ∷ 0 ∷ 0 ∷ 0 ∷ 0 ∷ 0 ∷ 0 ∷ 0 ∷ 0
    -- 1·2 Send: done with 0·3, value 67305985
    ∷ 2 ∷ 0 ∷ 3 ∷ 0 ∷ 1 ∷ 2 ∷ 3 ∷ 4
    -- 1·3 Send: pending, value 258
    ∷ 1 ∷ 0 ∷ 0 ∷ 0 ∷ 2 ∷ 1 ∷ 0 ∷ 0
    -- 1·4 Send: unposted
    ∷ 0 ∷ 0 ∷ 0 ∷ 0 ∷ 0 ∷ 0 ∷ 0 ∷ 0
    -- 2·0 Set
    ∷ 0 ∷ 0 ∷ 0 ∷ 0 ∷ 0 ∷ 0 ∷ 0 ∷ 0
    -- 2·1 Send: pending, value 300
    ∷ 1 ∷ 0 ∷ 0 ∷ 0 ∷ 44 ∷ 1 ∷ 0 ∷ 0
    -- 2·2 Lock
    ∷ 0 ∷ 0 ∷ 0 ∷ 0 ∷ 0 ∷ 0 ∷ 0 ∷ 0
    -- 2·3 Lock
    ∷ 0 ∷ 0 ∷ 0 ∷ 0 ∷ 0 ∷ 0 ∷ 0 ∷ 0
    -- 2·4 Note
    ∷ 0 ∷ 0 ∷ 0 ∷ 0 ∷ 0 ∷ 0 ∷ 0 ∷ 0
    -- mailbox 0: two Sends, 2·1 and 1·3
    ∷ 2 ∷ 0 ∷ 2 ∷ 1 ∷ 1 ∷ 3
    -- mailbox 1: one Receive, 0·2
    ∷ 1 ∷ 0 ∷ 0 ∷ 2
    -- mutex 0: actor 2 with depth 2, actor 0 with depth 1
    ∷ 2 ∷ 2 ∷ 2 ∷ 0 ∷ 1
    -- mutex 1: nobody
    ∷ 0
    -- the journal: one entry, 2·4 with 300
    ∷ 1 ∷ 0 ∷ 2 ∷ 4 ∷ 44 ∷ 1 ∷ 0 ∷ 0
    ∷ []

-- the run answers with the length, and leaves these bytes
abbrev pub reports : List Claim
reports =
    bytes table_a (0 ∷ 1 ∷ 0 ∷ 1 ∷ []) ⇒ written report_a
    ∷ run table_b order_b ⇒ ran (gives 243)
    ∷ bytes table_b order_b ⇒ written report_b
    ∷ []
