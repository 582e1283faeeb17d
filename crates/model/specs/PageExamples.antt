-- Pages at given inputs: every status, numbers at the edges of their columns, and the order of the call's refusals. `proofs/PageExamples.antt` computes
-- them.
-- Assumes nothing: these are definitions.
use Rattle.std.specs.Prelude.{ℕ, List, [], ◌∷◌, ◌++◌, replicate}
use Rattle.model.specs.Calls.{gives, refuses}
use Rattle.model.specs.Claims.{Claim, ◌⇒◌, lines, page_in, page, ran, written}
use Rattle.model.specs.Cases.{table_a}
use Rattle.model.specs.Examples.{sets, table_with}

-- one actor that sets its cells, the largest value of 32 bits among them, and has an action left
abbrev pub wide : List ℕ
wide =
    table_with 0 0
    ((sets 0 4294967295 ∷ sets 1 999999999 ∷ sets 2 10 ∷ sets 3 1000000000 ∷ sets 4 9 ∷ sets 5 99 ∷ sets 6 100000 ∷ sets 7 1234567 ∷ sets 0 0 ∷ [])
    ∷ [])

-- an actor with 32 actions, one with none, and two with more than they will run
abbrev pub long : List ℕ
long = table_with 0 0 (replicate 32 (sets 7 7) ∷ [] ∷ replicate 10 (sets 0 0) ∷ replicate 11 (sets 0 0) ∷ [])

abbrev pub long_order : List ℕ
long_order = replicate 32 0 ++ (replicate 9 2 ++ replicate 10 3)

abbrev pub pages : List Claim
pages =
    -- both finished, with document 01's values of case (a)
    page table_a (0 ∷ 1 ∷ 0 ∷ 1 ∷ []) ⇒ written (lines
    ("0  2 finished        149          0          0          0          0          0          0          0"
    ∷ "1  2 finished          0          0        149          1          0          0          0          0"
    ∷ []))
    -- actor 1 waits for what actor 0 has not sent
    ∷ page table_a (1 ∷ []) ⇒ written (lines
    ("0  0 ready             0          0          0          0          0          0          0          0"
    ∷ "1  1 waits             0          0          0          0          0          0          0          0"
    ∷ []))
    -- cells of 1, 2, 6, 7, 9 and 10 digits
    ∷ page wide (replicate 8 0) ⇒ written (lines
    ("0  8 ready    4294967295  999999999         10 1000000000          9         99     100000    1234567"
    ∷ []))
    -- positions 32, 0, 9 and 10; an actor without actions is finished at once
    ∷ page long long_order ⇒ written (lines
    ("0 32 finished          0          0          0          0          0          0          0          7"
    ∷ "1  0 finished          0          0          0          0          0          0          0          0"
    ∷ "2  9 ready             0          0          0          0          0          0          0          0"
    ∷ "3 10 ready             0          0          0          0          0          0          0          0"
    ∷ []))
    -- the number of bytes laid out; the buffer is looked at before the table, the table before the schedule
    ∷ page_in 816 table_a (0 ∷ 1 ∷ 0 ∷ 1 ∷ []) ⇒ ran (gives 204)
    ∷ page_in 815 table_a (0 ∷ 1 ∷ 0 ∷ 1 ∷ []) ⇒ ran (refuses 20 0)
    ∷ page_in 815 [] (9 ∷ []) ⇒ ran (refuses 20 0)
    ∷ page_in 816 [] (9 ∷ []) ⇒ ran (refuses 1 0)
    ∷ page_in 816 table_a (1 ∷ 9 ∷ []) ⇒ ran (refuses 11 1)
    ∷ page_in 816 table_a (0 ∷ 0 ∷ 0 ∷ []) ⇒ ran (refuses 12 2)
    ∷ page_in 816 table_a (1 ∷ 1 ∷ []) ⇒ ran (refuses 13 1)
    ∷ []
