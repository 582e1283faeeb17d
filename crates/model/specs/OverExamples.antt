-- Totals at the limit, at given inputs: sums of exactly 4,294,967,295 and one more, by two cells and by one; sites stuck by them; the page; and the
-- refusals 21 and 22. `proofs/OverExamples.antt` computes them.
-- Assumes nothing: these are definitions.
use Rattle.std.specs.Prelude.{ℕ, List, [], ◌∷◌}
use Rattle.table.specs.Outcome.{refused}
use Rattle.model.specs.Ready.{finished, stuck, going}
use Rattle.model.specs.Calls.{gives, refuses, same}
use Rattle.model.specs.Claims.{Claim, ◌⇒◌, lines, run, cell, page_in, page, ready, are_same, route_in, outcome, ran, written, holds, readied, judged}
use Rattle.model.specs.Examples.{plain, sets, receive, wait_any, site, two}

-- cells 0 and 1 are set, and cell 1 is added to cell 0
abbrev pub sum : (first second : ℕ) → List (List ℕ)
sum first second = sets 0 first ∷ sets 1 second ∷ plain 1 0 1 ∷ []

-- cell 0 is set, and added to itself
abbrev pub double : (value : ℕ) → List (List ℕ)
double value = sets 0 value ∷ plain 1 0 0 ∷ []

-- the table of one actor
abbrev pub alone : List (List ℕ) → List ℕ
alone actions = site (actions ∷ [])

abbrev pub totals : List Claim
totals =
    -- 4,294,967,295 + 0 is ready and is taken; + 1 is over: a site with only such a step left is stuck, and it is refused 21 at its entry
    ready (alone (sum 4294967295 0)) (0 ∷ 0 ∷ []) ⇒ readied (gives (record { mask = 1; count = 1; ending = going }))
    ∷ cell (alone (sum 4294967295 0)) (0 ∷ 0 ∷ 0 ∷ []) 0 0 ⇒ holds 4294967295
    ∷ ready (alone (sum 4294967295 1)) (0 ∷ 0 ∷ []) ⇒ readied (gives (record { mask = 0; count = 0; ending = stuck }))
    ∷ run (alone (sum 4294967295 1)) (0 ∷ 0 ∷ 0 ∷ []) ⇒ ran (refuses 21 2)
    -- the largest sum of two cells, and one more the other way round
    ∷ cell (alone (sum 1 4294967294)) (0 ∷ 0 ∷ 0 ∷ []) 0 0 ⇒ holds 4294967295
    ∷ run (alone (sum 1 4294967295)) (0 ∷ 0 ∷ 0 ∷ []) ⇒ ran (refuses 21 2)
    ∷ run (alone (sum 4294967295 4294967295)) (0 ∷ 0 ∷ 0 ∷ []) ⇒ ran (refuses 21 2)
    -- a cell doubled at 2^31 − 1 and at 2^31
    ∷ cell (alone (double 2147483647)) (0 ∷ 0 ∷ []) 0 0 ⇒ holds 4294967294
    ∷ ready (alone (double 2147483647)) (0 ∷ 0 ∷ []) ⇒ readied (gives (record { mask = 0; count = 0; ending = finished }))
    ∷ ready (alone (double 2147483648)) (0 ∷ []) ⇒ readied (gives (record { mask = 0; count = 0; ending = stuck }))
    ∷ run (alone (double 2147483648)) (0 ∷ 0 ∷ []) ⇒ ran (refuses 21 1)
    -- actor 0 is over and actor 1 waits: stuck; 21 for the one, 13 for the other
    ∷ page (two (double 2147483648) (receive ∷ wait_any ∷ [])) (0 ∷ 1 ∷ []) ⇒ written (lines
    ("0  1 over     2147483648          0          0          0          0          0          0          0"
    ∷ "1  1 waits             0          0          0          0          0          0          0          0"
    ∷ []))
    ∷ ready (two (double 2147483648) (receive ∷ wait_any ∷ [])) (0 ∷ 1 ∷ [])
    ⇒ readied (gives (record { mask = 0; count = 0; ending = stuck }))
    ∷ run (two (double 2147483648) (receive ∷ wait_any ∷ [])) (0 ∷ 1 ∷ 0 ∷ []) ⇒ ran (refuses 21 2)
    ∷ run (two (double 2147483648) (receive ∷ wait_any ∷ [])) (0 ∷ 1 ∷ 1 ∷ []) ⇒ ran (refuses 13 2)
    -- actor 0 is over, and actor 1 is ready still
    ∷ ready (two (double 2147483648) (sets 0 7 ∷ [])) (0 ∷ []) ⇒ readied (gives (record { mask = 2; count = 1; ending = going }))
    -- 21 in each call with a first schedule, 22 for the second: at the same entry when the steps before it are exchanged
    ∷ page_in 816 (two (double 2147483648) (sets 0 7 ∷ [])) (0 ∷ 1 ∷ 0 ∷ []) ⇒ ran (refuses 21 2)
    ∷ ready (two (double 2147483648) (sets 0 7 ∷ [])) (0 ∷ 1 ∷ 0 ∷ []) ⇒ readied (refuses 21 2)
    ∷ ready (two (double 2147483648) (sets 0 7 ∷ [])) (1 ∷ 0 ∷ 0 ∷ []) ⇒ readied (refuses 21 2)
    ∷ are_same (two (double 2147483648) (sets 0 7 ∷ [])) (0 ∷ 1 ∷ []) (1 ∷ 0 ∷ []) ⇒ judged (gives same)
    ∷ are_same (two (double 2147483648) (sets 0 7 ∷ [])) (0 ∷ 0 ∷ []) (0 ∷ 0 ∷ []) ⇒ judged (refuses 21 1)
    ∷ are_same (two (double 2147483648) (sets 0 7 ∷ [])) (0 ∷ 1 ∷ []) (1 ∷ 0 ∷ 0 ∷ []) ⇒ judged (refuses 22 2)
    ∷ route_in 1 (two (double 2147483648) (sets 0 7 ∷ [])) (0 ∷ 1 ∷ 0 ∷ []) (1 ∷ 0 ∷ []) ⇒ outcome (refused 21 2)
    ∷ route_in 1 (two (double 2147483648) (sets 0 7 ∷ [])) (0 ∷ 1 ∷ []) (1 ∷ 0 ∷ 0 ∷ []) ⇒ outcome (refused 22 2)
    ∷ []
