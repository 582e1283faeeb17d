-- Draws and drawn schedules at given inputs: the published beginning of the sequence, table A entry by entry, ranks among eight, sites that get stuck, and
-- the refusals. `proofs/DrawExamples.antt` computes them.
-- Assumes nothing: these are definitions.
use Rattle.std.specs.Prelude.{ℕ, List, [], ◌∷◌, ◌++◌, replicate, take}
use Rattle.model.specs.Ready.{stuck}
use Rattle.model.specs.Calls.{gives, refuses}
use Rattle.model.specs.Claims.{Claim, ◌⇒◌, ready, next_x, draw_in, drawn, drawn_over, ran, written, holds, readied}
use Rattle.model.specs.Cases.{table_a}
use Rattle.model.specs.Examples.{sets, send, receive, wait_any, lock, mutex_wait, site, two}
use Rattle.model.specs.OverExamples.{double, alone}

-- eight actors with a Set each
abbrev pub eight_sets : List ℕ
eight_sets = site (replicate 8 (sets 0 7 ∷ []))

-- actor 0 waits for what actor 1 sends: until then actor 1 alone is ready, after it both are
abbrev pub alone_then_both : List ℕ
alone_then_both =
    two (receive ∷ wait_any ∷ sets 0 1 ∷ sets 0 2 ∷ sets 0 3 ∷ []) (sets 0 5 ∷ send ∷ sets 1 1 ∷ sets 1 2 ∷ sets 1 3 ∷ [])

abbrev pub draws : List Claim
draws =
    -- the sequence from 0, as it is published; and the largest x
    next_x 0 ⇒ holds 0x3C6EF35F
    ∷ next_x 0x3C6EF35F ⇒ holds 0x47502932
    ∷ next_x 0x47502932 ⇒ holds 0xD1CCF6E9
    ∷ next_x 0xD1CCF6E9 ⇒ holds 0xAAF95334
    ∷ next_x 0xAAF95334 ⇒ holds 0x6252E503
    ∷ next_x 0xFFFFFFFF ⇒ holds 0x3C558D52
    -- table A: both are ready until one of them has to wait or is finished
    ∷ drawn table_a 0 ⇒ written (0 ∷ 0 ∷ 1 ∷ 1 ∷ [])
    ∷ drawn table_a 2 ⇒ written (1 ∷ 0 ∷ 0 ∷ 1 ∷ [])
    ∷ drawn table_a 2026 ⇒ written (0 ∷ 1 ∷ 0 ∷ 1 ∷ [])
    ∷ drawn table_a 4294967295 ⇒ written (1 ∷ 0 ∷ 0 ∷ 1 ∷ [])
    -- eight, seven, .., one ready
    ∷ drawn eight_sets 0 ⇒ written (6 ∷ 0 ∷ 3 ∷ 7 ∷ 4 ∷ 2 ∷ 1 ∷ 5 ∷ [])
    ∷ drawn eight_sets 4294967295 ⇒ written (5 ∷ 6 ∷ 3 ∷ 4 ∷ 1 ∷ 7 ∷ 2 ∷ 0 ∷ [])
    -- a draw is made where one actor alone is ready
    ∷ drawn alone_then_both 0 ⇒ written (0 ∷ 1 ∷ 1 ∷ 1 ∷ 0 ∷ 0 ∷ 0 ∷ 1 ∷ 1 ∷ 0 ∷ [])
    ∷ drawn alone_then_both 4 ⇒ written (0 ∷ 1 ∷ 1 ∷ 0 ∷ 1 ∷ 0 ∷ 0 ∷ 1 ∷ 0 ∷ 1 ∷ [])
    -- stuck by a mailbox, by a mutex, by an Add that runs over; nobody ready from the start
    ∷ drawn (two (receive ∷ wait_any ∷ []) (sets 0 7 ∷ sets 0 8 ∷ [])) 0 ⇒ written (0 ∷ 1 ∷ 1 ∷ [])
    ∷ ready (two (receive ∷ wait_any ∷ []) (sets 0 7 ∷ sets 0 8 ∷ [])) (0 ∷ 1 ∷ 1 ∷ []) ⇒ readied (gives (record { mask = 0; count = 0; ending = stuck }))
    ∷ drawn (two (lock ∷ mutex_wait ∷ []) (lock ∷ mutex_wait ∷ [])) 2 ⇒ written (1 ∷ 0 ∷ 1 ∷ [])
    ∷ drawn (alone (double 2147483648)) 0 ⇒ written (0 ∷ [])
    ∷ drawn (two [] []) 0 ⇒ written []
    -- what stood after the entries stays; a refusal changes nothing
    ∷ drawn_over (replicate 258 7) table_a 0 ⇒ written ((0 ∷ 0 ∷ 1 ∷ 1 ∷ []) ++ replicate 254 7)
    ∷ drawn_over (replicate 258 7) (take 43 table_a) 0 ⇒ written (replicate 258 7)
    ∷ drawn_over (replicate 255 7) table_a 0 ⇒ written (replicate 255 7)
    -- 23 comes first, and goes by the buffer alone
    ∷ draw_in 256 table_a 0 ⇒ ran (gives 4)
    ∷ draw_in 255 table_a 0 ⇒ ran (refuses 23 0)
    ∷ draw_in 255 [] 0 ⇒ ran (refuses 23 0)
    ∷ draw_in 256 [] 0 ⇒ ran (refuses 1 0)
    ∷ draw_in 256 (take 43 table_a) 0 ⇒ ran (refuses 5 0)
    ∷ []
