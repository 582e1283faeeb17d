-- How many pairs are compared, at given inputs: the first opposed pair at every place of four entries, searches that meet several, no pair compared,
-- short schedules, and recordings. `proofs/ComparisonExamples.antt` computes them.
-- Assumes nothing: these are definitions.
use Rattle.std.specs.Prelude.{ℕ, List, [], ◌∷◌}
use Rattle.model.specs.Calls.{gives, refuses, same, different}
use Rattle.model.specs.Claims.{Claim, ◌⇒◌, Answer, compares, compares_parts, counted}
use Rattle.model.specs.Cases.{table_a}
use Rattle.model.specs.Examples.{sets, note, site}
use Rattle.model.specs.Forecourt.{forecourt, loyalty_first, fleet_first, another_order}

abbrev pub as_same : ℕ → Answer
as_same n = counted (gives (record { verdict = same; pairs = n }))

abbrev pub as_different : ℕ → Answer
as_different n = counted (gives (record { verdict = different; pairs = n }))

-- four actors with two Notes each: any two of different actors are dependent; and four with a Set each: none are
abbrev pub four_notes : List ℕ
four_notes = site ((note ∷ note ∷ []) ∷ (note ∷ note ∷ []) ∷ (note ∷ note ∷ []) ∷ (note ∷ note ∷ []) ∷ [])

abbrev pub four_sets : List ℕ
four_sets = site ((sets 0 1 ∷ []) ∷ (sets 0 2 ∷ []) ∷ (sets 0 3 ∷ []) ∷ (sets 0 4 ∷ []) ∷ [])

abbrev pub in_order_of : List ℕ
in_order_of = 0 ∷ 1 ∷ 2 ∷ 3 ∷ []

abbrev pub comparisons : List Claim
comparisons =
    -- the first opposed pair is (0, 1), (0, 2), (1, 2), (0, 3), (1, 3), (2, 3); and there is none
    compares four_notes in_order_of (1 ∷ 0 ∷ 2 ∷ 3 ∷ []) ⇒ as_different 1
    ∷ compares four_notes in_order_of (2 ∷ 0 ∷ 1 ∷ 3 ∷ []) ⇒ as_different 2
    ∷ compares four_notes in_order_of (0 ∷ 2 ∷ 1 ∷ 3 ∷ []) ⇒ as_different 3
    ∷ compares four_notes in_order_of (3 ∷ 0 ∷ 1 ∷ 2 ∷ []) ⇒ as_different 4
    ∷ compares four_notes in_order_of (0 ∷ 3 ∷ 1 ∷ 2 ∷ []) ⇒ as_different 5
    ∷ compares four_notes in_order_of (0 ∷ 1 ∷ 3 ∷ 2 ∷ []) ⇒ as_different 6
    ∷ compares four_notes in_order_of in_order_of ⇒ as_same 6
    -- rising j, then rising i: (1, 2) comes before (0, 3), and (0, 2) before (1, 2)
    ∷ compares four_notes in_order_of (3 ∷ 0 ∷ 2 ∷ 1 ∷ []) ⇒ as_different 3
    ∷ compares four_notes in_order_of (2 ∷ 1 ∷ 0 ∷ 3 ∷ []) ⇒ as_different 1
    -- the pairs are those of the first schedule
    ∷ compares four_notes (2 ∷ 0 ∷ 1 ∷ 3 ∷ []) in_order_of ⇒ as_different 1
    -- independent pairs are compared too, and two steps of one actor
    ∷ compares four_sets in_order_of (3 ∷ 2 ∷ 1 ∷ 0 ∷ []) ⇒ as_same 6
    ∷ compares four_notes (0 ∷ 0 ∷ 1 ∷ []) (0 ∷ 1 ∷ 0 ∷ []) ⇒ as_different 3
    -- other lengths, and other steps, though a pair is opposed; either way round
    ∷ compares four_notes in_order_of (1 ∷ 0 ∷ 2 ∷ []) ⇒ as_different 0
    ∷ compares four_notes (1 ∷ 0 ∷ 2 ∷ []) in_order_of ⇒ as_different 0
    ∷ compares four_notes (0 ∷ 1 ∷ 0 ∷ []) (1 ∷ 0 ∷ 1 ∷ []) ⇒ as_different 0
    ∷ compares four_notes (1 ∷ 0 ∷ 1 ∷ []) (0 ∷ 1 ∷ 0 ∷ []) ⇒ as_different 0
    -- no entry, one, two
    ∷ compares four_notes [] [] ⇒ as_same 0
    ∷ compares four_notes (0 ∷ []) (0 ∷ []) ⇒ as_same 0
    ∷ compares four_notes (0 ∷ []) (1 ∷ []) ⇒ as_different 0
    ∷ compares four_notes (0 ∷ 1 ∷ []) (0 ∷ 1 ∷ []) ⇒ as_same 1
    ∷ compares four_notes (0 ∷ 1 ∷ []) (1 ∷ 0 ∷ []) ⇒ as_different 1
    -- refused as the verdict is
    ∷ compares four_notes (4 ∷ []) (5 ∷ []) ⇒ counted (refuses 11 0)
    ∷ compares table_a (0 ∷ 0 ∷ []) (1 ∷ 1 ∷ []) ⇒ counted (refuses 16 1)
    -- recordings: the pairs of the parts; none where these run other steps
    ∷ compares_parts four_notes in_order_of (1 ∷ 0 ∷ []) ⇒ as_different 1
    ∷ compares_parts four_notes (0 ∷ 1 ∷ 2 ∷ []) (0 ∷ 1 ∷ 2 ∷ 9 ∷ []) ⇒ as_same 3
    ∷ compares_parts four_notes in_order_of (3 ∷ 0 ∷ []) ⇒ as_different 0
    ∷ compares_parts four_notes in_order_of [] ⇒ as_same 0
    -- the forecourt: the two prices are posted by entries 1 and 3 of either schedule
    ∷ compares forecourt loyalty_first fleet_first ⇒ as_different 5
    ∷ compares forecourt fleet_first loyalty_first ⇒ as_different 5
    ∷ compares forecourt loyalty_first another_order ⇒ as_same 15
    ∷ []
