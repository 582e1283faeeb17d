-- Recordings at given inputs: of unequal lengths both ways round, with bad entries on either side of the cut, empty ones; and remainders.
-- `proofs/RecordingExamples.antt` computes them.
-- Assumes nothing: these are definitions.
use Rattle.std.specs.Prelude.{ℕ, List, [], ◌∷◌, replicate, take}
use Rattle.model.specs.Calls.{gives, refuses, same, different}
use Rattle.model.specs.Recordings.{the_first, the_second, Part, Slice}
use Rattle.model.specs.Claims.{Claim, ◌⇒◌, are_same, prefix, remains, remainder, judged, part, handed}
use Rattle.model.specs.Cases.{table_a}
use Rattle.model.specs.Examples.{sets, two}
use Rattle.model.specs.OverExamples.{double}

abbrev pub of_first : (from length : ℕ) → Part
of_first from length = record { recording = the_first; from = from; length = length }

abbrev pub of_second : (from length : ℕ) → Part
of_second from length = record { recording = the_second; from = from; length = length }

abbrev pub slice : (block offset : ℕ) → List ℕ → Slice
slice block offset bytes = record { block = block; offset = offset; bytes = bytes }

abbrev pub recordings : List Claim
recordings =
    -- 0, 0, 1 and 1, 0, 0 are the same; the call same finds the recordings different, for their lengths
    prefix table_a (0 ∷ 0 ∷ 1 ∷ 1 ∷ []) (1 ∷ 0 ∷ 0 ∷ []) ⇒ judged (gives same)
    ∷ prefix table_a (1 ∷ 0 ∷ 0 ∷ []) (0 ∷ 0 ∷ 1 ∷ 1 ∷ []) ⇒ judged (gives same)
    ∷ are_same table_a (0 ∷ 0 ∷ 1 ∷ 1 ∷ []) (1 ∷ 0 ∷ 0 ∷ []) ⇒ judged (gives different)
    -- the first entries are kept, and the last of them counts
    ∷ prefix table_a (0 ∷ 0 ∷ 1 ∷ 1 ∷ []) (0 ∷ 0 ∷ []) ⇒ judged (gives same)
    ∷ prefix table_a (0 ∷ 0 ∷ 1 ∷ []) (0 ∷ 1 ∷ []) ⇒ judged (gives different)
    ∷ prefix table_a (0 ∷ 1 ∷ []) (0 ∷ 0 ∷ 1 ∷ []) ⇒ judged (gives different)
    -- a bad entry just before the cut: of the first recording, of the second, of both
    ∷ prefix table_a (0 ∷ 0 ∷ 2 ∷ 1 ∷ []) (1 ∷ 0 ∷ 0 ∷ []) ⇒ judged (refuses 11 2)
    ∷ prefix table_a (0 ∷ 0 ∷ 0 ∷ 1 ∷ []) (1 ∷ 0 ∷ 0 ∷ []) ⇒ judged (refuses 12 2)
    ∷ prefix table_a (0 ∷ 1 ∷ 1 ∷ 0 ∷ []) (1 ∷ 0 ∷ 0 ∷ []) ⇒ judged (refuses 13 2)
    ∷ prefix table_a (1 ∷ 0 ∷ 0 ∷ []) (0 ∷ 0 ∷ 2 ∷ 1 ∷ []) ⇒ judged (refuses 14 2)
    ∷ prefix table_a (1 ∷ 0 ∷ 0 ∷ []) (0 ∷ 0 ∷ 0 ∷ 1 ∷ []) ⇒ judged (refuses 15 2)
    ∷ prefix table_a (1 ∷ 0 ∷ 0 ∷ []) (0 ∷ 1 ∷ 1 ∷ 0 ∷ []) ⇒ judged (refuses 16 2)
    ∷ prefix table_a (0 ∷ 0 ∷ 2 ∷ []) (2 ∷ 0 ∷ 0 ∷ 1 ∷ []) ⇒ judged (refuses 11 2)
    -- just after it: not seen, though the call same refuses it
    ∷ prefix table_a (0 ∷ 0 ∷ 1 ∷ 2 ∷ []) (1 ∷ 0 ∷ 0 ∷ []) ⇒ judged (gives same)
    ∷ are_same table_a (0 ∷ 0 ∷ 1 ∷ 2 ∷ []) (1 ∷ 0 ∷ 0 ∷ []) ⇒ judged (refuses 11 3)
    ∷ prefix table_a (1 ∷ 0 ∷ 0 ∷ []) (0 ∷ 0 ∷ 1 ∷ 0 ∷ []) ⇒ judged (gives same)
    ∷ are_same table_a (1 ∷ 0 ∷ 0 ∷ []) (0 ∷ 0 ∷ 1 ∷ 0 ∷ []) ⇒ judged (refuses 15 3)
    -- an Add that runs over, on either side of the cut
    ∷ prefix (two (double 2147483648) (sets 0 7 ∷ [])) (0 ∷ 1 ∷ 0 ∷ []) (1 ∷ 0 ∷ []) ⇒ judged (gives same)
    ∷ prefix (two (double 2147483648) (sets 0 7 ∷ [])) (0 ∷ 0 ∷ 1 ∷ []) (1 ∷ 0 ∷ []) ⇒ judged (refuses 21 1)
    ∷ prefix (two (double 2147483648) (sets 0 7 ∷ [])) (1 ∷ 0 ∷ []) (0 ∷ 0 ∷ 1 ∷ []) ⇒ judged (refuses 22 1)
    -- nothing to hold against nothing: the same; but the table is read
    ∷ prefix table_a [] [] ⇒ judged (gives same)
    ∷ prefix table_a [] (2 ∷ []) ⇒ judged (gives same)
    ∷ prefix table_a (replicate 256 2) [] ⇒ judged (gives same)
    ∷ prefix (take 43 table_a) (2 ∷ []) [] ⇒ judged (refuses 5 0)
    -- remainders by lengths alone
    ∷ remains 4 3 ⇒ part (of_first 3 1)
    ∷ remains 3 4 ⇒ part (of_second 3 1)
    ∷ remains 4 4 ⇒ part (of_first 4 0)
    ∷ remains 0 0 ⇒ part (of_first 0 0)
    ∷ remains 256 0 ⇒ part (of_first 0 256)
    ∷ remains 0 256 ⇒ part (of_second 0 256)
    -- and where the caller's bytes stand: of the first, of the second, the empty end of the first
    ∷ remainder (slice 1 40 (0 ∷ 0 ∷ 1 ∷ 7 ∷ [])) (slice 2 8 (1 ∷ 0 ∷ 0 ∷ [])) ⇒ handed (slice 1 43 (7 ∷ []))
    ∷ remainder (slice 1 40 (0 ∷ [])) (slice 2 8 (1 ∷ 8 ∷ 9 ∷ [])) ⇒ handed (slice 2 9 (8 ∷ 9 ∷ []))
    ∷ remainder (slice 1 40 (0 ∷ 1 ∷ [])) (slice 2 8 (1 ∷ 0 ∷ [])) ⇒ handed (slice 1 42 [])
    ∷ []
