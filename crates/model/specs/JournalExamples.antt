-- The journal at given inputs (document 02, W5): the value is that of the moment, the order is that of the run; which tables with a Note are refused;
-- and how long a journal is in the report. `proofs/JournalExamples.antt` computes them.
-- Assumes nothing: these are definitions.
use Rattle.std.specs.Prelude.{ℕ, ◌+◌, List, [], ◌∷◌, ◌++◌, replicate, set}
use Rattle.table.specs.Outcome.{accepted, refused}
use Rattle.model.specs.Site.{Entry, name}
use Rattle.model.specs.Calls.{gives, refuses, same, different}
use Rattle.model.specs.Claims.{Claim, ◌⇒◌, read, run_in, run, bytes, journal, are_same, outcome, ran, written, entries, judged}
use Rattle.model.specs.Examples.{sets, lists, send, receive, wait_any, note, table_with, site, two}

abbrev pub entry : (actor action value : ℕ) → Entry
entry actor action value = record { step = name actor action; value = value }

-- ---- values and order

-- actor 0 notes 5, then its cell is set to 6 and noted again
abbrev pub note_twice : List (List ℕ)
note_twice = sets 0 5 ∷ note ∷ sets 0 6 ∷ note ∷ []

-- actor 0 receives into cell 0, notes it, waits for the value, and notes it again; actor 1 sends 4294967295
abbrev pub note_picked : List ℕ
note_picked = two (receive ∷ note ∷ wait_any ∷ note ∷ []) (sets 0 4294967295 ∷ send ∷ [])

abbrev pub kept : List Claim
kept =
    -- a fresh site's journal is empty; so it stays where no Note is run
    journal (site (note_twice ∷ [])) [] ⇒ entries []
    ∷ journal (site (note_twice ∷ [])) (0 ∷ []) ⇒ entries []
    -- the value at that moment: a later Set does not change it
    ∷ journal (site (note_twice ∷ [])) (0 ∷ 0 ∷ 0 ∷ []) ⇒ entries (entry 0 1 5 ∷ [])
    ∷ journal (site (note_twice ∷ [])) (0 ∷ 0 ∷ 0 ∷ 0 ∷ []) ⇒ entries (entry 0 1 5 ∷ entry 0 3 6 ∷ [])
    -- so to the byte: three actions, of which none is a communication, then one entry, 0·1 with 5
    ∷ bytes (table_with 0 0 ((sets 0 5 ∷ note ∷ sets 0 6 ∷ []) ∷ [])) (0 ∷ 0 ∷ 0 ∷ [])
    ⇒ written ((3 ∷ 6 ∷ replicate (31 + 24) 0) ++ (1 ∷ 0 ∷ 0 ∷ 1 ∷ 5 ∷ 0 ∷ 0 ∷ 0 ∷ []))
    -- a value is in the cell once it is picked up, not when it is paired
    ∷ journal note_picked (1 ∷ 1 ∷ 0 ∷ 0 ∷ 0 ∷ 0 ∷ []) ⇒ entries (entry 0 1 0 ∷ entry 0 3 4294967295 ∷ [])
    -- the order of the run, whichever actor it is
    ∷ journal (two note_twice (note ∷ [])) (0 ∷ 0 ∷ 1 ∷ 0 ∷ 0 ∷ []) ⇒ entries (entry 0 1 5 ∷ entry 1 0 0 ∷ entry 0 3 6 ∷ [])
    ∷ journal (two note_twice (note ∷ [])) (1 ∷ 0 ∷ 0 ∷ 0 ∷ 0 ∷ []) ⇒ entries (entry 1 0 0 ∷ entry 0 1 5 ∷ entry 0 3 6 ∷ [])
    -- so these two are different, and with a Set in the place of a Note they are the same
    ∷ are_same (two note_twice (note ∷ [])) (0 ∷ 0 ∷ 1 ∷ 0 ∷ 0 ∷ []) (1 ∷ 0 ∷ 0 ∷ 0 ∷ 0 ∷ []) ⇒ judged (gives different)
    ∷ are_same (two note_twice (note ∷ [])) (0 ∷ 0 ∷ 1 ∷ 0 ∷ 0 ∷ []) (0 ∷ 0 ∷ 0 ∷ 1 ∷ 0 ∷ []) ⇒ judged (gives same)
    ∷ []

-- ---- tables

-- one actor with a Note, of which a byte is changed: the Note stands at offset 8
abbrev pub note_with : (place byte : ℕ) → List ℕ
note_with place byte = set (table_with 0 0 ((note ∷ []) ∷ [])) place byte

abbrev pub readings : List Claim
readings =
    -- a cell from 0 to 7, all else 0; kind 12 is no kind
    read (note_with 9 7) ⇒ outcome accepted
    ∷ read (note_with 9 8) ⇒ outcome (refused 7 8)
    ∷ read (note_with 10 1) ⇒ outcome (refused 9 8)
    ∷ read (note_with 11 1) ⇒ outcome (refused 9 8)
    ∷ read (note_with 12 1) ⇒ outcome (refused 9 8)
    ∷ read (note_with 15 1) ⇒ outcome (refused 9 8)
    ∷ read (note_with 8 12) ⇒ outcome (refused 6 8)
    -- a Note is no communication, so no test may list it
    ∷ read (site ((note ∷ lists 5 1 (0 ∷ []) ∷ []) ∷ [])) ⇒ outcome (refused 8 16)
    ∷ []

-- ---- six bytes an entry, and two for their number

-- one actor with 32 Notes
abbrev pub all_notes : List ℕ
all_notes = table_with 0 0 (replicate 32 note ∷ [])

abbrev pub lengths : List Claim
lengths =
    run_in 4513 all_notes [] ⇒ ran (refuses 10 0)
    ∷ run all_notes [] ⇒ ran (gives 291)
    ∷ run all_notes (0 ∷ []) ⇒ ran (gives 297)
    ∷ run all_notes (replicate 32 0) ⇒ ran (gives 483)
    ∷ []

abbrev pub journals : List Claim
journals = kept ++ (readings ++ lengths)
