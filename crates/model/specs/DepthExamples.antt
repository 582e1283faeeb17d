-- Depths, entry by entry: a second Lock by the owner and by one that waits, Unlocks at depth 2 and at depth 1, the largest depth, a queue of eight;
-- what may trade places at depths above 1; and the report's length. `proofs/DepthExamples.antt` computes them.
-- Assumes nothing: these are definitions.
use Rattle.std.specs.Prelude.{ℕ, List, [], ◌∷◌, ◌++◌, replicate}
use Rattle.model.specs.Site.{Queued, name}
use Rattle.model.specs.Calls.{gives, refuses, independent, dependent}
use Rattle.model.specs.Claims.{Claim, ◌⇒◌, run_in, run, cell, queue, pair, ends, ran, holds, queued, paired, ended, alike, apart}
use Rattle.model.specs.Examples.{lock, unlock, mutex_test, mutex_wait, table_with, two, three}

-- an entry of a queue
infix 80 ◌at◌
abbrev pub ◌at◌ : (actor depth : ℕ) → Queued
actor at depth = record { actor = actor; depth = depth }

-- ---- the counting rule

-- one actor that locks twice, unlocks three times and locks again
abbrev pub alone : List ℕ
alone = table_with 0 1 ((lock ∷ lock ∷ unlock ∷ unlock ∷ unlock ∷ lock ∷ []) ∷ [])

-- two actors that lock twice, unlock twice and lock again
abbrev pub both : List ℕ
both =
    let steps : List (List ℕ) = lock ∷ lock ∷ unlock ∷ unlock ∷ lock ∷ [] in
    two steps steps

-- eight actors, of which actor i locks i + 1 times
abbrev pub eight : List ℕ
eight =
    table_with 0 1
    (replicate 1 lock ∷ replicate 2 lock ∷ replicate 3 lock ∷ replicate 4 lock ∷ replicate 5 lock ∷ replicate 6 lock ∷ replicate 7 lock ∷ replicate 8 lock ∷ [])

abbrev pub counting : List Claim
counting =
    queue alone (replicate 1 0) 0 ⇒ queued (0 at 1 ∷ [])
    ∷ queue alone (replicate 2 0) 0 ⇒ queued (0 at 2 ∷ [])
    ∷ queue alone (replicate 3 0) 0 ⇒ queued (0 at 1 ∷ [])
    ∷ queue alone (replicate 4 0) 0 ⇒ queued []
    -- an absent actor's Unlock changes nothing, and the next Lock begins at 1
    ∷ queue alone (replicate 5 0) 0 ⇒ queued []
    ∷ queue alone (replicate 6 0) 0 ⇒ queued (0 at 1 ∷ [])
    -- the owner locks again, then the one that waits: both keep their places
    ∷ queue both (0 ∷ 1 ∷ 0 ∷ []) 0 ⇒ queued (0 at 2 ∷ 1 at 1 ∷ [])
    ∷ queue both (0 ∷ 1 ∷ 0 ∷ 1 ∷ []) 0 ⇒ queued (0 at 2 ∷ 1 at 2 ∷ [])
    -- the one that waits unlocks twice: it keeps its place, then leaves
    ∷ queue both (0 ∷ 1 ∷ 0 ∷ 1 ∷ 1 ∷ []) 0 ⇒ queued (0 at 2 ∷ 1 at 1 ∷ [])
    ∷ queue both (0 ∷ 1 ∷ 0 ∷ 1 ∷ 1 ∷ 1 ∷ []) 0 ⇒ queued (0 at 2 ∷ [])
    -- the owner unlocks twice: it owns still, then the other does; its next Lock joins the end
    ∷ queue both (0 ∷ 1 ∷ 0 ∷ 1 ∷ 0 ∷ []) 0 ⇒ queued (0 at 1 ∷ 1 at 2 ∷ [])
    ∷ queue both (0 ∷ 1 ∷ 0 ∷ 1 ∷ 0 ∷ 0 ∷ []) 0 ⇒ queued (1 at 2 ∷ [])
    ∷ queue both (0 ∷ 1 ∷ 0 ∷ 1 ∷ 0 ∷ 0 ∷ 0 ∷ []) 0 ⇒ queued (1 at 2 ∷ 0 at 1 ∷ [])
    -- the largest depth; and eight actors, the last of which locks first
    ∷ queue (table_with 0 1 (replicate 32 lock ∷ [])) (replicate 32 0) 0 ⇒ queued (0 at 32 ∷ [])
    ∷ queue eight (7 ∷ 0 ∷ 1 ∷ 2 ∷ 3 ∷ 4 ∷ 5 ∷ 6 ∷ 7 ∷ 6 ∷ 6 ∷ 3 ∷ 1 ∷ []) 0
    ⇒ queued (7 at 2 ∷ 0 at 1 ∷ 1 at 2 ∷ 2 at 1 ∷ 3 at 2 ∷ 4 at 1 ∷ 5 at 1 ∷ 6 at 3 ∷ [])
    ∷ []

-- ---- what may trade places at depths above 1

-- the owner locks twice and unlocks twice; the other locks, and then tests, waits, or locks and unlocks
abbrev pub against : (other : List (List ℕ)) → List ℕ
against other = two (lock ∷ lock ∷ unlock ∷ unlock ∷ []) (lock ∷ other)

-- each case of the pair verdict that names a mutex, and what it leaves independent
abbrev pub exchanges : List Claim
exchanges =
    -- Lock and Unlock of different actors: at the owner's depth 2 and at its depth 1, and of the one that waits against the owner's Lock
    pair (against (lock ∷ unlock ∷ [])) (name 0 2) (name 1 1) ⇒ paired (gives independent)
    ∷ ends (against (lock ∷ unlock ∷ [])) (0 ∷ 1 ∷ 0 ∷ 0 ∷ 1 ∷ []) (0 ∷ 1 ∷ 0 ∷ 1 ∷ 0 ∷ []) ⇒ ended alike
    ∷ ends (against (lock ∷ unlock ∷ [])) (0 ∷ 1 ∷ 0 ∷ 0 ∷ 0 ∷ 1 ∷ []) (0 ∷ 1 ∷ 0 ∷ 0 ∷ 1 ∷ 0 ∷ []) ⇒ ended alike
    ∷ pair (against (lock ∷ unlock ∷ [])) (name 0 1) (name 1 2) ⇒ paired (gives independent)
    ∷ ends (against (lock ∷ unlock ∷ [])) (0 ∷ 1 ∷ 1 ∷ 1 ∷ 0 ∷ []) (0 ∷ 1 ∷ 1 ∷ 0 ∷ 1 ∷ []) ⇒ ended alike
    -- Unlock and Unlock, both at depth 2
    ∷ pair both (name 0 2) (name 1 2) ⇒ paired (gives independent)
    ∷ ends both (0 ∷ 1 ∷ 0 ∷ 1 ∷ 0 ∷ 1 ∷ []) (0 ∷ 1 ∷ 0 ∷ 1 ∷ 1 ∷ 0 ∷ []) ⇒ ended alike
    -- Lock and Lock: behind an owner of depth 2 the order changes; where both are queued nothing does, and the verdict, which goes by the table
    -- alone, is the same
    ∷ pair (three (lock ∷ []) (lock ∷ []) (lock ∷ lock ∷ [])) (name 0 0) (name 1 0) ⇒ paired (gives dependent)
    ∷ ends (three (lock ∷ []) (lock ∷ []) (lock ∷ lock ∷ [])) (2 ∷ 2 ∷ 0 ∷ 1 ∷ []) (2 ∷ 2 ∷ 1 ∷ 0 ∷ []) ⇒ ended apart
    ∷ pair both (name 0 1) (name 1 1) ⇒ paired (gives dependent)
    ∷ ends both (0 ∷ 1 ∷ 0 ∷ 1 ∷ []) (0 ∷ 1 ∷ 1 ∷ 0 ∷ []) ⇒ ended alike
    ∷ ends both (0 ∷ 1 ∷ 0 ∷ 1 ∷ []) (1 ∷ 0 ∷ 0 ∷ 1 ∷ []) ⇒ ended apart
    -- a test against the owner's Unlocks: at depth 2 it finds nothing in either order, at depth 1 the order decides
    ∷ pair (against (mutex_test ∷ [])) (name 0 2) (name 1 1) ⇒ paired (gives dependent)
    ∷ ends (against (mutex_test ∷ [])) (0 ∷ 0 ∷ 1 ∷ 0 ∷ 1 ∷ []) (0 ∷ 0 ∷ 1 ∷ 1 ∷ 0 ∷ []) ⇒ ended alike
    ∷ pair (against (mutex_test ∷ [])) (name 0 3) (name 1 1) ⇒ paired (gives dependent)
    ∷ ends (against (mutex_test ∷ [])) (0 ∷ 0 ∷ 1 ∷ 0 ∷ 0 ∷ 1 ∷ []) (0 ∷ 0 ∷ 1 ∷ 0 ∷ 1 ∷ 0 ∷ []) ⇒ ended apart
    ∷ cell (against (mutex_test ∷ [])) (0 ∷ 0 ∷ 1 ∷ 0 ∷ 1 ∷ []) 1 1 ⇒ holds 0
    ∷ cell (against (mutex_test ∷ [])) (0 ∷ 0 ∷ 1 ∷ 0 ∷ 0 ∷ 1 ∷ []) 1 1 ⇒ holds 1
    -- a wait is refused until the second Unlock
    ∷ pair (against (mutex_wait ∷ [])) (name 0 3) (name 1 1) ⇒ paired (gives dependent)
    ∷ run (against (mutex_wait ∷ [])) (0 ∷ 0 ∷ 1 ∷ 0 ∷ 1 ∷ []) ⇒ ran (refuses 13 4)
    ∷ run (against (mutex_wait ∷ [])) (0 ∷ 0 ∷ 1 ∷ 0 ∷ 0 ∷ 1 ∷ []) ⇒ ran (gives 121)
    ∷ []

-- ---- two bytes an entry

-- with nobody queued the report of `both` has 151 bytes: 66 for its actors, 80 for its actions, 2, 1 and 2 for a mailbox, a mutex and the journal
abbrev pub lengths : List Claim
lengths =
    run both [] ⇒ ran (gives 151)
    ∷ run both (0 ∷ []) ⇒ ran (gives 153)
    ∷ run both (0 ∷ 0 ∷ []) ⇒ ran (gives 153)
    ∷ run both (0 ∷ 0 ∷ 1 ∷ []) ⇒ ran (gives 155)
    ∷ run_in 4513 both [] ⇒ ran (refuses 10 0)
    ∷ run_in 4514 both [] ⇒ ran (gives 151)
    ∷ []

abbrev pub depths : List Claim
depths = counting ++ (exchanges ++ lengths)
