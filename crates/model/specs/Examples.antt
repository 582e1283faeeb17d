-- Examples of the pair verdict: for each of the five dependence cases, tables in which trading places changes the end report or is
-- refused, so that the case is needed; and pairs that look risky and are independent, with both orders ending alike. `proofs/Examples.antt` computes
-- them.
-- Assumes nothing: these are definitions.
use Rattle.std.specs.Prelude.{ℕ, ◌+◌, ◌*◌, List, [], ◌∷◌, ◌++◌, length, replicate, take}
use Rattle.model.specs.Site.{name}
use Rattle.model.specs.Report.{word, long}
use Rattle.model.specs.Calls.{gives, refuses, independent, dependent}
use Rattle.model.specs.Claims.{Claim, ◌⇒◌, run, pair, ends, ran, paired, ended, alike, apart}

-- ---- small tables, written by their actions

-- an action of eight bytes: kind, p and q; a Set of a cell to a value; kind, result cell and the one to four numbers that it lists
abbrev pub plain : (kind p q : ℕ) → List ℕ
plain kind p q = kind ∷ p ∷ q ∷ 0 ∷ 0 ∷ 0 ∷ 0 ∷ 0 ∷ []

abbrev pub sets : (cell value : ℕ) → List ℕ
sets cell value = 0 ∷ cell ∷ 0 ∷ 0 ∷ long value

abbrev pub lists : (kind result : ℕ) (numbers : List ℕ) → List ℕ
lists kind result numbers = kind ∷ result ∷ 0 ∷ length numbers ∷ take 4 (numbers ++ replicate 4 0)

-- every communication here goes through mailbox 0 and cell 0, every lock is of mutex 0, every Note of cell 0, and every test and wait lists number 0 alone, with its
-- result in cell 1
abbrev pub send : List ℕ
send = plain 3 0 0

abbrev pub receive : List ℕ
receive = plain 4 0 0

abbrev pub test_any : List ℕ
test_any = lists 5 1 (0 ∷ [])

abbrev pub wait_any : List ℕ
wait_any = lists 6 1 (0 ∷ [])

abbrev pub lock : List ℕ
lock = plain 7 0 0

abbrev pub unlock : List ℕ
unlock = plain 8 0 0

abbrev pub mutex_test : List ℕ
mutex_test = lists 9 1 (0 ∷ [])

abbrev pub mutex_wait : List ℕ
mutex_wait = lists 10 1 (0 ∷ [])

abbrev pub note : List ℕ
note = plain 11 0 0

abbrev pub joined : List (List ℕ) → List ℕ
joined [] = []
joined (x ∷ l) = x ++ joined l

-- the directory's entries, the first actor's actions beginning at `offset`; and the actions of all actors
abbrev pub directory : ℕ → List (List (List ℕ)) → List ℕ
directory offset [] = []
directory offset (x ∷ l) = word offset ++ (word (length x) ++ directory (offset + 8 * length x) l)

abbrev pub bodies : List (List (List ℕ)) → List ℕ
bodies [] = []
bodies (x ∷ l) = joined x ++ bodies l

-- the table of these actors, with so many mailboxes and mutexes; and with one of each
abbrev pub table_with : (mailboxes mutexes : ℕ) → List (List (List ℕ)) → List ℕ
table_with mailboxes mutexes actors =
    (1 ∷ length actors ∷ mailboxes ∷ mutexes ∷ []) ++ (directory (4 + 4 * length actors) actors ++ bodies actors)

abbrev pub site : List (List (List ℕ)) → List ℕ
site actors = table_with 1 1 actors

-- two actors
abbrev pub two : (first second : List (List ℕ)) → List ℕ
two first second = site (first ∷ second ∷ [])

-- ---- the five cases are needed

abbrev pub needed : List Claim
needed =
    -- 1. both Send, and both Receive: the queue's order changes
    pair (two (send ∷ []) (send ∷ [])) (name 0 0) (name 1 0) ⇒ paired (gives dependent)
    ∷ ends (two (send ∷ []) (send ∷ [])) (0 ∷ 1 ∷ []) (1 ∷ 0 ∷ []) ⇒ ended apart
    ∷ pair (two (receive ∷ []) (receive ∷ [])) (name 0 0) (name 1 0) ⇒ paired (gives dependent)
    ∷ ends (two (receive ∷ []) (receive ∷ [])) (0 ∷ 1 ∷ []) (1 ∷ 0 ∷ []) ⇒ ended apart
    -- 2. a test of a Receive against a Send, and of a Send against a Receive: the result changes; a wait is refused before its partner
    ∷ pair (two (receive ∷ test_any ∷ []) (send ∷ [])) (name 0 1) (name 1 0) ⇒ paired (gives dependent)
    ∷ ends (two (receive ∷ test_any ∷ []) (send ∷ [])) (0 ∷ 1 ∷ 0 ∷ []) (0 ∷ 0 ∷ 1 ∷ []) ⇒ ended apart
    ∷ pair (two (send ∷ test_any ∷ []) (receive ∷ [])) (name 0 1) (name 1 0) ⇒ paired (gives dependent)
    ∷ ends (two (send ∷ test_any ∷ []) (receive ∷ [])) (0 ∷ 1 ∷ 0 ∷ []) (0 ∷ 0 ∷ 1 ∷ []) ⇒ ended apart
    ∷ pair (two (receive ∷ wait_any ∷ []) (send ∷ [])) (name 0 1) (name 1 0) ⇒ paired (gives dependent)
    ∷ run (two (receive ∷ wait_any ∷ []) (send ∷ [])) (0 ∷ 1 ∷ 0 ∷ []) ⇒ ran (gives 95)
    ∷ run (two (receive ∷ wait_any ∷ []) (send ∷ [])) (0 ∷ 0 ∷ 1 ∷ []) ⇒ ran (refuses 13 1)
    -- 3. both Lock: the owner changes
    ∷ pair (two (lock ∷ []) (lock ∷ [])) (name 0 0) (name 1 0) ⇒ paired (gives dependent)
    ∷ ends (two (lock ∷ []) (lock ∷ [])) (0 ∷ 1 ∷ []) (1 ∷ 0 ∷ []) ⇒ ended apart
    -- 4. a test of a mutex against an Unlock of it: the result changes; a wait is refused before the owner has left
    ∷ pair (two (lock ∷ unlock ∷ []) (lock ∷ mutex_test ∷ [])) (name 0 1) (name 1 1) ⇒ paired (gives dependent)
    ∷ ends (two (lock ∷ unlock ∷ []) (lock ∷ mutex_test ∷ [])) (0 ∷ 1 ∷ 0 ∷ 1 ∷ []) (0 ∷ 1 ∷ 1 ∷ 0 ∷ []) ⇒ ended apart
    ∷ pair (two (lock ∷ unlock ∷ []) (lock ∷ mutex_wait ∷ [])) (name 0 1) (name 1 1) ⇒ paired (gives dependent)
    ∷ run (two (lock ∷ unlock ∷ []) (lock ∷ mutex_wait ∷ [])) (0 ∷ 1 ∷ 0 ∷ 1 ∷ []) ⇒ ran (gives 105)
    ∷ run (two (lock ∷ unlock ∷ []) (lock ∷ mutex_wait ∷ [])) (0 ∷ 1 ∷ 1 ∷ 0 ∷ []) ⇒ ran (refuses 13 2)
    -- 5. both Note: the journal's order changes
    ∷ pair (two (note ∷ []) (note ∷ [])) (name 0 0) (name 1 0) ⇒ paired (gives dependent)
    ∷ ends (two (note ∷ []) (note ∷ [])) (0 ∷ 1 ∷ []) (1 ∷ 0 ∷ []) ⇒ ended apart
    ∷ []

-- ---- independent, though they look risky

-- three actors, of which the third may have posted before the two steps trade places
abbrev pub three : (first second third : List (List ℕ)) → List ℕ
three first second third = site (first ∷ second ∷ third ∷ [])

abbrev pub harmless : List Claim
harmless =
    -- Send and Receive on one mailbox, with nothing pending, with a Send pending, and with a Receive pending
    pair (two (send ∷ []) (receive ∷ [])) (name 0 0) (name 1 0) ⇒ paired (gives independent)
    ∷ ends (two (send ∷ []) (receive ∷ [])) (0 ∷ 1 ∷ []) (1 ∷ 0 ∷ []) ⇒ ended alike
    ∷ ends (three (send ∷ []) (receive ∷ []) (send ∷ [])) (2 ∷ 0 ∷ 1 ∷ []) (2 ∷ 1 ∷ 0 ∷ []) ⇒ ended alike
    ∷ ends (three (send ∷ []) (receive ∷ []) (receive ∷ [])) (2 ∷ 0 ∷ 1 ∷ []) (2 ∷ 1 ∷ 0 ∷ []) ⇒ ended alike
    -- Lock and Unlock of one mutex by different actors
    ∷ pair (two (lock ∷ unlock ∷ []) (lock ∷ [])) (name 0 1) (name 1 0) ⇒ paired (gives independent)
    ∷ ends (two (lock ∷ unlock ∷ []) (lock ∷ [])) (0 ∷ 0 ∷ 1 ∷ []) (0 ∷ 1 ∷ 0 ∷ []) ⇒ ended alike
    -- a test of a Receive against another actor's Receive, with the Receive done and with it pending
    ∷ pair (three (receive ∷ test_any ∷ []) (receive ∷ []) (send ∷ [])) (name 0 1) (name 1 0) ⇒ paired (gives independent)
    ∷ ends (three (receive ∷ test_any ∷ []) (receive ∷ []) (send ∷ [])) (0 ∷ 2 ∷ 0 ∷ 1 ∷ []) (0 ∷ 2 ∷ 1 ∷ 0 ∷ []) ⇒ ended alike
    ∷ ends (three (receive ∷ test_any ∷ []) (receive ∷ []) (send ∷ [])) (0 ∷ 0 ∷ 1 ∷ 2 ∷ []) (0 ∷ 1 ∷ 0 ∷ 2 ∷ []) ⇒ ended alike
    -- a test of a mutex against another actor's Lock of it
    ∷ pair (two (lock ∷ mutex_test ∷ []) (lock ∷ [])) (name 0 1) (name 1 0) ⇒ paired (gives independent)
    ∷ ends (two (lock ∷ mutex_test ∷ []) (lock ∷ [])) (0 ∷ 0 ∷ 1 ∷ []) (0 ∷ 1 ∷ 0 ∷ []) ⇒ ended alike
    ∷ []

-- a Note of actor 0, its action 1, after these actions of each actor, against the last of actor 1: independent, and both orders end alike
abbrev pub note_against : (before : List (List ℕ)) (other : List ℕ) → List Claim
note_against before other =
    let table : List ℕ = two (send ∷ note ∷ []) (before ++ (other ∷ [])) in
    let started : List ℕ = replicate (length before) 1 ++ (0 ∷ []) in
    pair table (name 0 1) (name 1 (length before)) ⇒ paired (gives independent)
    ∷ ends table (started ++ (0 ∷ 1 ∷ [])) (started ++ (1 ∷ 0 ∷ [])) ⇒ ended alike
    ∷ []

-- every kind but a Note itself
abbrev pub beside_notes : List Claim
beside_notes =
    note_against [] (sets 0 7)
    ++ (note_against [] (plain 1 0 1)
    ++ (note_against [] (plain 2 0 1)
    ++ (note_against [] send
    ++ (note_against [] receive
    ++ (note_against (receive ∷ []) test_any
    ++ (note_against (receive ∷ []) wait_any
    ++ (note_against [] lock
    ++ (note_against (lock ∷ []) unlock
    ++ (note_against (lock ∷ []) mutex_test
    ++ note_against (lock ∷ []) mutex_wait)))))))))

abbrev pub examples : List Claim
examples = needed ++ (harmless ++ beside_notes)
