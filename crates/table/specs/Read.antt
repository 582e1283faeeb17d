-- `read_of`: the outcome of reading, for every list of bytes, with the refusals 1 to 9 in the order of "Where a refusal arises".
-- Assumes nothing.
use Rattle.std.specs.Prelude.{ℕ, ◌+◌, ◌*◌, ◌-◌, Bool, true, ◌&&◌, ◌||◌, List, length, ltb, leb, eqb}
use Rattle.table.specs.Outcome.{Outcome, accepted, demand, ◌⨾◌, each}
use Rattle.table.specs.Format.{edition_of, actors_of, mailboxes_of, mutexes_of, offset_of, count_of, due_of, place_of, kind_at, p_at, q_at, z_at, listed_at}
use Rattle.table.specs.Kinds.{Field, unused, cell, mailbox, mutex, Rest, nothing, value, actions, mutexes, Form, form_of, last_kind}

-- header: 1 under four bytes, 2 the edition, 3 a count out of its range
abbrev pub header_of : List ℕ → Outcome
header_of b =
    demand (leb 4 (length b)) 1 0
    ⨾ demand (eqb (edition_of b) 1) 2 0
    ⨾ demand (leb 1 (actors_of b) && leb (actors_of b) 8) 3 0
    ⨾ demand (leb (mailboxes_of b) 8) 3 0
    ⨾ demand (leb (mutexes_of b) 8) 3 0

-- directory: 4 cut short, or, over the entries, a wrong offset or more than 32 actions
abbrev pub entry_of : List ℕ → ℕ → Outcome
entry_of b actor = demand (eqb (offset_of b actor) (due_of b actor)) 4 0 ⨾ demand (leb (count_of b actor) 32) 4 0

abbrev pub directory_of : List ℕ → Outcome
directory_of b = demand (leb (4 + 4 * actors_of b) (length b)) 4 0 ⨾ each (entry_of b) (actors_of b) 0

-- file end: 5 the length differs from where the last actor's last action ends
abbrev pub end_of : List ℕ → Outcome
end_of b = demand (eqb (length b) (due_of b (actors_of b))) 5 0

-- 7: a cell, mailbox or mutex out of range
abbrev pub fits : List ℕ → Field → ℕ → Bool
fits b unused x = true
fits b cell x = ltb x 8
fits b mailbox x = ltb x (mailboxes_of b)
fits b mutex x = ltb x (mutexes_of b)

-- 7: z not from 1 to 4, or a listed mutex out of range
abbrev pub list_fits : List ℕ → ℕ → Rest → Outcome
list_fits b at nothing = accepted
list_fits b at value = accepted
list_fits b at actions = demand (leb 1 (z_at b at) && leb (z_at b at) 4) 7 at
list_fits b at mutexes =
    demand (leb 1 (z_at b at) && leb (z_at b at) 4) 7 at
    ⨾ each (λ i. demand (fits b mutex (listed_at b at i)) 7 at) (z_at b at) 0

-- 8: a listed action has to be lower and of kind Send or Receive; `first` is where the actor's actions begin, `k` the action's number
abbrev pub communication_kind : ℕ → Bool
communication_kind kind = eqb kind 3 || eqb kind 4

abbrev pub allowed : List ℕ → ℕ → ℕ → ℕ → Bool
allowed b first k x = ltb x k && communication_kind (kind_at b (place_of first x))

abbrev pub list_allowed : List ℕ → ℕ → ℕ → Rest → Outcome
list_allowed b first k nothing = accepted
list_allowed b first k value = accepted
list_allowed b first k actions =
    let at = place_of first k in each (λ i. demand (allowed b first k (listed_at b at i)) 8 at) (z_at b at) 0
list_allowed b first k mutexes = accepted

-- 9: a byte without a use is not 0: q, then z, then those of b4 to b7
abbrev pub clear : Field → ℕ → Bool
clear unused x = eqb x 0
clear cell x = true
clear mailbox x = true
clear mutex x = true

abbrev pub blanks : List ℕ → ℕ → ℕ → Outcome
blanks b at from = each (λ i. demand (eqb (listed_at b at i) 0) 9 at) (4 - from) from

abbrev pub rest_clear : List ℕ → ℕ → Rest → Outcome
rest_clear b at nothing = demand (eqb (z_at b at) 0) 9 at ⨾ blanks b at 0
rest_clear b at value = demand (eqb (z_at b at) 0) 9 at
rest_clear b at actions = blanks b at (z_at b at)
rest_clear b at mutexes = blanks b at (z_at b at)

-- all of 7, then all of 8, then all of 9, for an action of the form `f`
abbrev pub fields_of : List ℕ → ℕ → ℕ → Form → Outcome
fields_of b first k f =
    let at = place_of first k in
    demand (fits b f.p (p_at b at)) 7 at
    ⨾ demand (fits b f.q (q_at b at)) 7 at
    ⨾ list_fits b at f.rest
    ⨾ list_allowed b first k f.rest
    ⨾ demand (clear f.p (p_at b at)) 9 at
    ⨾ demand (clear f.q (q_at b at)) 9 at
    ⨾ rest_clear b at f.rest

-- one action: 6 its kind, then its fields
abbrev pub check_of : List ℕ → ℕ → ℕ → Outcome
check_of b first k =
    let at = place_of first k in demand (leb (kind_at b at) last_kind) 6 at ⨾ fields_of b first k (form_of (kind_at b at))

-- each action in file order
abbrev pub actor_of : List ℕ → ℕ → Outcome
actor_of b actor = each (check_of b (offset_of b actor)) (count_of b actor) 0

abbrev pub actions_of : List ℕ → Outcome
actions_of b = each (actor_of b) (actors_of b) 0

unfoldable pub read_of : List ℕ → Outcome
read_of b = header_of b ⨾ directory_of b ⨾ end_of b ⨾ actions_of b
