-- The bytes of a task table: header, directory, and where each action stands. A byte past the end counts as 0.
-- Assumes nothing.
use Rattle.std.specs.Prelude.{ℕ, zero, suc, ◌+◌, ◌*◌, List, get_or}

abbrev pub byte_at : List ℕ → ℕ → ℕ
byte_at b i = get_or b i 0

-- 16 bits, the lowest byte first
abbrev pub word_at : List ℕ → ℕ → ℕ
word_at b i = byte_at b i + 256 * byte_at b (i + 1)

-- 32 bits, the lowest byte first
abbrev pub long_at : List ℕ → ℕ → ℕ
long_at b i = word_at b i + 65536 * word_at b (i + 2)

-- the header: edition, numbers of actors, mailboxes and mutexes
abbrev pub edition_of : List ℕ → ℕ
edition_of b = byte_at b 0

abbrev pub actors_of : List ℕ → ℕ
actors_of b = byte_at b 1

abbrev pub mailboxes_of : List ℕ → ℕ
mailboxes_of b = byte_at b 2

abbrev pub mutexes_of : List ℕ → ℕ
mutexes_of b = byte_at b 3

-- the directory: each actor's entry has the offset of its actions and their number
abbrev pub offset_of : List ℕ → ℕ → ℕ
offset_of b actor = word_at b (4 + 4 * actor)

abbrev pub count_of : List ℕ → ℕ → ℕ
count_of b actor = word_at b (6 + 4 * actor)

-- where an actor's actions have to begin: actor 0's after the directory, each next one's where the one before ended; for the number of
-- actors itself, where the file has to end
abbrev pub due_of : List ℕ → ℕ → ℕ
due_of b zero = 4 + 4 * actors_of b
due_of b (suc actor) = offset_of b actor + 8 * count_of b actor

-- action `k` of the actor whose actions begin at `first`: eight bytes each
abbrev pub place_of : ℕ → ℕ → ℕ
place_of first k = first + 8 * k

-- the eight bytes of the action at an offset: kind, p, q, z, then b4 to b7
abbrev pub kind_at : List ℕ → ℕ → ℕ
kind_at b at = byte_at b at

abbrev pub p_at : List ℕ → ℕ → ℕ
p_at b at = byte_at b (at + 1)

abbrev pub q_at : List ℕ → ℕ → ℕ
q_at b at = byte_at b (at + 2)

abbrev pub z_at : List ℕ → ℕ → ℕ
z_at b at = byte_at b (at + 3)

-- the i-th number of a list, which begins at b4
abbrev pub listed_at : List ℕ → ℕ → ℕ → ℕ
listed_at b at i = byte_at b (at + 4 + i)

-- the value of a Set, b4 to b7
abbrev pub value_at : List ℕ → ℕ → ℕ
value_at b at = long_at b (at + 4)
