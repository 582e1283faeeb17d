-- An action decoded from its eight bytes, and the action that a step's name, actor and action, stands for.
-- Assumes nothing.
use Rattle.std.specs.Prelude.{ℕ, List, [], ◌∷◌, get_or}
use Rattle.table.specs.declared.Action.{Action}
use Rattle.table.specs.declared.Action.TheVariants.{Set, Add, Lesser, Send, Receive, TestAny, WaitAny, Lock, Unlock, MutexTest, MutexWait, Note}
use Rattle.table.specs.declared.Numbers.{Numbers}
use Rattle.table.specs.Format.{p_at, q_at, z_at, kind_at, listed_at, value_at, offset_of, place_of}

-- a list's z and its four bytes
abbrev pub numbers_at : List ℕ → ℕ → Numbers
numbers_at b at =
    record { count = z_at b at; all = listed_at b at 0 ∷ listed_at b at 1 ∷ listed_at b at 2 ∷ listed_at b at 3 ∷ [] }

-- the action of a kind from the bytes at an offset. No accepted table has a kind above 11.
unfoldable pub decode_as : ℕ → List ℕ → ℕ → Action
decode_as kind b at =
    get_or
    (Set (p_at b at) (value_at b at)
    ∷ Add (p_at b at) (q_at b at)
    ∷ Lesser (p_at b at) (q_at b at)
    ∷ Send (p_at b at) (q_at b at)
    ∷ Receive (p_at b at) (q_at b at)
    ∷ TestAny (p_at b at) (numbers_at b at)
    ∷ WaitAny (p_at b at) (numbers_at b at)
    ∷ Lock (p_at b at)
    ∷ Unlock (p_at b at)
    ∷ MutexTest (p_at b at) (numbers_at b at)
    ∷ MutexWait (p_at b at) (numbers_at b at)
    ∷ [])
    kind
    (Note (p_at b at))

abbrev pub decode : List ℕ → ℕ → Action
decode b at = decode_as (kind_at b at) b at

abbrev pub action_of : List ℕ → ℕ → ℕ → Action
action_of b actor k = decode b (place_of (offset_of b actor) k)
