-- What the layer above may rely on of an accepted table, and nothing else: every count, offset and number in an action is in range.
-- Assumes nothing.
use Rattle.std.specs.Prelude.{ℕ, ◌+◌, ◌*◌, ◌<◌, ◌≤◌, ◌≡◌, Bool, true, false, List, length, get_or}
use Rattle.table.specs.declared.Action.{Action}
use Rattle.table.specs.declared.Action.TheVariants.{Set, Add, Lesser, Send, Receive, TestAny, WaitAny, Lock, Unlock, MutexTest, MutexWait, Note}
use Rattle.table.specs.declared.Numbers.{Numbers}
use Rattle.table.specs.Format.{actors_of, mailboxes_of, mutexes_of, offset_of, count_of}
use Rattle.table.specs.Decode.{action_of}

-- the i-th number of a list
abbrev pub number : Numbers → ℕ → ℕ
number l i = get_or l.all i 0

-- a list has one to four numbers, each of which is right
pub record Listing (Right : ℕ → Type 0) (l : Numbers) : Type 0 where
  pub least : 1 ≤ l.count
  pub most : l.count ≤ 4
  pub right : (i : ℕ) → i < l.count → Right (number l i)

-- Send or Receive
abbrev pub is_communication : Action → Bool
is_communication (Set cell value) = false
is_communication (Add cell other) = false
is_communication (Lesser cell other) = false
is_communication (Send mailbox cell) = true
is_communication (Receive mailbox cell) = true
is_communication (TestAny result list) = false
is_communication (WaitAny result list) = false
is_communication (Lock mutex) = false
is_communication (Unlock mutex) = false
is_communication (MutexTest result list) = false
is_communication (MutexWait result list) = false
is_communication (Note cell) = false

-- x is a lower Send or Receive of the same actor
abbrev pub LowerCommunication : List ℕ → ℕ → ℕ → ℕ → Type 0
LowerCommunication b actor k x = (x < k) × (is_communication (action_of b actor x) ≡ true)

-- action k of an actor names only what the table has
abbrev pub InRange : List ℕ → ℕ → ℕ → Action → Type 0
InRange b actor k (Set cell value) = cell < 8
InRange b actor k (Add cell other) = (cell < 8) × (other < 8)
InRange b actor k (Lesser cell other) = (cell < 8) × (other < 8)
InRange b actor k (Send mailbox cell) = (mailbox < mailboxes_of b) × (cell < 8)
InRange b actor k (Receive mailbox cell) = (mailbox < mailboxes_of b) × (cell < 8)
InRange b actor k (TestAny result list) = (result < 8) × Listing (LowerCommunication b actor k) list
InRange b actor k (WaitAny result list) = (result < 8) × Listing (LowerCommunication b actor k) list
InRange b actor k (Lock mutex) = mutex < mutexes_of b
InRange b actor k (Unlock mutex) = mutex < mutexes_of b
InRange b actor k (MutexTest result list) = (result < 8) × Listing (λ m. m < mutexes_of b) list
InRange b actor k (MutexWait result list) = (result < 8) × Listing (λ m. m < mutexes_of b) list
InRange b actor k (Note cell) = cell < 8

pub record WellFormed (b : List ℕ) : Type 0 where
  pub actors-least : 1 ≤ actors_of b
  pub actors-most : actors_of b ≤ 8
  pub mailboxes-most : mailboxes_of b ≤ 8
  pub mutexes-most : mutexes_of b ≤ 8
  pub actions-most : (actor : ℕ) → actor < actors_of b → count_of b actor ≤ 32
  pub directory : 4 + 4 * actors_of b ≤ length b
  pub inside : (actor : ℕ) → actor < actors_of b → offset_of b actor + 8 * count_of b actor ≤ length b
  pub in-range : (actor k : ℕ) → actor < actors_of b → k < count_of b actor → InRange b actor k (action_of b actor k)
