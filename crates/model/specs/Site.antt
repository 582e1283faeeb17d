-- The state of a site: each actor's record, each communication, what is pending in each mailbox, each mutex's queue, and the journal.
-- Names have no bounds here: the state is a function of actors, step names, mailboxes and mutexes, and no step reaches past what the table names.
-- Assumes nothing: these are definitions.
use Rattle.std.specs.Prelude.{ℕ, Bool, true, false, ◌&&◌, cond, List, [], eqb, replicate}
use Rattle.trace.specs.Machine.{Name}

-- a function with one value changed
abbrev pub upd : {A B : Type 0} → (A → A → Bool) → (A → B) → A → B → A → B
upd eq f k v j = cond (eq j k) v (f j)

-- an actor's record: its position, which is the number of its next action, and its eight cells of 32 bits
pub record Actor : Type 0 where
  pub position : ℕ
  pub cells : List ℕ

-- the two sides of a mailbox
pub data Side : Type 0 where
  sends receives : Side

-- one side of one mailbox
pub record Port : Type 0 where
  pub mailbox : ℕ
  pub side : Side

abbrev pub other_side : Side → Side
other_side sends = receives
other_side receives = sends

-- the side of the same mailbox that a port's steps pair with
abbrev pub opposite : Port → Port
opposite p = record { mailbox = p.mailbox; side = other_side p.side }

abbrev pub eq_side : Side → Side → Bool
eq_side sends sends = true
eq_side sends receives = false
eq_side receives sends = false
eq_side receives receives = true

abbrev pub eq_port : Port → Port → Bool
eq_port p q = eqb p.mailbox q.mailbox && eq_side p.side q.side

-- the communication of an action, a Send or a Receive: unposted; pending, with the value that a Send keeps and 0 for a Receive; done, with its
-- partner's name and the value that both carry
pub data Comm : Type 0 where
  unposted : Comm
  pending : (value : ℕ) → Comm
  done : (partner : Name) (value : ℕ) → Comm

-- the communications by name, and the names pending at each port, oldest first. Of a mailbox's two ports one is always empty: the other is
-- document 01's queue of the mailbox
pub record Mail : Type 0 where
  pub comm : Name → Comm
  pub waiting : Port → List Name

-- an entry of the journal: the name of a Note that was run, and the value that its cell had then
pub record Entry : Type 0 where
  pub step : Name
  pub value : ℕ

-- an entry of a mutex's queue: an actor, and its depth, the number of its Locks that are not undone
pub record Queued : Type 0 where
  pub actor : ℕ
  pub depth : ℕ

pub record Site : Type 0 where
  pub actor : ℕ → Actor
  pub mail : Mail
  -- the actors queued at each mutex, each with its depth: the first owns it
  pub queue : ℕ → List Queued
  -- what the Notes have noted, the oldest first
  pub journal : List Entry

-- the name of action k of an actor
abbrev pub name : ℕ → ℕ → Name
name a k = record { actor = a; position = k }

-- "fresh site": positions and cells are 0, every action is unposted, every queue and the journal are empty
unfoldable pub initial : Site
initial =
    record {
      actor = λ a. record { position = 0; cells = replicate 8 0 };
      mail = record { comm = λ x. unposted; waiting = λ p. [] };
      queue = λ m. [];
      journal = [];
    }
