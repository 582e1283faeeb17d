-- The state in arrays, and the site of the model that the arrays hold.
-- Assumes nothing: these are definitions.
use Rattle.std.specs.Prelude.{◌≡◌, ℕ, ◌+◌, ◌-◌, ◌*◌, ◌/◌, ◌%◌, ◌<◌, cond, Result, Ok, Err, List, [], map, eqb, ltb, get_or, take, drop, replicate, refl}
use Rattle.table.specs.declared.Action.{Action}
use Rattle.table.specs.Decode.{action_of}
use Rattle.trace.specs.Machine.{Name}
use Rattle.model.specs.Site.{Actor as Record, Side, sends, receives, Port, Comm, unposted, pending, done, Mail, Entry, Queued, Site}
use Rattle.model.specs.Step as Step
use Rattle.names.specs.InByte.{name_of}
use Rattle.state.specs.Rooms.{head_in, tail_in, size_in}
use Rattle.state.specs.declared.arrays.Journal.{Journal}
use Rattle.state.specs.declared.arrays.Site.{Site as Arrays}
use Rattle.state.specs.declared.Actor.{Actor}
use Rattle.state.specs.declared.Hold.{Hold}
use Rattle.state.specs.declared.Hold.TheVariants.{Waits, Over}

-- a communication in one number: 0 unposted; 1 + 1024 · value pending; 2 + 4 · partner + 1024 · value done
abbrev pub comm_of : ℕ → Comm
comm_of c =
    cond (eqb (c % 4) 0) unposted (cond (eqb (c % 4) 1) (pending (c / 1024)) (done (name_of (c / 4 % 256)) (c / 1024)))

-- the communications, by step names
abbrev pub comms_of : List ℕ → Name → Comm
comms_of comms x = cond (ltb x.position 32) (comm_of (get_or comms (32 * x.actor + x.position) 0)) unposted

-- a port's number: 2 · mailbox for its Sends, and one more for its Receives
abbrev pub side_number : Side → ℕ
side_number sends = 0
side_number receives = 1

abbrev pub port_number : Port → ℕ
port_number p = 2 * p.mailbox + side_number p.side

-- those from a port's head to its tail are pending
abbrev pub pending_in : (log ends : List ℕ) → ℕ → List ℕ
pending_in log ends n = take (tail_in ends n - head_in ends n) (drop (256 * n + head_in ends n) log)

abbrev pub waiting_of : (log ends : List ℕ) → Port → List Name
waiting_of log ends p = map name_of (pending_in log ends (port_number p))

abbrev pub mail_of : (comms log ends : List ℕ) → Mail
mail_of comms log ends = record { comm = comms_of comms; waiting = waiting_of log ends }

-- an entry of a mutex's queue in one byte: its actor, and 8 for each Lock beyond the first
abbrev pub queued_of : ℕ → Queued
queued_of b = record { actor = b % 8; depth = b / 8 + 1 }

-- the entries of a mutex's queue
abbrev pub entries_in : (queues : List ℕ) → ℕ → List ℕ
entries_in queues m = take (size_in queues m) (drop (9 * m + 1) queues)

abbrev pub queues_of : (queues : List ℕ) → ℕ → List Queued
queues_of queues m = map queued_of (entries_in queues m)

-- an entry of the journal in one number: its step's name, and 256 · value
abbrev pub entry_of : ℕ → Entry
entry_of e = record { step = name_of (e % 256); value = e / 256 }

-- the journal: as many of its array's entries as are counted
abbrev pub journal_of : Journal → List Entry
journal_of journal = map entry_of (take journal.count journal.entries)

-- the actors' records
abbrev pub fresh_actor : Actor
fresh_actor = record { position = 0; cells = replicate 8 0; eight = refl }

abbrev pub record_of : Actor → Record
record_of r = record { position = r.position; cells = r.cells }

abbrev pub records_of : List Actor → ℕ → Record
records_of actors a = record_of (get_or actors a fresh_actor)

abbrev pub held_mail : Arrays → Mail
held_mail s = mail_of s.mail.comms s.mail.log s.mail.ends

abbrev pub held_queues : Arrays → ℕ → List Queued
held_queues s = queues_of s.queues.bytes

abbrev pub site_of : List Actor → Arrays → Site
site_of actors s =
    record { actor = records_of actors; mail = held_mail s; queue = held_queues s; journal = journal_of s.journal }

-- the arrays of a fresh site: what the logs and the journal's entries hold plays no part
pub record Empty (s : Arrays) : Type 0 where
  pub comms-fresh : s.mail.comms ≡ replicate 256 0
  pub ends_fresh : s.mail.ends ≡ replicate 32 0
  pub queues-fresh : s.queues.bytes ≡ replicate 72 0
  pub journal-empty : s.journal.count ≡ 0

-- each actor's position fits a byte
abbrev pub Positions : List Actor → Type 0
Positions actors = (a : ℕ) → (records_of actors a).position < 256

-- ---- one actor's part

-- the site as a step of one actor sees it: the others' records and the journal play no part
abbrev pub seen_from : Actor → Arrays → Site
seen_from r s = record { actor = λ a. record_of r; mail = held_mail s; queue = held_queues s; journal = [] }

-- the actor's next action
abbrev pub next_of : List ℕ → ℕ → Actor → Action
next_of table a r = action_of table a r.position

-- what an actor's next step is, whatever is handed back where it is taken
abbrev pub step_as : {T : Type 0} → Result T Hold → Step.NextStep
step_as (Ok value) = Step.taken
step_as (Err Waits) = Step.waiting
step_as (Err Over) = Step.over
