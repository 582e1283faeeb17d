-- "Two states are equal when their reports are": the report of a state that an accepted schedule reaches says all of that state that the table
-- names (`ReportDetermines`), and what the table does not name is the same in every such state (`EqualStates`). Proved in `proofs/Determined.antt`.
-- Assumes nothing: these are definitions.
use Rattle.std.specs.Prelude.{ℕ, ◌<◌, ◌≡◌, ◌↔◌, List}
use Rattle.table.specs.Format.{byte_at, actors_of, mailboxes_of, mutexes_of, count_of}
use Rattle.table.specs.Outcome.{accepted}
use Rattle.table.specs.Read.{read_of}
use Rattle.model.specs.Site.{Side, Site, name}
use Rattle.model.specs.Report.{report}
use Rattle.model.specs.Schedule.{end_state}
use Rattle.model.specs.Demand3.{Accepted}

-- two sites agree in all that the table names: the records of its actors, the communications of its actions, both sides of its mailboxes, the
-- queues of its mutexes, and the journal
pub record SameSite (table : List ℕ) (s t : Site) : Type 0 where
  pub records : (a : ℕ) → a < actors_of table → s.actor a ≡ t.actor a
  pub communications : (a k : ℕ) → a < actors_of table → k < count_of table a → s.mail.comm (name a k) ≡ t.mail.comm (name a k)
  pub mailboxes : (m : ℕ) (d : Side) → m < mailboxes_of table
      → s.mail.waiting (record { mailbox = m; side = d }) ≡ t.mail.waiting (record { mailbox = m; side = d })
  pub mutexes : (m : ℕ) → m < mutexes_of table → s.queue m ≡ t.queue m
  pub journal : s.journal ≡ t.journal

-- the file's elements are bytes
abbrev pub Bytes : List ℕ → Type 0
Bytes table = (j : ℕ) → byte_at table j < 256

-- of a file of bytes that the reader accepts: the ends of two accepted schedules have equal reports exactly when they agree
abbrev pub ReportDetermines : Type 0
ReportDetermines = (table : List ℕ) → read_of table ≡ accepted → Bytes table → (p q : List ℕ) → Accepted table p → Accepted table q
    → (report table (end_state table p) ≡ report table (end_state table q)) ↔ SameSite table (end_state table p) (end_state table q)

-- and exactly when they are one state
abbrev pub EqualStates : Type 0
EqualStates = (table : List ℕ) → read_of table ≡ accepted → Bytes table → (p q : List ℕ) → Accepted table p → Accepted table q
    → (report table (end_state table p) ≡ report table (end_state table q)) ↔ (end_state table p ≡ end_state table q)
