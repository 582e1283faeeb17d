-- How long a report can be, by the table's own counts: 33 bytes per actor, 8 per action, 2 per mailbox, 2 per Send or Receive, 1 per mutex and
-- 2 for each actor with a Lock of it, 2 for the journal and 6 per Note.
-- Assumes nothing: these are definitions.
use Rattle.std.specs.Prelude.{ℕ, zero, suc, ◌+◌, ◌*◌, ◌≤◌, ◌≡◌, Bool, true, false, ◌||◌, List, length}
use Rattle.table.specs.Format.{actors_of, mailboxes_of, mutexes_of, count_of}
use Rattle.table.specs.Decode.{action_of}
use Rattle.table.specs.Promise.{is_communication}
use Rattle.trace.specs.Schedule.{accepted}
use Rattle.model.specs.Site.{initial}
use Rattle.model.specs.Views.{posts}
use Rattle.model.specs.Ready.{how_many}
use Rattle.model.specs.Pair.{is_join, is_note}
use Rattle.model.specs.Report.{report}
use Rattle.model.specs.Schedule.{machine, end_state}
use Rattle.model.specs.Calls.{report_room}

-- of the numbers `f k`, `f (k + 1)`, .., `n` of them: the sum; and of so many tests, whether some holds
abbrev pub sum_of : (ℕ → ℕ) → ℕ → ℕ → ℕ
sum_of f zero k = 0
sum_of f (suc n) k = f k + sum_of f n (suc k)

abbrev pub some : (ℕ → Bool) → ℕ → ℕ → Bool
some f zero k = false
some f (suc n) k = f k || some f n (suc k)

module _ (table : List ℕ) where
  -- the number of actions of all actors
  abbrev pub action_count : ℕ
  action_count = sum_of (count_of table) (actors_of table) 0

  -- the number of Sends and Receives: of an actor, and of all
  abbrev pub communications_of : ℕ → ℕ
  communications_of a = how_many (λ k. is_communication (action_of table a k)) (count_of table a) 0

  abbrev pub communication_count : ℕ
  communication_count = sum_of communications_of (actors_of table) 0

  -- an actor has a Lock of a mutex, Lock being the action that joins one; and the number of actors that have
  abbrev pub has_lock : ℕ → ℕ → Bool
  has_lock m a = some (λ k. is_join (posts (action_of table a k)) m) (count_of table a) 0

  abbrev pub lockers_of : ℕ → ℕ
  lockers_of m = how_many (has_lock m) (actors_of table) 0

  abbrev pub locker_count : ℕ
  locker_count = sum_of lockers_of (mutexes_of table) 0

  -- the number of Notes, a Note being the action that adds to the journal: of an actor, and of all
  abbrev pub notes_of : ℕ → ℕ
  notes_of a = how_many (λ k. is_note (posts (action_of table a k))) (count_of table a) 0

  abbrev pub note_count : ℕ
  note_count = sum_of notes_of (actors_of table) 0

  unfoldable pub report_bound : ℕ
  report_bound =
      33 * actors_of table + 8 * action_count + 2 * mailboxes_of table + 2 * communication_count + mutexes_of table + 2 * locker_count + 2 + 6 * note_count

-- no report passes the table's bound, and the bound of an accepted table does not pass 4,514
pub record ReportsFit (table : List ℕ) : Type 0 where
  pub fits : (schedule : List ℕ) → accepted (machine table) initial schedule ≡ true
      → length (report table (end_state table schedule)) ≤ report_bound table
  pub room : report_bound table ≤ report_room
