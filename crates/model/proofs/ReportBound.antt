-- No report passes the bound of its table, section by section; and the bound of an accepted table does not pass 4,514.
-- Assumes nothing.
use Prim.Native.Nat.{ℕ, ◌+◌, ◌*◌, ◌≤◌}
use native.Mathlib.Omega.{arith}
use mathlib.Core.Path.{◌≡◌, refl}
use mathlib.Core.Bool.{true}
use mathlib.Core.List.{List, [], ◌∷◌, ◌++◌}
use lib.ListN.{length, length-append}
use Rattle.table.specs.Format.{actors_of, mailboxes_of, mutexes_of, count_of}
use Rattle.table.specs.Promise.{WellFormed, is_communication}
use Rattle.table.specs.Decode.{decode_as, action_of}
use Rattle.trace.specs.Machine.{Name}
use Rattle.trace.specs.Schedule.{accepted}
use Rattle.model.specs.Site.{Actor, Port, Comm, unposted, pending, done, Entry, Queued, Site, name, initial}
use Rattle.model.specs.Views.{posts}
use Rattle.model.specs.Pair.{is_note}
use Rattle.model.specs.Report.{actor_bytes, comm_bytes, name_bytes, box_bytes, queued_bytes, mutex_bytes, parts, box_queue, actors_part, actions_part, boxes_part, mutexes_part, entry_bytes, journal_bytes, report}
use Rattle.model.specs.Bound.{action_count, communications_of, communication_count, has_lock, lockers_of, locker_count, notes_of, note_count, report_bound, ReportsFit}
use Rattle.model.specs.Schedule.{machine}
use Rattle.model.specs.Reached.{Reached}
use Rattle.model.specs.Cases.{table_a}
use Rattle.model.proofs.ReportBoundCounts.{sum-le, sum-most, sum-add, sum-times, length-parts, how_many-most}
use Rattle.model.proofs.Reached.{reached-end}
use Rattle.model.proofs.ReportBoundLengths.{boxes-length, box-most, port-most, queue-length, journal-length}
use Rattle.model.proofs.ReportBoundSteps.{entries-most}

-- ---- the parts of a section

pub actor-length : (r : Actor) → length (actor_bytes r) ≡ 33
actor-length r = refl

pub comm-length : (c : Comm) → length (comm_bytes c) ≡ 8
comm-length unposted = refl
comm-length (pending value) = refl
comm-length (done partner value) = refl

names-length : (l : List Name) → length (name_bytes l) ≡ 2 * length l
names-length [] = refl
names-length (x ∷ l) = omega (arith, names-length l)

pub box-bytes : (l : List Name) → length (box_bytes l) ≡ 2 + 2 * length l
box-bytes l = omega (arith, names-length l)

queued-length : (l : List Queued) → length (queued_bytes l) ≡ 2 * length l
queued-length [] = refl
queued-length (x ∷ l) = omega (arith, queued-length l)

pub mutex-bytes : (l : List Queued) → length (mutex_bytes l) ≡ 1 + 2 * length l
mutex-bytes l = omega (arith, queued-length l)

entries-length : (l : List Entry) → length (entry_bytes l) ≡ 6 * length l
entries-length [] = refl
entries-length (x ∷ l) = omega (arith, entries-length l)

pub journal-bytes : (l : List Entry) → length (journal_bytes l) ≡ 2 + 6 * length l
journal-bytes l = omega (arith, entries-length l)

-- ---- the sections

module _ (table : List ℕ) (s : Site) where
  actors-length : length (actors_part table s) ≤ 33 * actors_of table
  actors-length =
      omega (
        arith,
        length-parts (λ a. actor_bytes (s.actor a)) (actors_of table) 0,
        sum-most (λ a. length (actor_bytes (s.actor a))) 33 (actors_of table) 0 (λ a l h. omega (arith, actor-length (s.actor a))),
      )

  -- the actions of one actor
  own-length : (a : ℕ) → length (parts (λ k. comm_bytes (s.mail.comm (name a k))) (count_of table a) 0) ≤ 8 * count_of table a
  own-length a =
      omega (
        arith,
        length-parts (λ k. comm_bytes (s.mail.comm (name a k))) (count_of table a) 0,
        sum-most (λ k. length (comm_bytes (s.mail.comm (name a k)))) 8 (count_of table a) 0
            (λ k l h. omega (arith, comm-length (s.mail.comm (name a k)))),
      )

  actions-length : length (actions_part table s) ≤ 8 * action_count table
  actions-length =
      omega (
        arith,
        length-parts (λ a. parts (λ k. comm_bytes (s.mail.comm (name a k))) (count_of table a) 0) (actors_of table) 0,
        sum-le (λ a. length (parts (λ k. comm_bytes (s.mail.comm (name a k))) (count_of table a) 0)) (λ a. 8 * count_of table a) (actors_of table) 0
            (λ a l h. own-length a),
        sum-times 8 (count_of table) (actors_of table) 0,
      )

  module _ (r : Reached table s) where
    boxes-section : length (boxes_part table s) ≤ 2 * mailboxes_of table + 2 * communication_count table
    boxes-section =
        omega (
          arith,
          length-parts (λ m. box_bytes (box_queue table s m)) (mailboxes_of table) 0,
          sum-le (λ m. length (box_bytes (box_queue table s m))) (λ m. 2 + 2 * length (box_queue table s m)) (mailboxes_of table) 0
              (λ m l h. omega (arith, box-bytes (box_queue table s m))),
          sum-add (λ m. 2) (λ m. 2 * length (box_queue table s m)) (mailboxes_of table) 0,
          sum-most (λ m. 2) 2 (mailboxes_of table) 0 (λ m l h. omega arith),
          sum-times 2 (λ m. length (box_queue table s m)) (mailboxes_of table) 0,
          boxes-length table s r (mailboxes_of table) 0,
        )

    mutexes-section : length (mutexes_part table s) ≤ mutexes_of table + 2 * locker_count table
    mutexes-section =
        omega (
          arith,
          length-parts (λ m. mutex_bytes (s.queue m)) (mutexes_of table) 0,
          sum-le (λ m. length (mutex_bytes (s.queue m))) (λ m. 1 + 2 * lockers_of table m) (mutexes_of table) 0
              (λ m l h. omega (arith, mutex-bytes (s.queue m), queue-length table s r m)),
          sum-add (λ m. 1) (λ m. 2 * lockers_of table m) (mutexes_of table) 0,
          sum-most (λ m. 1) 1 (mutexes_of table) 0 (λ m l h. omega arith),
          sum-times 2 (lockers_of table) (mutexes_of table) 0,
        )

    -- the report of a reached state
    pub report-length : length (report table s) ≤ report_bound table
    unfolding report report_bound
    report-length =
        omega (
          arith,
          length-append (actors_part table s) (actions_part table s ++ (boxes_part table s ++ (mutexes_part table s ++ journal_bytes s.journal))),
          length-append (actions_part table s) (boxes_part table s ++ (mutexes_part table s ++ journal_bytes s.journal)),
          length-append (boxes_part table s) (mutexes_part table s ++ journal_bytes s.journal),
          length-append (mutexes_part table s) (journal_bytes s.journal),
          actors-length,
          actions-length,
          boxes-section,
          mutexes-section,
          journal-bytes s.journal,
          journal-length table s r,
        )

-- ---- the bounds of an accepted table

module _ (table : List ℕ) (ok : WellFormed table) where
  pub actions-most : action_count table ≤ 256
  actions-most =
      omega (arith, sum-most (count_of table) 32 (actors_of table) 0 (λ a l h. ok.actions-most a (omega arith)), ok.actors-most)

  pub posts-most : communication_count table ≤ 256
  posts-most =
      omega (
        arith,
        sum-le (communications_of table) (count_of table) (actors_of table) 0 (λ a l h. how_many-most (λ k. is_communication (action_of table a k)) (count_of table a) 0),
        actions-most,
      )

  pub lockers-most : locker_count table ≤ 64
  lockers-most =
      omega (
        arith,
        sum-most (lockers_of table) 8 (mutexes_of table) 0 (λ m l h. omega (arith, how_many-most (has_lock table m) (actors_of table) 0, ok.actors-most)),
        ok.mutexes-most,
      )

  pub notes-most : note_count table ≤ 256
  notes-most =
      omega (
        arith,
        sum-le (notes_of table) (count_of table) (actors_of table) 0
            (λ a l h. how_many-most (λ k. is_note (posts (action_of table a k))) (count_of table a) 0),
        actions-most,
      )

  pub bound-most : report_bound table ≤ 4514
  unfolding report_bound
  bound-most = omega (arith, actions-most, posts-most, lockers-most, notes-most, ok.actors-most, ok.mailboxes-most, ok.mutexes-most)

  pub reports-fit : ReportsFit table
  reports-fit = record { fits = λ p h. report-length table _ (reached-end table p h); room = bound-most }

  -- what holds in every reached state, and of every accepted schedule, by numbers alone
  pub box-room : (s : Site) → Reached table s → (m : ℕ) → length (box_queue table s m) ≤ 256
  box-room s r m = omega (arith, box-most table s r m, posts-most)

  pub port-room : (s : Site) → Reached table s → (p : Port) → length (s.mail.waiting p) ≤ 256
  port-room s r p = omega (arith, port-most table s r p, posts-most)

  pub journal-room : (s : Site) → Reached table s → length s.journal ≤ 256
  journal-room s r = omega (arith, journal-length table s r, notes-most)

  pub entries-room : (p : List ℕ) → accepted (machine table) initial p ≡ true → length p ≤ 256
  entries-room p h = omega (arith, entries-most table p h, actions-most)

-- table A's bound, by computation: 66 + 32 + 2 + 4 + 2
pub bound-A : report_bound table_a ≡ 106
unfolding report_bound decode_as
bound-A = refl
