-- How long the queues of a reached state are, by the table's counts: those of all mailboxes together come to no more than the Sends and
-- Receives, and a mutex's to no more than the actors with a Lock of it.
-- Assumes nothing.
use Prim.Native.Nat.{ℕ, ◌+◌, ◌≤◌, ◌<◌}
use native.Mathlib.Omega.{arith}
use mathlib.Core.Path.{◌≡◌, refl, ap}
use mathlib.Core.Logic.{◌⊎◌, inl, inr}
use mathlib.Core.Bool.{Bool, true, false}
use mathlib.Core.List.{List, []}
use lib.Dec.{eqb, ltb}
use borrow.Author.Tests.{eq-eqb, ltb-true, ltb-false}
use lib.ListN.{length, length-append, length-map}
use Rattle.table.specs.declared.Action.{Action}
use Rattle.table.specs.Format.{actors_of, count_of}
use Rattle.table.specs.Promise.{is_communication}
use Rattle.trace.specs.Machine.{Name}
use Rattle.trace.specs.Order.{mem}
use Rattle.trace.specs.Inversions.{count}
use Rattle.trace.specs.Order.{has}
use Rattle.trace.proofs.Bools.{which}
use Rattle.model.specs.Site.{Side, sends, receives, Port, Site, name}
use Rattle.model.specs.Views.{Post, silent, mails, joins, leaves, notes, posts}
use Rattle.model.specs.Ready.{bit}
use Rattle.model.specs.Pair.{is_join, is_note}
use Rattle.model.specs.Step.{action_at}
use Rattle.model.specs.Report.{box_queue}
use Rattle.model.specs.Bound.{sum_of, communication_count, has_lock, lockers_of, note_count}
use Rattle.model.specs.Reached.{actors_in, noted_in, Reached}
use Rattle.model.proofs.ReportBoundCounts.{sum-le, sum-most, how_many-most, some_of, one_place}
use Rattle.model.proofs.ReportBoundNames.{all_names, all-names, distinct-count, count-all, counts-apart}
use Rattle.model.proofs.ReportBoundQueues.{once-count}
use Rattle.model.proofs.QueuedDepths.{Locked, queued-locked}
use Rattle.model.proofs.Reached.{pending-inv}
use Rattle.model.proofs.ByKind.{Posting, quiet, sends-to, receives-from, locks, unlocks, writes_down, posting}

-- what is posted is a communication in this mailbox, on either side
abbrev to_box : ℕ → Post → Bool
to_box m silent = false
to_box m (mails p) = eqb p.mailbox m
to_box m (joins n) = false
to_box m (leaves n) = false
to_box m notes = false

none-posted : (n k : ℕ) → sum_of (λ m. bit false) n k ≤ 0
none-posted n k = omega (arith, sum-most (λ m. 0) 0 n k (λ j a b. omega arith))

-- a Send or Receive goes to one mailbox, any other action to none
one-box : (x : Action) (n k : ℕ) → sum_of (λ m. bit (to_box m (posts x))) n k ≤ bit (is_communication x)
one-box x n k = go (posting x)
  where
    go : Posting x → sum_of (λ m. bit (to_box m (posts x))) n k ≤ bit (is_communication x)
    go (quiet q) = rw (q.posts-none, q.no-post) (none-posted n k)
    go (sends-to mailbox c e) = rw e (one_place mailbox n k)
    go (receives-from mailbox c e) = rw e (one_place mailbox n k)
    go (locks m e) = rw e (none-posted n k)
    go (unlocks m e) = rw e (none-posted n k)
    go (writes_down c e) = rw e (none-posted n k)

abbrev pub port_of : ℕ → Side → Port
port_of m d = record { mailbox = m; side = d }

module _ (table : List ℕ) (s : Site) (r : Reached table s) where
  -- an actor that has stepped is one of the table's
  pub stepped-actor : (a : ℕ) → 0 < (s.actor a).position → a < actors_of table
  stepped-actor a h = go (which (ltb a (actors_of table)))
    where
      go : (ltb a (actors_of table) ≡ true) ⊎ (ltb a (actors_of table) ≡ false) → a < actors_of table
      go (inl e) = ltb-true a (actors_of table) e
      go (inr e) = absurd (omega (arith, r.absent-still a (ltb-false a (actors_of table) e)))

  -- ---- mailboxes

  -- a pending step is one of the table's
  pub pending-named : (p : Port) (x : Name) → mem x (s.mail.waiting p) ≡ true
      → (x.actor < actors_of table) × (x.position < count_of table x.actor)
  pending-named p x h =
      let low : x.position < (s.actor x.actor).position = (pending-inv table s r).below p x h in
      (stepped-actor x.actor (omega arith), omega (arith, r.position-most x.actor))

  abbrev posted_to : ℕ → ℕ
  posted_to m = count (λ x. to_box m (posts (action_at table x))) (all_names table)

  port-length : (p : Port) → length (s.mail.waiting p) ≤ posted_to p.mailbox
  port-length p =
      distinct-count (λ x. to_box p.mailbox (posts (action_at table x))) (s.mail.waiting p) (all_names table) (r.mail.pending-once p) counted
    where
      counted : (x : Name) → mem x (s.mail.waiting p) ≡ true
          → (mem x (all_names table) ≡ true) × (to_box p.mailbox (posts (action_at table x)) ≡ true)
      counted x h =
          let known = pending-named p x h in
          (all-names table x known.0 known.1, rw ((r.mail.pending-queued p x).0 h).1 (eq-eqb p.mailbox p.mailbox refl))

  box-length : (m : ℕ) → length (box_queue table s m) ≤ posted_to m
  box-length m = go (r.mail.one-sided (port_of m sends))
    where
      go : (s.mail.waiting (port_of m sends) ≡ []) ⊎ (s.mail.waiting (port_of m receives) ≡ []) → length (box_queue table s m) ≤ posted_to m
      go (inl e) = rw e (port-length (port_of m receives))
      go (inr e) =
          omega (
            arith,
            length-append (s.mail.waiting (port_of m sends)) (s.mail.waiting (port_of m receives)),
            ap length e,
            port-length (port_of m sends),
          )

  -- any range of mailboxes
  posted-apart : (n k : ℕ) → sum_of posted_to n k ≤ count (λ x. is_communication (action_at table x)) (all_names table)
  posted-apart n k =
      counts-apart (λ m x. to_box m (posts (action_at table x))) (λ x. is_communication (action_at table x)) n k (λ x. one-box (action_at table x) n k)
      (all_names table)

  pub boxes-length : (n k : ℕ) → sum_of (λ m. length (box_queue table s m)) n k ≤ communication_count table
  boxes-length n k =
      omega (
        arith,
        sum-le (λ m. length (box_queue table s m)) posted_to n k (λ m a b. box-length m),
        posted-apart n k,
        count-all (λ x. is_communication (action_at table x)) table,
      )

  -- one mailbox
  pub box-most : (m : ℕ) → length (box_queue table s m) ≤ communication_count table
  box-most m = omega (arith, boxes-length 1 m)

  -- and one side of it
  pub port-most : (p : Port) → length (s.mail.waiting p) ≤ communication_count table
  port-most p = go p.side
    where
      both : length (s.mail.waiting (port_of p.mailbox sends)) + length (s.mail.waiting (port_of p.mailbox receives)) ≤ communication_count table
      both =
          omega (
            arith,
            box-most p.mailbox,
            length-append (s.mail.waiting (port_of p.mailbox sends)) (s.mail.waiting (port_of p.mailbox receives)),
          )

      go : (d : Side) → length (s.mail.waiting (port_of p.mailbox d)) ≤ communication_count table
      go sends = omega (arith, both)
      go receives = omega (arith, both)

  -- ---- mutexes

  pub queue-length : (m : ℕ) → length (s.queue m) ≤ lockers_of table m
  queue-length m =
      omega (
        arith,
        length-map (s.queue m) (λ x. x.actor),
        once-count (has_lock table m) (actors_of table) 0 (actors_in (s.queue m)) (r.queued-once m) locker,
      )
    where
      locker : (a : ℕ) → has (actors_in (s.queue m)) a ≡ true → (0 ≤ a) × (a < 0 + actors_of table) × (has_lock table m a ≡ true)
      locker a h =
          let k : Locked table s m a = queued-locked table s m a (s.queue m) (r.queued-depths m) h in
          let low : k.0 < (s.actor a).position = k.1 in (
            omega arith,
            omega (arith, stepped-actor a (omega arith)),
            some_of (λ j. is_join (posts (action_at table (name a j))) m) (count_of table a) 0 k.0 (omega arith) (omega (arith, r.position-most a))
                (rw k.2 (eq-eqb m m refl)),
          )

  pub queue-most : (m : ℕ) → length (s.queue m) ≤ actors_of table
  queue-most m = omega (arith, queue-length m, how_many-most (has_lock table m) (actors_of table) 0)

  -- ---- the journal

  pub journal-length : length s.journal ≤ note_count table
  journal-length =
      omega (
        arith,
        length-map s.journal (λ e. e.step),
        distinct-count (λ x. is_note (posts (action_at table x))) (noted_in s.journal) (all_names table) r.noted-once counted,
        count-all (λ x. is_note (posts (action_at table x))) table,
      )
    where
      counted : (x : Name) → mem x (noted_in s.journal) ≡ true → (mem x (all_names table) ≡ true) × (is_note (posts (action_at table x)) ≡ true)
      counted x h =
          let k = (r.noted-below x).0 h in
          let low : x.position < (s.actor x.actor).position = k.1 in (
            all-names table x (stepped-actor x.actor (omega arith)) (omega (arith, r.position-most x.actor)),
            ap is_note k.0,
          )
