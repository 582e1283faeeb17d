-- Reached states that agree in all that the table names are equal: past the table nobody has stepped, nothing is posted, and every queue is empty.
-- Assumes nothing.
use Prim.Native.Nat.{ℕ, ◌≤◌, ◌<◌}
use native.Mathlib.Omega.{arith}
use mathlib.Core.Path.{◌≡◌, refl, sym, ◌∙◌, fun_ext, subst}
use mathlib.Core.Logic.{◌⊎◌, inl, inr}
use mathlib.Core.Bool.{true, false}
use mathlib.Core.List.{List, [], ◌∷◌}
use lib.Dec.{ltb}
use borrow.Author.Tests.{ltb-true, ltb-false}
use Rattle.table.specs.declared.Action.{Action}
use Rattle.table.specs.Format.{actors_of, mailboxes_of, mutexes_of, count_of}
use Rattle.table.specs.Promise.{InRange, WellFormed}
use Rattle.trace.specs.Machine.{Name}
use Rattle.trace.specs.Order.{mem, has}
use Rattle.trace.proofs.Bools.{which}
use Rattle.model.specs.Site.{Port, Queued, Site, name}
use Rattle.model.specs.Views.{Post, silent, mails, joins, leaves, notes, posts}
use Rattle.model.specs.Step.{action_at}
use Rattle.model.specs.Reached.{actors_in, Reached}
use Rattle.model.specs.Determined.{SameSite}
use Rattle.model.proofs.Reached.{later-unposted}
use Rattle.model.proofs.ByKind.{Posting, quiet, sends-to, receives-from, locks, unlocks, writes_down, posting}
use Rattle.model.proofs.ReportBoundQueues.{has-head}
use Rattle.model.proofs.QueuedDepths.{Locked, queued-locked}
use Rattle.model.proofs.ReportBoundLengths.{stepped-actor, pending-named}
use Rattle.model.proofs.SameReports.{none-held}

-- ---- what an action of an accepted table posts names a mailbox or a mutex of the table

abbrev PostInRange : List ℕ → Post → Type 0
PostInRange table silent = Unit {0}
PostInRange table (mails p) = p.mailbox < mailboxes_of table
PostInRange table (joins m) = m < mutexes_of table
PostInRange table (leaves m) = m < mutexes_of table
PostInRange table notes = Unit {0}

post-in-range : (table : List ℕ) (actor k : ℕ) (x : Action) → InRange table actor k x → PostInRange table (posts x)
post-in-range table actor k x h = go (posting x)
  where
    in-range : {y : Action} → x ≡ y → InRange table actor k y
    in-range e = subst (InRange table actor k) e h

    go : Posting x → PostInRange table (posts x)
    go (quiet q) = rw q.posts-none tt
    go (sends-to mailbox c e) = rw e (in-range e).0
    go (receives-from mailbox c e) = rw e (in-range e).0
    go (locks m e) = rw e (in-range e)
    go (unlocks m e) = rw e (in-range e)
    go (writes_down c e) = rw e tt

none_named : (q : List Queued) → ((a : ℕ) → has (actors_in q) a ≡ true → ⊥) → q ≡ []
none_named [] h = refl
none_named (x ∷ q) h = absurd (h x.actor (has-head x.actor (actors_in q)))

-- ---- past the table

module _ (table : List ℕ) (ok : WellFormed table) (s : Site) (r : Reached table s) where
  posts-in-range : (x : Name) → x.actor < actors_of table → x.position < count_of table x.actor → PostInRange table (posts (action_at table x))
  posts-in-range x a k = post-in-range table x.actor x.position (action_at table x) (ok.in-range x.actor x.position a k)

  absent-mailbox : (p : Port) → mailboxes_of table ≤ p.mailbox → s.mail.waiting p ≡ []
  absent-mailbox p h = none-held (s.mail.waiting p) nobody
    where
      nobody : (x : Name) → mem x (s.mail.waiting p) ≡ true → ⊥
      nobody x m =
          let known = pending-named table s r p x m in
          let here : p.mailbox < mailboxes_of table = rw ((r.mail.pending-queued p x).0 m).1 at (posts-in-range x known.0 known.1) in
          omega arith

  absent-mutex : (m : ℕ) → mutexes_of table ≤ m → s.queue m ≡ []
  absent-mutex m h = none_named (s.queue m) nobody
    where
      nobody : (a : ℕ) → has (actors_in (s.queue m)) a ≡ true → ⊥
      nobody a q =
          let k : Locked table s m a = queued-locked table s m a (s.queue m) (r.queued-depths m) q in
          let low : k.0 < (s.actor a).position = k.1 in
          let here : m < mutexes_of table =
          rw k.2 at (posts-in-range (name a k.0) (stepped-actor table s r a (omega arith)) (omega (arith, r.position-most a))) in
          omega arith

-- ---- the state

module _ (table : List ℕ) (ok : WellFormed table) (s t : Site) (r : Reached table s) (q : Reached table t) (same : SameSite table s t) where
  actor-same : (a : ℕ) → s.actor a ≡ t.actor a
  actor-same a = go (which (ltb a (actors_of table)))
    where
      go : (ltb a (actors_of table) ≡ true) ⊎ (ltb a (actors_of table) ≡ false) → s.actor a ≡ t.actor a
      go (inl e) = same.records a (ltb-true a (actors_of table) e)
      go (inr e) =
          let past : actors_of table ≤ a = ltb-false a (actors_of table) e in
          λ i.
          record {
            position = (r.absent-still a past ∙ sym (q.absent-still a past)) i;
            cells = (r.absent-cells a past ∙ sym (q.absent-cells a past)) i;
          }

  comm-same : (x : Name) → s.mail.comm x ≡ t.mail.comm x
  comm-same x = go (which (ltb x.actor (actors_of table))) (which (ltb x.position (count_of table x.actor)))
    where
      neither : (s.actor x.actor).position ≤ x.position → (t.actor x.actor).position ≤ x.position → s.mail.comm x ≡ t.mail.comm x
      neither a b = later-unposted table s r x a ∙ sym (later-unposted table t q x b)

      go : (ltb x.actor (actors_of table) ≡ true) ⊎ (ltb x.actor (actors_of table) ≡ false)
          → (ltb x.position (count_of table x.actor) ≡ true) ⊎ (ltb x.position (count_of table x.actor) ≡ false)
          → s.mail.comm x ≡ t.mail.comm x
      go (inl e) (inl f) = same.communications x.actor x.position (ltb-true _ _ e) (ltb-true _ _ f)
      go (inl e) (inr f) =
          let past : count_of table x.actor ≤ x.position = ltb-false _ _ f in
          neither (omega (arith, r.position-most x.actor)) (omega (arith, q.position-most x.actor))
      go (inr e) f =
          let past : actors_of table ≤ x.actor = ltb-false _ _ e in
          neither (omega (arith, r.absent-still x.actor past)) (omega (arith, q.absent-still x.actor past))

  waiting-same : (p : Port) → s.mail.waiting p ≡ t.mail.waiting p
  waiting-same p = go (which (ltb p.mailbox (mailboxes_of table)))
    where
      go : (ltb p.mailbox (mailboxes_of table) ≡ true) ⊎ (ltb p.mailbox (mailboxes_of table) ≡ false) → s.mail.waiting p ≡ t.mail.waiting p
      go (inl e) = same.mailboxes p.mailbox p.side (ltb-true _ _ e)
      go (inr e) = absent-mailbox table ok s r p (ltb-false _ _ e) ∙ sym (absent-mailbox table ok t q p (ltb-false _ _ e))

  queue-same : (m : ℕ) → s.queue m ≡ t.queue m
  queue-same m = go (which (ltb m (mutexes_of table)))
    where
      go : (ltb m (mutexes_of table) ≡ true) ⊎ (ltb m (mutexes_of table) ≡ false) → s.queue m ≡ t.queue m
      go (inl e) = same.mutexes m (ltb-true m (mutexes_of table) e)
      go (inr e) = absent-mutex table ok s r m (ltb-false m (mutexes_of table) e) ∙ sym (absent-mutex table ok t q m (ltb-false m (mutexes_of table) e))

  pub states-equal : s ≡ t
  states-equal =
      λ i.
      record {
        actor = fun_ext actor-same i;
        mail = record { comm = fun_ext comm-same i; waiting = fun_ext waiting-same i };
        queue = fun_ext queue-same i;
        journal = same.journal i;
      }
