-- What `Reached` says holds of a fresh site, each ready step keeps it, and so it holds at the end of every accepted schedule, from any start that
-- has it.
-- Assumes nothing.
use Prim.Native.Nat.{ℕ, suc, ◌≤◌, ◌<◌}
use native.Mathlib.Omega.{arith}
use mathlib.Core.Path.{◌≡◌, refl, sym, ◌∙◌, ap}
use mathlib.Core.Logic.{◌⊎◌, inl, inr, ◌≢◌, ◌↔◌}
use mathlib.Core.Bool.{true, false, false≢true}
use mathlib.Core.List.{List, [], ◌∷◌}
use lib.Dec.{eqb}
use borrow.Author.Tests.{eqb-true, eqb-false, eq-eqb, ltb-true}
use Rattle.table.specs.Format.{actors_of, count_of}
use Rattle.table.specs.Promise.{is_communication}
use Rattle.trace.specs.Machine.{Name}
use Rattle.trace.specs.Schedule.{accepted, final}
use Rattle.trace.specs.Order.{eq_name, mem}
use Rattle.trace.proofs.Bools.{which, contrary, is_false}
use Rattle.trace.proofs.Names.{eq_name-refl, eq_name-true}
use Rattle.trace.proofs.Run.{first-ready, rest-accepted}
use Rattle.model.specs.Site.{Actor, Comm, unposted, pending, done, Site, initial}
use Rattle.model.specs.Views.{joins, notes, posts}
use Rattle.model.specs.Step.{action_at, next_name, next_action, ready, step}
use Rattle.model.specs.Schedule.{machine, end_state}
use Rattle.model.specs.Pair.{is_join, post_at}
use Rattle.model.specs.Reached.{is_posted, MailRight, DepthsWithin, locks_below, noted_in, Reached}
use Rattle.model.proofs.Checks.{ready-parts}
use Rattle.model.proofs.Invariant.{Inv, own-position, others-record, position-rises}
use Rattle.model.proofs.QueuedDepths.{depths-more, depths-join, depths-leave}
use Rattle.model.proofs.QueuedOnce.{queueing-keeps, once-queueing}
use Rattle.model.proofs.ReportBoundCounts.{count-more, count_next}
use Rattle.model.proofs.ReachedQueued.{pending-posted}
use Rattle.model.proofs.ReachedMail.{receive-sends-zero, mailing-right, own-posted, others-posted}
use Rattle.model.proofs.ReachedNoted.{noting-members, noting-keeps, noting-adds, noting-once}

pub reached-initial : (table : List ℕ) → Reached table initial
unfolding initial
reached-initial table =
    record {
      position-most = λ a. omega arith;
      absent-still = λ a h. refl;
      absent-cells = λ a h. refl;
      posted-below = λ x. (λ h. absurd (false≢true h), λ h. absurd (omega (arith, h.1)));
      mail =
          record {
            receive-zero = λ x mailbox value p h. absurd (false≢true (ap is_posted h));
            partner-done = λ x y value h. absurd (false≢true (ap is_posted h));
            partner-opposite = λ x y value p h k. absurd (false≢true (ap is_posted h));
            pending-queued = λ p x. (λ h. absurd (false≢true h), λ h. absurd (false≢true h.0));
            pending-once = λ p. tt;
            one-sided = λ p. inl refl;
          };
      queued-once = λ m. tt;
      queued-depths = λ m. tt;
      noted-below = λ x. (λ h. absurd (false≢true h), λ h. absurd (omega (arith, h.1)));
      noted-once = tt;
    }

-- ---- what follows of a state that has it

not-posted : (c : Comm) → is_posted c ≡ false → c ≡ unposted
not-posted unposted h = refl
not-posted (pending value) h = contrary refl h
not-posted (done partner value) h = contrary refl h

module _ (table : List ℕ) (s : Site) (r : Reached table s) where
  -- a pending step lies below its actor's position, and its action posts to that port
  pub pending-inv : Inv table s
  pending-inv =
      record {
        below = λ p x h. ((r.posted-below x).0 (pending-posted (s.mail.comm x) ((r.mail.pending-queued p x).0 h).0)).1;
        posted = λ p x h. ((r.mail.pending-queued p x).0 h).1;
      }

  -- an action at its actor's position or above is unposted, and so is one that is neither Send nor Receive
  pub later-unposted : (x : Name) → (s.actor x.actor).position ≤ x.position → s.mail.comm x ≡ unposted
  later-unposted x h = not-posted _ (is_false _ (λ k. let low = ((r.posted-below x).0 k).1 in omega arith))

  pub other-unposted : (x : Name) → is_communication (action_at table x) ≡ false → s.mail.comm x ≡ unposted
  other-unposted x h = not-posted _ (is_false _ (λ k. contrary ((r.posted-below x).0 k).0 h))

  -- ---- a step keeps it

  module _ (a : ℕ) where
    abbrev me : Name
    me = next_name table s a

    next-unposted : s.mail.comm me ≡ unposted
    next-unposted = later-unposted me (omega arith)

    -- the other steps are as posted as they were, and this one if it is a Send or Receive
    step-own : is_posted ((step table s a).mail.comm me) ≡ is_communication (next_action table s a)
    unfolding step
    step-own = own-posted (next_action table s a) me _ s.mail next-unposted

    step-others : (x : Name) → x ≢ me → is_posted ((step table s a).mail.comm x) ≡ is_posted (s.mail.comm x)
    unfolding step
    step-others x ne = others-posted (λ y. posts (action_at table y)) (posts (next_action table s a)) me x _ s.mail ne r.mail

    -- another step that lies below a position now did so before
    was-below : (x : Name) → x ≢ me → x.position < ((step table s a).actor x.actor).position → x.position < (s.actor x.actor).position
    was-below x ne h = go (which (eqb x.actor a))
      where
        go : (eqb x.actor a ≡ true) ⊎ (eqb x.actor a ≡ false) → x.position < (s.actor x.actor).position
        go (inl e) =
            let who : x.actor ≡ a = eqb-true x.actor a e in
            let most : x.position < suc (s.actor a).position =
            omega (arith, own-position table s a, ap (λ (b : ℕ). ((step table s a).actor b).position) who) in
            let apart : x.position ≢ (s.actor a).position = λ k. ne (λ i. record { actor = who i; position = k i }) in
            omega (arith, ap (λ (b : ℕ). (s.actor b).position) who)
        go (inr e) = omega (arith, ap (λ (c : Actor). c.position) (others-record table s x.actor a (eqb-false x.actor a e)))

    step-posted : (x : Name)
        → (is_posted ((step table s a).mail.comm x) ≡ true)
        ↔ ((is_communication (action_at table x) ≡ true) × (x.position < ((step table s a).actor x.actor).position))
    step-posted x = go (which (eq_name x me))
      where
        go : (eq_name x me ≡ true) ⊎ (eq_name x me ≡ false)
            → (is_posted ((step table s a).mail.comm x) ≡ true)
            ↔ ((is_communication (action_at table x) ≡ true) × (x.position < ((step table s a).actor x.actor).position))
        go (inl e) =
            rw (eq_name-true x me e)
            (λ h. (sym step-own ∙ h, omega (arith, own-position table s a)), λ h. step-own ∙ h.0)
        go (inr e) =
            let ne : x ≢ me = λ k. contrary (ap (λ (y : Name). eq_name y me) k ∙ eq_name-refl me) e in (
              λ h. let old = (r.posted-below x).0 (sym (step-others x ne) ∙ h) in (old.0, omega (arith, old.1, position-rises table s x.actor a)),
              λ h. step-others x ne ∙ (r.posted-below x).1 (h.0, was-below x ne h.1),
            )

    step-mail : MailRight (λ x. posts (action_at table x)) (step table s a).mail
    unfolding step
    step-mail =
        mailing-right (λ x. posts (action_at table x)) me _ s.mail next-unposted r.mail (posts (next_action table s a)) refl
        (receive-sends-zero (next_action table s a) (s.actor a).cells)

    -- no actor's Locks below its position grow fewer, and a Lock is one more
    locks-keep : (m b : ℕ) → locks_below table s m b ≤ locks_below table (step table s a) m b
    locks-keep m b = go (which (eqb b a))
      where
        go : (eqb b a ≡ true) ⊎ (eqb b a ≡ false) → locks_below table s m b ≤ locks_below table (step table s a) m b
        go (inl e) = rw (eqb-true b a e, own-position table s a) (count-more (λ k. is_join (post_at table a k) m) (s.actor a).position 0)
        go (inr e) = rw (others-record table s b a (eqb-false b a e)) (omega arith)

    locks-more : (m : ℕ) → posts (next_action table s a) ≡ joins m → suc (locks_below table s m a) ≤ locks_below table (step table s a) m a
    locks-more m e =
        rw (own-position table s a) (count_next (λ k. is_join (post_at table a k) m) (s.actor a).position (rw e (eq-eqb m m refl)))

    step-depths : (m : ℕ) → DepthsWithin (locks_below table (step table s a) m) ((step table s a).queue m)
    unfolding step
    step-depths =
        queueing-keeps (λ m. DepthsWithin (locks_below table (step table s a) m)) (posts (next_action table s a)) a s.queue
        (λ m. depths-more (locks_below table s m) (locks_below table (step table s a) m) (locks-keep m) (s.queue m) (r.queued-depths m))
        (λ m e. depths-join (locks_below table s m) (locks_below table (step table s a) m) (locks-keep m) a (locks-more m e) (s.queue m) (r.queued-depths m))
        (λ m e.
        depths-leave (locks_below table (step table s a) m) a (s.queue m)
        (depths-more (locks_below table s m) (locks_below table (step table s a) m) (locks-keep m) (s.queue m) (r.queued-depths m)))

    next-unnoted : mem me (noted_in s.journal) ≡ false
    next-unnoted = is_false _ (λ h. let low = ((r.noted-below me).0 h).1 in omega arith)

    step-noted : (x : Name)
        → (mem x (noted_in (step table s a).journal) ≡ true)
        ↔ ((posts (action_at table x) ≡ notes) × (x.position < ((step table s a).actor x.actor).position))
    unfolding step
    step-noted x = (λ h. listed (noting-members (posts (next_action table s a)) me x _ s.journal h), λ h. holds h (which (eq_name x me)))
      where
        listed : (mem x (noted_in s.journal) ≡ true) ⊎ ((x ≡ me) × (posts (next_action table s a) ≡ notes))
            → (posts (action_at table x) ≡ notes) × (x.position < ((step table s a).actor x.actor).position)
        listed (inl old) = let k = (r.noted-below x).0 old in (k.0, omega (arith, k.1, position-rises table s x.actor a))
        listed (inr new) = rw new.0 (new.1, omega (arith, own-position table s a))

        holds : (posts (action_at table x) ≡ notes) × (x.position < ((step table s a).actor x.actor).position)
            → (eq_name x me ≡ true) ⊎ (eq_name x me ≡ false) → mem x (noted_in (step table s a).journal) ≡ true
        holds h (inl e) =
            let same : x ≡ me = eq_name-true x me e in
            ap (λ (y : Name). mem y (noted_in (step table s a).journal)) same
            ∙ noting-adds (posts (next_action table s a)) me _ s.journal (ap (λ (y : Name). posts (action_at table y)) (sym same) ∙ h.0)
        holds h (inr e) =
            let ne : x ≢ me = λ k. contrary (ap (λ (y : Name). eq_name y me) k ∙ eq_name-refl me) e in
            noting-keeps (posts (next_action table s a)) me x _ s.journal ((r.noted-below x).1 (h.0, was-below x ne h.1))

    module _ (is-ready : ready table s a ≡ true) where
      step-position : (b : ℕ) → ((step table s a).actor b).position ≤ count_of table b
      step-position b = go (which (eqb b a))
        where
          go : (eqb b a ≡ true) ⊎ (eqb b a ≡ false) → ((step table s a).actor b).position ≤ count_of table b
          go (inl e) =
              rw (eqb-true b a e)
              (omega (arith, own-position table s a, ltb-true (s.actor a).position (count_of table a) (ready-parts table s a is-ready).1))
          go (inr e) = rw (others-record table s b a (eqb-false b a e)) (r.position-most b)

      -- an actor that the table lacks is another
      absent-record : (b : ℕ) → actors_of table ≤ b → (step table s a).actor b ≡ s.actor b
      absent-record b h =
          let here : a < actors_of table = ltb-true a (actors_of table) (ready-parts table s a is-ready).0 in
          others-record table s b a (omega arith)

      pub reached-step : Reached table (step table s a)
      unfolding step
      reached-step =
          record {
            position-most = step-position;
            absent-still = λ b h. ap (λ (c : Actor). c.position) (absent-record b h) ∙ r.absent-still b h;
            absent-cells = λ b h. ap (λ (c : Actor). c.cells) (absent-record b h) ∙ r.absent-cells b h;
            posted-below = step-posted;
            mail = step-mail;
            queued-once = once-queueing (posts (next_action table s a)) a s.queue r.queued-once;
            queued-depths = step-depths;
            noted-below = step-noted;
            noted-once = noting-once (posts (next_action table s a)) me _ s.journal r.noted-once next-unnoted;
          }

pub reached-final : (table : List ℕ) (s : Site) (p : List ℕ) → Reached table s → accepted (machine table) s p ≡ true
    → Reached table (final (machine table) s p)
reached-final table s [] r h = r
reached-final table s (a ∷ p) r h =
    reached-final table (step table s a) p (reached-step table s r a (first-ready (machine table) s a p h)) (rest-accepted (machine table) s a p h)

pub reached-end : (table p : List ℕ) → accepted (machine table) initial p ≡ true → Reached table (end_state table p)
reached-end table p h = reached-final table initial p (reached-initial table) h
