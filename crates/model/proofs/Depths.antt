-- An actor's depth is what its own Locks and Unlocks leave: by induction on the schedule, from any start that is as reached, from the depth that the
-- actor has there. That it is at most the number of its Locks is part of what holds of every reached state.
-- Assumes nothing.
use Prim.Native.Nat.{ℕ, ◌≤◌}
use native.Mathlib.Omega.{arith}
use mathlib.Core.Path.{◌≡◌, refl, sym, ◌∙◌, ap, subst}
use mathlib.Core.Logic.{◌⊎◌, inl, inr}
use mathlib.Core.Bool.{true, false}
use mathlib.Core.List.{List, [], ◌∷◌}
use lib.Dec.{eqb, ltb}
use borrow.Author.Tests.{eqb-true, eqb-false, ltb-true, ltb-false}
use Rattle.table.specs.Format.{actors_of}
use Rattle.table.specs.Promise.{WellFormed}
use Rattle.table.proofs.Promise.{promised}
use Rattle.trace.specs.Machine.{Name}
use Rattle.trace.specs.Schedule.{accepted, final, names}
use Rattle.trace.proofs.Bools.{which}
use Rattle.trace.proofs.Run.{first-ready, rest-accepted}
use Rattle.model.specs.Site.{Site, initial}
use Rattle.model.specs.Views.{posts}
use Rattle.model.specs.Step.{next_action, step}
use Rattle.model.specs.Pair.{is_join, post_at}
use Rattle.model.specs.Schedule.{machine, end_state}
use Rattle.model.specs.Reached.{locks_below, Reached}
use Rattle.model.specs.Depths.{depth_in, counted, own_steps, balance, depth_after, EveryDepth}
use Rattle.model.proofs.ReportBoundCounts.{how_many-most}
use Rattle.model.proofs.QueuedDepths.{queueing-own, queueing-other, depth-most, depth-queued}
use Rattle.model.proofs.Reached.{reached-initial, reached-step, reached-end}

module _ (table : List ℕ) where
  step-own : (s : Site) (a m : ℕ) → Reached table s → depth_in ((step table s a).queue m) a ≡ counted m (posts (next_action table s a)) (depth_in (s.queue m) a)
  unfolding step
  step-own s a m r = queueing-own (posts (next_action table s a)) a s.queue m (r.queued-once m)

  -- the balance, from any start that is as reached
  pub balance-from : (s : Site) (p : List ℕ) (m b : ℕ) → Reached table s → accepted (machine table) s p ≡ true
      → depth_in ((final (machine table) s p).queue m) b ≡ balance table m (own_steps b (names (machine table) s p)) (depth_in (s.queue m) b)
  unfolding step
  balance-from s [] m b r h = refl
  balance-from s (a ∷ p) m b r h =
      go (which (eqb b a))
      (balance-from (step table s a) p m b (reached-step table s r a (first-ready (machine table) s a p h)) (rest-accepted (machine table) s a p h))
    where
      go : (eqb b a ≡ true) ⊎ (eqb b a ≡ false)
          → depth_in ((final (machine table) (step table s a) p).queue m) b
          ≡ balance table m (own_steps b (names (machine table) (step table s a) p)) (depth_in ((step table s a).queue m) b)
          → depth_in ((final (machine table) s (a ∷ p)).queue m) b
          ≡ balance table m (own_steps b (names (machine table) s (a ∷ p))) (depth_in (s.queue m) b)
      go (inl e) rest =
          rw e
          (rest
          ∙ ap (balance table m (own_steps b (names (machine table) (step table s a) p)))
          (subst (λ (w : ℕ). depth_in ((step table s a).queue m) w ≡ counted m (posts (next_action table s a)) (depth_in (s.queue m) w))
          (sym (eqb-true b a e)) (step-own s a m r)))
      go (inr e) rest =
          rw e
          (rest
          ∙ ap (balance table m (own_steps b (names (machine table) (step table s a) p)))
          (queueing-other (posts (next_action table s a)) a b s.queue m (eqb-false b a e)))

  initial-none : (m a : ℕ) → depth_in (initial.queue m) a ≡ 0
  unfolding initial
  initial-none m a = refl

  pub balanced : (p : List ℕ) (m a : ℕ) → accepted (machine table) initial p ≡ true
      → depth_after table p m a ≡ balance table m (own_steps a (names (machine table) initial p)) 0
  balanced p m a h =
      balance-from initial p m a (reached-initial table) h
      ∙ ap (balance table m (own_steps a (names (machine table) initial p))) (initial-none m a)

  -- an actor has at most 32 Locks
  pub locks-most : WellFormed table → (s : Site) → Reached table s → (m a : ℕ) → locks_below table s m a ≤ 32
  locks-most ok s r m a = go (which (ltb a (actors_of table)))
    where
      most : locks_below table s m a ≤ (s.actor a).position
      most = how_many-most (λ k. is_join (post_at table a k) m) (s.actor a).position 0

      go : (ltb a (actors_of table) ≡ true) ⊎ (ltb a (actors_of table) ≡ false) → locks_below table s m a ≤ 32
      go (inl e) = omega (arith, most, r.position-most a, ok.actions-most a (ltb-true a (actors_of table) e))
      go (inr e) = omega (arith, most, r.absent-still a (ltb-false a (actors_of table) e))

  pub depths-most : WellFormed table → (s : Site) → Reached table s → (m a : ℕ) → depth_in (s.queue m) a ≤ 32
  depths-most ok s r m a = omega (arith, depth-most (locks_below table s m) (s.queue m) a (r.queued-depths m), locks-most ok s r m a)

pub every-depth : EveryDepth
every-depth =
    record {
      counts = λ table p read taken.
          let r = reached-end table p taken in
          record {
            balanced = λ m a. balanced table p m a taken;
            once = r.queued-once;
            queued = λ m a. depth-queued (locks_below table (end_state table p) m) ((end_state table p).queue m) a (r.queued-depths m);
            within = r.queued-depths;
            most = depths-most table (promised table read) (end_state table p) r;
          };
      own_alone = λ table p q read taken taken' a same m.
          balanced table p m a taken ∙ ap (λ (l : List Name). balance table m l 0) same ∙ sym (balanced table q m a taken');
    }
