-- Depths in a mutex's queue: what a Lock and an Unlock make of them, and that each stays from 1 to the number of its actor's Locks so far.
-- Assumes nothing.
use Prim.Native.Nat.{ℕ, zero, suc, ◌-◌, ◌≤◌, ◌<◌}
use native.Mathlib.Omega.{arith}
use mathlib.Core.Path.{◌≡◌, refl, sym, ◌∙◌, ap}
use mathlib.Core.Logic.{◌⊎◌, inl, inr, ◌≢◌, ◌↔◌}
use mathlib.Core.Bool.{true, false, false≢true}
use mathlib.Core.List.{List, [], ◌∷◌}
use lib.Dec.{eqb}
use borrow.Author.Tests.{eqb-true, eq-eqb, ne_eqb}
use Rattle.trace.specs.Order.{has}
use Rattle.trace.proofs.Bools.{which, contrary}
use Rattle.model.specs.Site.{Queued, Site, name}
use Rattle.model.specs.Views.{Post, silent, mails, joins, leaves, notes, posts}
use Rattle.model.specs.Step.{action_at}
use Rattle.model.specs.Mutex.{join, standing, leave, queueing}
use Rattle.model.specs.Pair.{is_join, post_at}
use Rattle.model.specs.Reached.{Once, actors_in, DepthsWithin, locks_below}
use Rattle.model.specs.Depths.{depth_in, counted}
use Rattle.model.proofs.ByKind.{posting}
use Rattle.model.proofs.PairCases.{join-action}
use Rattle.model.proofs.ReportBoundCounts.{counted-one}

-- whoever stands in a queue has a depth of at least 1
depths-standing : (f : ℕ → ℕ) (a d : ℕ) (q : List Queued) → d ≤ f a → DepthsWithin f q → DepthsWithin f (standing a d q)
depths-standing f a zero q h d = d
depths-standing f a (suc n) q h d = (omega arith, h, d)

-- ---- the depth of one actor

depth-absent : (q : List Queued) (a : ℕ) → has (actors_in q) a ≡ false → depth_in q a ≡ 0
depth-absent [] a n = refl
depth-absent (x ∷ q) a n = go (which (eqb a x.actor)) (depth-absent q a)
  where
    go : (eqb a x.actor ≡ true) ⊎ (eqb a x.actor ≡ false) → (has (actors_in q) a ≡ false → depth_in q a ≡ 0) → depth_in (x ∷ q) a ≡ 0
    go (inl e) rest = contrary refl (rw e at n)
    go (inr e) rest = rw e (rest (rw e at n))

-- a Lock adds 1 to its actor's
pub join-own : (q : List Queued) (a : ℕ) → depth_in (join q a) a ≡ suc (depth_in q a)
join-own [] a = rw (eq-eqb a a refl)
join-own (x ∷ q) a = go (which (eqb a x.actor)) (join-own q a)
  where
    go : (eqb a x.actor ≡ true) ⊎ (eqb a x.actor ≡ false) → depth_in (join q a) a ≡ suc (depth_in q a)
        → depth_in (join (x ∷ q) a) a ≡ suc (depth_in (x ∷ q) a)
    go (inl e) rest = rw (e, eq-eqb a a refl)
    go (inr e) rest = rw (e, e) rest

standing-own : (a d : ℕ) (q : List Queued) → has (actors_in q) a ≡ false → depth_in (standing a d q) a ≡ d
standing-own a zero q n = depth-absent q a n
standing-own a (suc d) q n = rw (eq-eqb a a refl)

-- and an Unlock takes 1 off, where there is one
leave_own : (q : List Queued) (a : ℕ) → Once (actors_in q) → depth_in (leave q a) a ≡ depth_in q a - 1
leave_own [] a o = refl
leave_own (x ∷ q) a o = go (which (eqb a x.actor)) (leave_own q a o.1)
  where
    go : (eqb a x.actor ≡ true) ⊎ (eqb a x.actor ≡ false) → depth_in (leave q a) a ≡ depth_in q a - 1
        → depth_in (leave (x ∷ q) a) a ≡ depth_in (x ∷ q) a - 1
    go (inl e) rest = rw e (standing-own a (x.depth - 1) q (rw (eqb-true a x.actor e) o.0))
    go (inr e) rest = rw (e, e) rest

module _ (a b : ℕ) (ne : b ≢ a) where
  -- neither changes another's
  join-other : (q : List Queued) → depth_in (join q a) b ≡ depth_in q b
  join-other [] = rw (ne_eqb b a ne)
  join-other (x ∷ q) = go (which (eqb a x.actor)) (which (eqb b x.actor)) (join-other q)
    where
      go : (eqb a x.actor ≡ true) ⊎ (eqb a x.actor ≡ false) → (eqb b x.actor ≡ true) ⊎ (eqb b x.actor ≡ false)
          → depth_in (join q a) b ≡ depth_in q b → depth_in (join (x ∷ q) a) b ≡ depth_in (x ∷ q) b
      go (inl e) (inl f) rest = absurd (ne (eqb-true b x.actor f ∙ sym (eqb-true a x.actor e)))
      go (inl e) (inr f) rest = rw (e, f, ne_eqb b a ne)
      go (inr e) (inl f) rest = rw (e, f)
      go (inr e) (inr f) rest = rw (e, f) rest

  standing-other : (d : ℕ) (q : List Queued) → depth_in (standing a d q) b ≡ depth_in q b
  standing-other zero q = refl
  standing-other (suc d) q = rw (ne_eqb b a ne)

  leave-other : (q : List Queued) → depth_in (leave q a) b ≡ depth_in q b
  leave-other [] = refl
  leave-other (x ∷ q) = go (which (eqb a x.actor)) (which (eqb b x.actor)) (leave-other q)
    where
      go : (eqb a x.actor ≡ true) ⊎ (eqb a x.actor ≡ false) → (eqb b x.actor ≡ true) ⊎ (eqb b x.actor ≡ false)
          → depth_in (leave q a) b ≡ depth_in q b → depth_in (leave (x ∷ q) a) b ≡ depth_in (x ∷ q) b
      go (inl e) (inl f) rest = absurd (ne (eqb-true b x.actor f ∙ sym (eqb-true a x.actor e)))
      go (inl e) (inr f) rest = rw (e, f) (standing-other (x.depth - 1) q)
      go (inr e) (inl f) rest = rw (e, f)
      go (inr e) (inr f) rest = rw (e, f) rest

-- what an actor's post makes of its own depth in each queue, and of another's
pub queueing-own : (p : Post) (a : ℕ) (f : ℕ → List Queued) (m : ℕ) → Once (actors_in (f m)) → depth_in (queueing p a f m) a ≡ counted m p (depth_in (f m) a)
queueing-own silent a f m o = refl
queueing-own (mails port) a f m o = refl
queueing-own (joins n) a f m o = go (which (eqb m n))
  where
    go : (eqb m n ≡ true) ⊎ (eqb m n ≡ false) → depth_in (queueing (joins n) a f m) a ≡ counted m (joins n) (depth_in (f m) a)
    go (inl e) = rw (e, eqb-true m n e) (join-own (f n) a)
    go (inr e) = rw e
queueing-own (leaves n) a f m o = go (which (eqb m n))
  where
    go : (eqb m n ≡ true) ⊎ (eqb m n ≡ false) → depth_in (queueing (leaves n) a f m) a ≡ counted m (leaves n) (depth_in (f m) a)
    go (inl e) = rw (e, eqb-true m n e) (leave_own (f n) a (rw (← eqb-true m n e) o))
    go (inr e) = rw e
queueing-own notes a f m o = refl

pub queueing-other : (p : Post) (a b : ℕ) (f : ℕ → List Queued) (m : ℕ) → b ≢ a → depth_in (queueing p a f m) b ≡ depth_in (f m) b
queueing-other silent a b f m ne = refl
queueing-other (mails port) a b f m ne = refl
queueing-other (joins n) a b f m ne = go (which (eqb m n))
  where
    go : (eqb m n ≡ true) ⊎ (eqb m n ≡ false) → depth_in (queueing (joins n) a f m) b ≡ depth_in (f m) b
    go (inl e) = rw (e, eqb-true m n e) (join-other a b ne (f n))
    go (inr e) = rw e
queueing-other (leaves n) a b f m ne = go (which (eqb m n))
  where
    go : (eqb m n ≡ true) ⊎ (eqb m n ≡ false) → depth_in (queueing (leaves n) a f m) b ≡ depth_in (f m) b
    go (inl e) = rw (e, eqb-true m n e) (leave-other a b ne (f n))
    go (inr e) = rw e
queueing-other notes a b f m ne = refl

-- ---- bounds

module _ (f g : ℕ → ℕ) (most : (b : ℕ) → f b ≤ g b) where
  pub depths-more : (q : List Queued) → DepthsWithin f q → DepthsWithin g q
  depths-more [] d = tt
  depths-more (x ∷ q) d = (d.0, omega (arith, d.1, most x.actor), depths-more q d.2)

  -- a Lock, where its actor's bound rises
  pub depths-join : (a : ℕ) → suc (f a) ≤ g a → (q : List Queued) → DepthsWithin f q → DepthsWithin g (join q a)
  depths-join a up [] d = (omega arith, omega arith, tt)
  depths-join a up (x ∷ q) d = go (which (eqb a x.actor)) (depths-join a up q d.2)
    where
      go : (eqb a x.actor ≡ true) ⊎ (eqb a x.actor ≡ false) → DepthsWithin g (join q a) → DepthsWithin g (join (x ∷ q) a)
      go (inl e) rest = rw e (omega arith, omega (arith, d.1, ap f (eqb-true a x.actor e)), depths-more q d.2)
      go (inr e) rest = rw e (d.0, omega (arith, d.1, most x.actor), rest)

module _ (f : ℕ → ℕ) where
  pub depths-leave : (a : ℕ) (q : List Queued) → DepthsWithin f q → DepthsWithin f (leave q a)
  depths-leave a [] d = tt
  depths-leave a (x ∷ q) d = go (which (eqb a x.actor)) (depths-leave a q d.2)
    where
      go : (eqb a x.actor ≡ true) ⊎ (eqb a x.actor ≡ false) → DepthsWithin f (leave q a) → DepthsWithin f (leave (x ∷ q) a)
      go (inl e) rest = rw e (depths-standing f a (x.depth - 1) q (omega (arith, d.1, ap f (eqb-true a x.actor e))) d.2)
      go (inr e) rest = rw e (d.0, d.1, rest)

  -- the depth of one actor, where depths are within their bounds
  pub depth-most : (q : List Queued) (a : ℕ) → DepthsWithin f q → depth_in q a ≤ f a
  depth-most [] a d = omega arith
  depth-most (x ∷ q) a d = go (which (eqb a x.actor)) (depth-most q a d.2)
    where
      go : (eqb a x.actor ≡ true) ⊎ (eqb a x.actor ≡ false) → depth_in q a ≤ f a → depth_in (x ∷ q) a ≤ f a
      go (inl e) rest = rw e (omega (arith, d.1, ap f (eqb-true a x.actor e)))
      go (inr e) rest = rw e rest

  -- who is queued has a depth
  pub depth-queued : (q : List Queued) (a : ℕ) → DepthsWithin f q → (has (actors_in q) a ≡ true) ↔ (0 < depth_in q a)
  depth-queued [] a d = (λ h. absurd (false≢true h), λ h. absurd (omega arith))
  depth-queued (x ∷ q) a d = go (which (eqb a x.actor)) (depth-queued q a d.2)
    where
      go : (eqb a x.actor ≡ true) ⊎ (eqb a x.actor ≡ false) → ((has (actors_in q) a ≡ true) ↔ (0 < depth_in q a))
          → (has (actors_in (x ∷ q)) a ≡ true) ↔ (0 < depth_in (x ∷ q) a)
      go (inl e) rest = rw e (λ h. omega (arith, d.0), λ h. refl)
      go (inr e) rest = rw e rest

-- ---- who is queued has locked

-- a Lock that an actor has run
abbrev pub Locked : List ℕ → Site → ℕ → ℕ → Type 0
Locked table s m a = (k : ℕ) × (k < (s.actor a).position) × (post_at table a k ≡ joins m)

-- who is queued has run one
pub queued-locked : (table : List ℕ) (s : Site) (m a : ℕ) (q : List Queued) → DepthsWithin (locks_below table s m) q → has (actors_in q) a ≡ true
    → Locked table s m a
queued-locked table s m a q d h =
    let above : 0 < depth_in q a = (depth-queued (locks_below table s m) q a d).0 h in
    let k = counted-one (λ j. is_join (post_at table a j) m) (s.actor a).position 0 (omega (arith, depth-most (locks_below table s m) q a d)) in
    (k.0, omega (arith, k.2), ap posts (join-action (action_at table (name a k.0)) m (posting (action_at table (name a k.0))) k.3))
