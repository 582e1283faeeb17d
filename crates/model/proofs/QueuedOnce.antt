-- Mutex queues: who is queued after a Lock and after an Unlock, and that no queue names an actor twice.
-- Assumes nothing.
use Prim.Native.Nat.{ℕ, zero, suc, ◌-◌}
use mathlib.Core.Path.{◌≡◌, refl, sym}
use mathlib.Core.Logic.{◌⊎◌, inl, inr, ◌≢◌}
use mathlib.Core.Bool.{true, false}
use mathlib.Core.List.{List, [], ◌∷◌}
use lib.Dec.{eqb}
use borrow.Author.Tests.{eqb-true, eqb-false}
use Rattle.trace.specs.Order.{has}
use Rattle.trace.proofs.Bools.{which, contrary, is_false}
use Rattle.model.specs.Site.{Queued}
use Rattle.model.specs.Views.{Post, silent, mails, joins, leaves, notes}
use Rattle.model.specs.Mutex.{join, standing, leave, queueing}
use Rattle.model.specs.Reached.{Once, actors_in}
use Rattle.model.proofs.ReportBoundQueues.{has-cases, has-head, has-tail}

-- a Lock adds its actor, and an Unlock nobody
pub join-members : (a b : ℕ) (q : List Queued) → has (actors_in (join q a)) b ≡ true → (b ≡ a) ⊎ (has (actors_in q) b ≡ true)
join-members a b [] h = has-cases b a [] h
join-members a b (x ∷ q) h = go (which (eqb a x.actor)) (join-members a b q)
  where
    later : (b ≡ x.actor) ⊎ (has (actors_in (join q a)) b ≡ true) → (has (actors_in (join q a)) b ≡ true → (b ≡ a) ⊎ (has (actors_in q) b ≡ true))
        → (b ≡ a) ⊎ (has (actors_in (x ∷ q)) b ≡ true)
    later (inl e) rest = inr (rw e (has-head x.actor (actors_in q)))
    later (inr m) rest = past (rest m)
      where
        past : (b ≡ a) ⊎ (has (actors_in q) b ≡ true) → (b ≡ a) ⊎ (has (actors_in (x ∷ q)) b ≡ true)
        past (inl e) = inl e
        past (inr k) = inr (has-tail b x.actor (actors_in q) k)

    go : (eqb a x.actor ≡ true) ⊎ (eqb a x.actor ≡ false) → (has (actors_in (join q a)) b ≡ true → (b ≡ a) ⊎ (has (actors_in q) b ≡ true))
        → (b ≡ a) ⊎ (has (actors_in (x ∷ q)) b ≡ true)
    go (inl e) rest = inr (rw (← eqb-true a x.actor e) (rw e at h))
    go (inr e) rest = later (has-cases b x.actor (actors_in (join q a)) (rw e at h)) rest

standing-members : (a b d : ℕ) (q : List Queued) → has (actors_in (standing a d q)) b ≡ true → has (a ∷ actors_in q) b ≡ true
standing-members a b zero q h = has-tail b a (actors_in q) h
standing-members a b (suc d) q h = h

leave-members : (a b : ℕ) (q : List Queued) → has (actors_in (leave q a)) b ≡ true → has (actors_in q) b ≡ true
leave-members a b [] h = h
leave-members a b (x ∷ q) h = go (which (eqb a x.actor)) (leave-members a b q)
  where
    past : (b ≡ x.actor) ⊎ (has (actors_in (leave q a)) b ≡ true) → (has (actors_in (leave q a)) b ≡ true → has (actors_in q) b ≡ true)
        → has (actors_in (x ∷ q)) b ≡ true
    past (inl e) rest = rw e (has-head x.actor (actors_in q))
    past (inr m) rest = has-tail b x.actor (actors_in q) (rest m)

    go : (eqb a x.actor ≡ true) ⊎ (eqb a x.actor ≡ false) → (has (actors_in (leave q a)) b ≡ true → has (actors_in q) b ≡ true)
        → has (actors_in (x ∷ q)) b ≡ true
    go (inl e) rest = rw (← eqb-true a x.actor e) (standing-members a b (x.depth - 1) q (rw e at h))
    go (inr e) rest = past (has-cases b x.actor (actors_in (leave q a)) (rw e at h)) rest

-- so neither makes an actor stand twice
pub once_join : (a : ℕ) (q : List Queued) → Once (actors_in q) → Once (actors_in (join q a))
once_join a [] o = (refl, tt)
once_join a (x ∷ q) o = go (which (eqb a x.actor)) (once_join a q o.1)
  where
    twice : a ≢ x.actor → (x.actor ≡ a) ⊎ (has (actors_in q) x.actor ≡ true) → ⊥
    twice ne (inl e) = ne (sym e)
    twice ne (inr m) = contrary m o.0

    go : (eqb a x.actor ≡ true) ⊎ (eqb a x.actor ≡ false) → Once (actors_in (join q a)) → Once (actors_in (join (x ∷ q) a))
    go (inl e) rest = rw (e, eqb-true a x.actor e) o
    go (inr e) rest = rw e (is_false _ (λ h. twice (eqb-false a x.actor e) (join-members a x.actor q h)), rest)

once-standing : (a d : ℕ) (q : List Queued) → Once (a ∷ actors_in q) → Once (actors_in (standing a d q))
once-standing a zero q o = o.1
once-standing a (suc d) q o = o

once-leave : (a : ℕ) (q : List Queued) → Once (actors_in q) → Once (actors_in (leave q a))
once-leave a [] o = tt
once-leave a (x ∷ q) o = go (which (eqb a x.actor)) (once-leave a q o.1)
  where
    go : (eqb a x.actor ≡ true) ⊎ (eqb a x.actor ≡ false) → Once (actors_in (leave q a)) → Once (actors_in (leave (x ∷ q) a))
    go (inl e) rest = rw e (once-standing a (x.depth - 1) q (rw (eqb-true a x.actor e) o))
    go (inr e) rest = rw e (is_false _ (λ h. contrary (leave-members a x.actor q h) o.0), rest)

-- ---- the queues after a step

-- what a Lock and an Unlock keep of one queue, a step keeps of all
pub queueing-keeps : (P : ℕ → List Queued → Type 0) (p : Post) (a : ℕ) (f : ℕ → List Queued) → ((m : ℕ) → P m (f m))
    → ((m : ℕ) → p ≡ joins m → P m (join (f m) a)) → ((m : ℕ) → p ≡ leaves m → P m (leave (f m) a)) → (m : ℕ) → P m (queueing p a f m)
queueing-keeps P silent a f o i u m = o m
queueing-keeps P (mails port) a f o i u m = o m
queueing-keeps P (joins n) a f o i u m = go (which (eqb m n))
  where
    go : (eqb m n ≡ true) ⊎ (eqb m n ≡ false) → P m (queueing (joins n) a f m)
    go (inl e) = rw (e, eqb-true m n e) (i n refl)
    go (inr e) = rw e (o m)
queueing-keeps P (leaves n) a f o i u m = go (which (eqb m n))
  where
    go : (eqb m n ≡ true) ⊎ (eqb m n ≡ false) → P m (queueing (leaves n) a f m)
    go (inl e) = rw (e, eqb-true m n e) (u n refl)
    go (inr e) = rw e (o m)
queueing-keeps P notes a f o i u m = o m

pub once-queueing : (p : Post) (a : ℕ) (f : ℕ → List Queued) → ((m : ℕ) → Once (actors_in (f m))) → (m : ℕ) → Once (actors_in (queueing p a f m))
once-queueing p a f o =
    queueing-keeps (λ m q. Once (actors_in q)) p a f o (λ m e. once_join a (f m) (o m)) (λ m e. once-leave a (f m) (o m))
