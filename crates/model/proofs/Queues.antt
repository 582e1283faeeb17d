-- Mutex queues: what a step of one actor leaves of another's ownership, and that posts which do not compete commute.
-- Assumes nothing.
use Prim.Native.Nat.{ℕ, zero, suc, ◌-◌}
use mathlib.Core.Path.{◌≡◌, refl, sym, ◌∙◌, ap}
use mathlib.Core.Logic.{◌⊎◌, inl, inr, ◌≢◌}
use mathlib.Core.Bool.{true, false}
use mathlib.Core.List.{List, [], ◌∷◌}
use lib.Dec.{eqb}
use borrow.Author.Tests.{eqb-true, eqb-false, ne_eqb}
use Rattle.trace.proofs.Bools.{which}
use Rattle.model.specs.Site.{Queued, upd}
use Rattle.model.specs.Views.{Post, silent, mails, joins, leaves, notes}
use Rattle.model.specs.Mutex.{owns, join, standing, leave, queueing}
use Rattle.model.specs.Pair.{competes}
use Rattle.model.proofs.Upd.{upd_same, upd_other, upd-comm, upd-upd}
use Rattle.model.proofs.Ports.{number-test}

module _ (a b : ℕ) (ne : a ≢ b) where
  -- an actor of any depth in front is nothing to another
  standing-leave : (d : ℕ) (q : List Queued) → leave (standing a d q) b ≡ standing a d (leave q b)
  standing-leave zero q = refl
  standing-leave (suc d) q = rw (ne_eqb b a (λ e. ne (sym e)))

  pub standing-join : (d : ℕ) (q : List Queued) → join (standing a d q) b ≡ standing a d (join q b)
  standing-join zero q = refl
  standing-join (suc d) q = rw (ne_eqb b a (λ e. ne (sym e)))

module _ (a b : ℕ) (ne : a ≢ b) where
  -- Unlock and Unlock commute
  pub leave-leave : (q : List Queued) → leave (leave q a) b ≡ leave (leave q b) a
  leave-leave [] = refl
  leave-leave (x ∷ q) = go (which (eqb a x.actor)) (which (eqb b x.actor)) (leave-leave q)
    where
      go : (eqb a x.actor ≡ true) ⊎ (eqb a x.actor ≡ false) → (eqb b x.actor ≡ true) ⊎ (eqb b x.actor ≡ false)
          → leave (leave q a) b ≡ leave (leave q b) a → leave (leave (x ∷ q) a) b ≡ leave (leave (x ∷ q) b) a
      go (inl e) (inl f) r = absurd (ne (eqb-true a x.actor e ∙ sym (eqb-true b x.actor f)))
      go (inl e) (inr f) r = rw (e, f, e) (standing-leave a b ne (x.depth - 1) q)
      go (inr e) (inl f) r = rw (e, f) (sym (standing-leave b a (λ k. ne (sym k)) (x.depth - 1) q))
      go (inr e) (inr f) r = rw (e, f, e) (ap {B = List Queued} (λ l. x ∷ l) r)

  -- who else joins, or locks again, does not change whether a owns
  pub owns_join : (q : List Queued) → owns (join q b) a ≡ owns q a
  owns_join [] = ne_eqb a b ne
  owns_join (x ∷ q) = go (which (eqb b x.actor))
    where
      go : (eqb b x.actor ≡ true) ⊎ (eqb b x.actor ≡ false) → owns (join (x ∷ q) b) a ≡ owns (x ∷ q) a
      go (inl e) = rw e (ap (eqb a) (eqb-true b x.actor e))
      go (inr e) = rw e

  -- if a owns, it still does when another leaves
  pub owns-leave : (q : List Queued) → owns q a ≡ true → owns (leave q b) a ≡ true
  owns-leave [] h = h
  owns-leave (x ∷ q) h = rw (ne_eqb b x.actor (λ e. ne (eqb-true a x.actor h ∙ sym e))) h

  -- Lock and Unlock commute
  pub join-leave : (q : List Queued) → leave (join q a) b ≡ join (leave q b) a
  join-leave [] = rw (ne_eqb b a (λ e. ne (sym e)))
  join-leave (x ∷ q) = go (which (eqb a x.actor)) (which (eqb b x.actor)) (join-leave q)
    where
      go : (eqb a x.actor ≡ true) ⊎ (eqb a x.actor ≡ false) → (eqb b x.actor ≡ true) ⊎ (eqb b x.actor ≡ false)
          → leave (join q a) b ≡ join (leave q b) a → leave (join (x ∷ q) a) b ≡ join (leave (x ∷ q) b) a
      go (inl e) (inl f) r = absurd (ne (eqb-true a x.actor e ∙ sym (eqb-true b x.actor f)))
      go (inl e) (inr f) r = rw (e, f, e, ne_eqb b a (λ k. ne (sym k)))
      go (inr e) (inl f) r = rw (e, f) (sym (standing-join b a (λ k. ne (sym k)) (x.depth - 1) q))
      go (inr e) (inr f) r = rw (e, f, e) (ap {B = List Queued} (λ l. x ∷ l) r)

-- two changes of queues, of one each, commute if they do so on one queue
two-queues : (f : ℕ → List Queued) (m n : ℕ) (g h : List Queued → List Queued) → ((q : List Queued) → h (g q) ≡ g (h q))
    → upd eqb (upd eqb f m (g (f m))) n (h (upd eqb f m (g (f m)) n)) ≡ upd eqb (upd eqb f n (h (f n))) m (g (upd eqb f n (h (f n)) m))
two-queues f m n g h c = go (which (eqb n m))
  where
    go : (eqb n m ≡ true) ⊎ (eqb n m ≡ false)
        → upd eqb (upd eqb f m (g (f m))) n (h (upd eqb f m (g (f m)) n)) ≡ upd eqb (upd eqb f n (h (f n))) m (g (upd eqb f n (h (f n)) m))
    go (inl e) =
        rw (eqb-true n m e, upd_same number-test f m (g (f m)), upd_same number-test f m (h (f m)))
        (upd-upd number-test f m (g (f m)) (h (g (f m)))
        ∙ ap (upd eqb f m) (c (f m))
        ∙ sym (upd-upd number-test f m (h (f m)) (g (h (f m)))))
    go (inr e) =
        let ne : n ≢ m = eqb-false n m e in
        rw (upd_other number-test f n m (g (f m)) ne, upd_other number-test f m n (h (f n)) (λ k. ne (sym k)))
        (upd-comm number-test f m n (g (f m)) (h (f n)) (λ k. ne (sym k)))

-- joins of different mutexes
two-joins : (a b m n : ℕ) (f : ℕ → List Queued) → m ≢ n → queueing (joins n) b (queueing (joins m) a f) ≡ queueing (joins m) a (queueing (joins n) b f)
two-joins a b m n f ne =
    rw (upd_other number-test f n m (join (f m) a) (λ k. ne (sym k)), upd_other number-test f m n (join (f n) b) ne)
    (upd-comm number-test f m n (join (f m) a) (join (f n) b) ne)

pub queueing-commutes : (x y : Post) (a b : ℕ) (f : ℕ → List Queued) → a ≢ b → competes x y ≡ false
    → queueing y b (queueing x a f) ≡ queueing x a (queueing y b f)
queueing-commutes silent y a b f ne h = refl
queueing-commutes (mails p) y a b f ne h = refl
queueing-commutes (joins m) silent a b f ne h = refl
queueing-commutes (joins m) (mails q) a b f ne h = refl
queueing-commutes (joins m) (joins n) a b f ne h = two-joins a b m n f (λ e. eqb-false n m h (sym e))
queueing-commutes (joins m) (leaves n) a b f ne h = two-queues f m n (λ q. join q a) (λ q. leave q b) (join-leave a b ne)
queueing-commutes (joins m) notes a b f ne h = refl
queueing-commutes (leaves m) silent a b f ne h = refl
queueing-commutes (leaves m) (mails q) a b f ne h = refl
queueing-commutes (leaves m) (joins n) a b f ne h =
    two-queues f m n (λ q. leave q a) (λ q. join q b) (λ q. sym (join-leave b a (λ e. ne (sym e)) q))
queueing-commutes (leaves m) (leaves n) a b f ne h = two-queues f m n (λ q. leave q a) (λ q. leave q b) (leave-leave a b ne)
queueing-commutes (leaves m) notes a b f ne h = refl
queueing-commutes notes y a b f ne h = refl
