-- What an actor's look finds after another's step: it still finds something if it did, and it finds the same if it does not meet what that step posts.
-- Assumes nothing.
use Prim.Native.Nat.{ℕ, suc}
use mathlib.Core.Path.{◌≡◌, refl, ◌∙◌, ap}
use mathlib.Core.Logic.{◌⊎◌, inl, inr, ◌≢◌}
use mathlib.Core.Bool.{Bool, true, false, false≢true}
use mathlib.Core.List.{List, [], ◌∷◌}
use lib.Dec.{eqb}
use borrow.Author.Tests.{eqb-true, eq-eqb}
use Rattle.trace.specs.Machine.{Name}
use Rattle.trace.specs.Order.{eq_name, mem}
use Rattle.trace.specs.Order.{has}
use Rattle.trace.proofs.Bools.{which, contrary, is_false, or_left, or_right, or_cases, or-false-left, or-false-right}
use Rattle.model.specs.Site.{Actor, Port, opposite, pending, Mail, Entry, Site, name}
use Rattle.model.specs.Views.{Post, silent, mails, joins, leaves, notes, Look, blind, communications, mutexes}
use Rattle.model.specs.Mutex.{owns, queueing}
use Rattle.model.specs.Mail.{is_done, carried, meet_with, mailing}
use Rattle.model.specs.Local.{first, see, is_seen}
use Rattle.model.specs.Pair.{answers, any_of, meets, post_at}
use Rattle.model.proofs.Upd.{not_equal, upd_other}
use Rattle.model.proofs.Ports.{name-test}
use Rattle.model.proofs.Queues.{owns_join, owns-leave}
use Rattle.model.proofs.PairCases.{answers-opposite}
use Rattle.model.proofs.Invariant.{Inv}

-- ---- the first place of a list

-- tests and values that agree on the list find the same
first-agrees : (f g : ℕ → Bool) (u v : ℕ → ℕ) (i : ℕ) (l : List ℕ) → ((k : ℕ) → has l k ≡ true → (f k ≡ g k) × (u k ≡ v k))
    → first f u i l ≡ first g v i l
first-agrees f g u v i [] h = refl
first-agrees f g u v i (x ∷ l) h =
    let here = h x (or_left (eqb x x) (has l x) (eq-eqb x x refl)) in
    let later : first f u (suc i) l ≡ first g v (suc i) l = first-agrees f g u v (suc i) l (λ k m. h k (or_right (eqb k x) (has l k) m)) in
    rw (here.0, here.1, later)

-- a test that holds wherever another does finds something where that one does
first-lasts : (f g : ℕ → Bool) (u v : ℕ → ℕ) (i : ℕ) (l : List ℕ) → ((k : ℕ) → f k ≡ true → g k ≡ true) → is_seen (first f u i l) ≡ true
    → is_seen (first g v i l) ≡ true
first-lasts f g u v i [] h e = e
first-lasts f g u v i (x ∷ l) h e = go (which (f x)) (which (g x)) (first-lasts f g u v (suc i) l h)
  where
    go : (f x ≡ true) ⊎ (f x ≡ false) → (g x ≡ true) ⊎ (g x ≡ false) → (is_seen (first f u (suc i) l) ≡ true → is_seen (first g v (suc i) l) ≡ true)
        → is_seen (first g v i (x ∷ l)) ≡ true
    go p (inl q) rest = rw q
    go (inl p) (inr q) rest = contrary (h x p) q
    go (inr p) (inr q) rest = rw q (rest (rw p at e))

any_of-false : (f : ℕ → Bool) (l : List ℕ) → any_of f l ≡ false → (k : ℕ) → has l k ≡ true → f k ≡ false
any_of-false f [] h k m = absurd (false≢true m)
any_of-false f (x ∷ l) h k m = go (or_cases (eqb k x) (has l k) m) (any_of-false f l (or-false-right (f x) (any_of f l) h) k)
  where
    go : (eqb k x ≡ true) ⊎ (has l k ≡ true) → (has l k ≡ true → f k ≡ false) → f k ≡ false
    go (inl e) rest = rw (eqb-true k x e) (or-false-left (f x) (any_of f l) h)
    go (inr n) rest = rest n

-- ---- communications

-- a meeting of step y changes no communication but y's and the oldest pending one's
meeting-keeps : (l : List Name) (Q : Port) (y z : Name) (w : ℕ) (m : Mail) → z ≢ y → mem z l ≡ false → (meet_with l Q y w m).comm z ≡ m.comm z
meeting-keeps [] Q y z w m ne h = upd_other name-test m.comm z y (pending w) ne
meeting-keeps (t ∷ l) Q y z w m ne h = rw (not_equal name-test z y ne, or-false-left (eq_name z t) (mem z l) h)

-- what is done stays done
meeting-done : (l : List Name) (Q : Port) (y z : Name) (w : ℕ) (m : Mail) → z ≢ y → is_done (m.comm z) ≡ true
    → is_done ((meet_with l Q y w m).comm z) ≡ true
meeting-done [] Q y z w m ne h = rw (not_equal name-test z y ne) h
meeting-done (t ∷ l) Q y z w m ne h = go (which (eq_name z t))
  where
    go : (eq_name z t ≡ true) ⊎ (eq_name z t ≡ false) → is_done ((meet_with (t ∷ l) Q y w m).comm z) ≡ true
    go (inl e) = rw (not_equal name-test z y ne, e)
    go (inr e) = rw (not_equal name-test z y ne, e) h

-- ---- what actor a sees after a step of actor b, named y, which posts p with value w

module _ (a b : ℕ) (ne : a ≢ b) (s : Site) (R : ℕ → Actor) (k : ℕ) (w : ℕ) (J : List Entry) where
  abbrev pub after : Post → Site
  after p = record { actor = R; mail = mailing p (name b k) w s.mail; queue = queueing p b s.queue; journal = J }

  apart : (j : ℕ) → name a j ≢ name b k
  apart j e = ne (ap (λ (x : Name). x.actor) e)

  pub still-sees : (p : Post) (look : Look) → is_seen (see s a look) ≡ true → is_seen (see (after p) a look) ≡ true
  still-sees p blind h = h
  still-sees silent (communications l) h = h
  still-sees (mails Q) (communications l) h =
      first-lasts _ _ _ _ 1 l (λ j e. meeting-done (s.mail.waiting (opposite Q)) Q (name b k) (name a j) w s.mail (apart j) e) h
  still-sees (joins n) (communications l) h = h
  still-sees (leaves n) (communications l) h = h
  still-sees notes (communications l) h = h
  still-sees silent (mutexes l) h = h
  still-sees (mails Q) (mutexes l) h = h
  still-sees (joins n) (mutexes l) h = first-lasts _ _ _ _ 1 l (λ m e. keeps m e (which (eqb m n))) h
    where
      keeps : (m : ℕ) → owns (s.queue m) a ≡ true → (eqb m n ≡ true) ⊎ (eqb m n ≡ false) → owns (queueing (joins n) b s.queue m) a ≡ true
      keeps m e (inl t) = rw t (owns_join a b ne (s.queue n) ∙ (rw (eqb-true m n t) at e))
      keeps m e (inr f) = rw f e
  still-sees (leaves n) (mutexes l) h = first-lasts _ _ _ _ 1 l (λ m e. keeps m e (which (eqb m n))) h
    where
      keeps : (m : ℕ) → owns (s.queue m) a ≡ true → (eqb m n ≡ true) ⊎ (eqb m n ≡ false) → owns (queueing (leaves n) b s.queue m) a ≡ true
      keeps m e (inl t) = rw t (owns-leave a b ne (s.queue n) (rw (eqb-true m n t) at e))
      keeps m e (inr f) = rw f e
  still-sees notes (mutexes l) h = h

  pub sees-same : (table : List ℕ) → Inv table s → (p : Post) (look : Look) → meets (post_at table a) look p ≡ false
      → see (after p) a look ≡ see s a look
  sees-same table i p blind h = refl
  sees-same table i silent (communications l) h = refl
  sees-same table i (mails Q) (communications l) h = first-agrees _ _ _ _ 1 l (λ j m. (ap is_done (keeps j m), ap carried (keeps j m)))
    where
      -- a listed communication is not pending on the side that the step pairs with
      elsewhere : (j : ℕ) → has l j ≡ true → mem (name a j) (s.mail.waiting (opposite Q)) ≡ false
      elsewhere j m =
          is_false _ (λ q.
          contrary
          (ap (λ (x : Post). answers x Q) (i.posted (opposite Q) (name a j) q) ∙ answers-opposite Q)
          (any_of-false (λ x. answers (post_at table a x) Q) l h j m))

      keeps : (j : ℕ) → has l j ≡ true → (after (mails Q)).mail.comm (name a j) ≡ s.mail.comm (name a j)
      keeps j m = meeting-keeps (s.mail.waiting (opposite Q)) Q (name b k) (name a j) w s.mail (apart j) (elsewhere j m)
  sees-same table i (joins n) (communications l) h = refl
  sees-same table i (leaves n) (communications l) h = refl
  sees-same table i notes (communications l) h = refl
  sees-same table i silent (mutexes l) h = refl
  sees-same table i (mails Q) (mutexes l) h = refl
  sees-same table i (joins n) (mutexes l) h = first-agrees _ _ _ _ 1 l (λ m q. (keeps m (which (eqb m n)), refl))
    where
      keeps : (m : ℕ) → (eqb m n ≡ true) ⊎ (eqb m n ≡ false) → owns (queueing (joins n) b s.queue m) a ≡ owns (s.queue m) a
      keeps m (inl t) = rw (t, eqb-true m n t) (owns_join a b ne (s.queue n))
      keeps m (inr f) = rw f
  sees-same table i (leaves n) (mutexes l) h = first-agrees _ _ _ _ 1 l (λ m q. (keeps m q (which (eqb m n)), refl))
    where
      keeps : (m : ℕ) → has l m ≡ true → (eqb m n ≡ true) ⊎ (eqb m n ≡ false) → owns (queueing (leaves n) b s.queue m) a ≡ owns (s.queue m) a
      keeps m q (inl t) = contrary (rw (eqb-true m n t) at q) h
      keeps m q (inr f) = rw f
  sees-same table i notes (mutexes l) h = refl
