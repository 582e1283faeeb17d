-- The invariant of a site, two facts of the names pending at a port: such a step lies below its actor's position, and its action posts to that port.
-- A fresh site has it and each step keeps it.
-- Assumes nothing.
use Prim.Native.Nat.{ℕ, suc, ◌≤◌, ◌<◌}
use native.Mathlib.Omega.{arith}
use mathlib.Core.Path.{◌≡◌, refl, sym, ap, subst}
use mathlib.Core.Logic.{◌⊎◌, inl, inr, ◌≢◌}
use mathlib.Core.Bool.{true, false, false≢true}
use mathlib.Core.List.{List, [], ◌∷◌, ◌++◌}
use lib.Dec.{eqb}
use borrow.Author.Tests.{eqb-true, eqb-false}
use Rattle.trace.specs.Machine.{Name}
use Rattle.trace.specs.Order.{mem}
use Rattle.trace.proofs.Bools.{which}
use Rattle.trace.proofs.Names.{mem-here, mem-tail, mem-cases}
use Rattle.model.specs.Site.{Actor, Port, opposite, eq_port, Mail, Site, initial}
use Rattle.model.specs.Views.{Post, silent, mails, joins, leaves, notes, posts}
use Rattle.model.specs.Mail.{meet_with, mailing}
use Rattle.model.specs.Step.{action_at, next_name, next_action, step}
use Rattle.model.proofs.Upd.{upd_same, upd_other}
use Rattle.model.proofs.Ports.{number-test, port-test}

pub record Inv (table : List ℕ) (s : Site) : Type 0 where
  pub below : (p : Port) (x : Name) → mem x (s.mail.waiting p) ≡ true → x.position < (s.actor x.actor).position
  pub posted : (p : Port) (x : Name) → mem x (s.mail.waiting p) ≡ true → posts (action_at table x) ≡ mails p

pub inv-initial : (table : List ℕ) → Inv table initial
unfolding initial
inv-initial table = record { below = λ p x h. absurd (false≢true h); posted = λ p x h. absurd (false≢true h) }

-- ---- records after a step

module _ (table : List ℕ) (s : Site) where
  pub others-record : (a b : ℕ) → a ≢ b → (step table s b).actor a ≡ s.actor a
  unfolding step
  others-record a b ne = upd_other number-test s.actor a b _ ne

  pub own-position : (a : ℕ) → ((step table s a).actor a).position ≡ suc (s.actor a).position
  unfolding step
  own-position a = ap (λ (r : Actor). r.position) (upd_same number-test s.actor a _)

  -- no step lowers a position
  pub position-rises : (a b : ℕ) → (s.actor a).position ≤ ((step table s b).actor a).position
  position-rises a b = go (which (eqb a b))
    where
      go : (eqb a b ≡ true) ⊎ (eqb a b ≡ false) → (s.actor a).position ≤ ((step table s b).actor a).position
      go (inl e) = rw (eqb-true a b e) (omega (arith, own-position b))
      go (inr e) = omega (arith, ap (λ (r : Actor). r.position) (others-record a b (eqb-false a b e)))

-- ---- names pending after a step

pub mem-append : (z x : Name) (l : List Name) → mem z (l ++ (x ∷ [])) ≡ true → (z ≡ x) ⊎ (mem z l ≡ true)
mem-append z x [] h = mem-cases z x [] h
mem-append z x (y ∷ l) h = go (mem-cases z y (l ++ (x ∷ [])) h) (mem-append z x l)
  where
    later : (z ≡ x) ⊎ (mem z l ≡ true) → (z ≡ x) ⊎ (mem z (y ∷ l) ≡ true)
    later (inl e) = inl e
    later (inr m) = inr (mem-tail z y l m)

    go : (z ≡ y) ⊎ (mem z (l ++ (x ∷ [])) ≡ true) → (mem z (l ++ (x ∷ [])) ≡ true → (z ≡ x) ⊎ (mem z l ≡ true))
        → (z ≡ x) ⊎ (mem z (y ∷ l) ≡ true)
    go (inl e) rest = inr (mem-here z y l e)
    go (inr m) rest = later (rest m)

-- what is pending after a meeting: the step itself at its port, and what was pending before
pub meeting-members : (l : List Name) (P R : Port) (x z : Name) (v : ℕ) (m : Mail) → m.waiting (opposite P) ≡ l
    → mem z ((meet_with l P x v m).waiting R) ≡ true → ((z ≡ x) × (P ≡ R)) ⊎ (mem z (m.waiting R) ≡ true)
meeting-members [] P R x z v m e h = go (which (eq_port R P))
  where
    ends : P ≡ R → (z ≡ x) ⊎ (mem z (m.waiting P) ≡ true) → ((z ≡ x) × (P ≡ R)) ⊎ (mem z (m.waiting R) ≡ true)
    ends k (inl q) = inl (q, k)
    ends k (inr q) = inr (subst (λ (r : Port). mem z (m.waiting r) ≡ true) k q)

    go : (eq_port R P ≡ true) ⊎ (eq_port R P ≡ false) → ((z ≡ x) × (P ≡ R)) ⊎ (mem z (m.waiting R) ≡ true)
    go (inl t) = ends (sym (port-test.equal R P t)) (mem-append z x (m.waiting P) (rw t at h))
    go (inr f) = inr (rw f at h)
meeting-members (y ∷ l) P R x z v m e h = go (which (eq_port R (opposite P)))
  where
    go : (eq_port R (opposite P) ≡ true) ⊎ (eq_port R (opposite P) ≡ false) → ((z ≡ x) × (P ≡ R)) ⊎ (mem z (m.waiting R) ≡ true)
    go (inl t) = inr (rw (port-test.equal R (opposite P) t, e) (mem-tail z y l (rw t at h)))
    go (inr f) = inr (rw f at h)

mailing-members : (p : Post) (R : Port) (x z : Name) (v : ℕ) (m : Mail) → mem z ((mailing p x v m).waiting R) ≡ true
    → ((z ≡ x) × (p ≡ mails R)) ⊎ (mem z (m.waiting R) ≡ true)
mailing-members silent R x z v m h = inr h
mailing-members (mails P) R x z v m h = go (meeting-members (m.waiting (opposite P)) P R x z v m refl h)
  where
    go : ((z ≡ x) × (P ≡ R)) ⊎ (mem z (m.waiting R) ≡ true) → ((z ≡ x) × (mails P ≡ mails R)) ⊎ (mem z (m.waiting R) ≡ true)
    go (inl q) = inl (q.0, ap mails q.1)
    go (inr q) = inr q
mailing-members (joins n) R x z v m h = inr h
mailing-members (leaves n) R x z v m h = inr h
mailing-members notes R x z v m h = inr h

module _ (table : List ℕ) (s : Site) (a : ℕ) where
  step-members : (R : Port) (z : Name) → mem z ((step table s a).mail.waiting R) ≡ true
      → ((z ≡ next_name table s a) × (posts (next_action table s a) ≡ mails R)) ⊎ (mem z (s.mail.waiting R) ≡ true)
  unfolding step
  step-members R z h = mailing-members (posts (next_action table s a)) R (next_name table s a) z _ s.mail h

  pub inv-step : Inv table s → Inv table (step table s a)
  inv-step i = record { below = λ R z h. low R z (step-members R z h); posted = λ R z h. right R z (step-members R z h) }
    where
      low : (R : Port) (z : Name) → ((z ≡ next_name table s a) × (posts (next_action table s a) ≡ mails R)) ⊎ (mem z (s.mail.waiting R) ≡ true)
          → z.position < ((step table s a).actor z.actor).position
      low R z (inl q) = rw q.0 (omega (arith, own-position table s a))
      low R z (inr m) = omega (arith, i.below R z m, position-rises table s z.actor a)

      right : (R : Port) (z : Name) → ((z ≡ next_name table s a) × (posts (next_action table s a) ≡ mails R)) ⊎ (mem z (s.mail.waiting R) ≡ true)
          → posts (action_at table z) ≡ mails R
      right R z (inl q) = rw q.0 q.1
      right R z (inr m) = i.posted R z m
