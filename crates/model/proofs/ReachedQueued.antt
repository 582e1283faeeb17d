-- The mail stays right when a step that was not posted yet joins the end of its port's queue.
-- Assumes nothing.
use Prim.Native.Nat.{ℕ}
use mathlib.Core.Path.{◌≡◌, refl, sym, ◌∙◌, ap}
use mathlib.Core.Logic.{◌⊎◌, inl, inr, ◌≢◌, ◌↔◌}
use mathlib.Core.Bool.{true, false}
use mathlib.Core.List.{[], ◌∷◌}
use Rattle.trace.specs.Machine.{Name}
use Rattle.trace.specs.Order.{mem}
use Rattle.trace.proofs.Bools.{contrary}
use Rattle.trace.proofs.Names.{mem-head}
use Rattle.model.specs.Site.{receives, Port, opposite, Comm, unposted, pending, done, Mail}
use Rattle.model.specs.Views.{Post, mails}
use Rattle.model.specs.Mail.{at_end, enqueue}
use Rattle.model.specs.Reached.{is_posted, is_pending, MailRight}
use Rattle.model.proofs.Upd.{upd_same, upd_other, upd-at}
use Rattle.model.proofs.Ports.{name-test, port-test}
use Rattle.model.proofs.Invariant.{meeting-members}
use Rattle.model.proofs.ReportBoundNames.{mem_append_left, mem_append_right}

pub pending-posted : (c : Comm) → is_pending c ≡ true → is_posted c ≡ true
pending-posted unposted h = h
pending-posted (pending value) h = refl
pending-posted (done partner value) h = refl

pub done-posted : (c : Comm) (y : Name) (w : ℕ) → c ≡ done y w → is_posted c ≡ true
done-posted c y w h = ap is_posted h

pub done-not-pending : (c : Comm) (y : Name) (w : ℕ) → c ≡ done y w → is_pending c ≡ false
done-not-pending c y w h = ap is_pending h

pub one-port : {A B : Port} → mails A ≡ mails B → A ≡ B
one-port h = cc

-- a posted step is another than one that is unposted
pub other_step : (m : Mail) (me : Name) → m.comm me ≡ unposted → (x : Name) → is_posted (m.comm x) ≡ true → x ≢ me
other_step m me fresh x h e = contrary h (ap (λ (y : Name). is_posted (m.comm y)) e ∙ ap is_posted fresh)

module _ (post_of : Name → Post) (P : Port) (me : Name) (v : ℕ) (m : Mail) (posts-there : post_of me ≡ mails P) (fresh : m.comm me ≡ unposted)
    (right : MailRight post_of m) where
  abbrev joined : Mail
  joined = enqueue P me v m

  -- it keeps a value of 0 if it is a Receive
  pub joined-zero : ((mailbox : ℕ) → P ≡ record { mailbox = mailbox; side = receives } → v ≡ 0) → (x : Name) (mailbox value : ℕ) → post_of x ≡ mails (record { mailbox = mailbox; side = receives })
      → joined.comm x ≡ pending value → value ≡ 0
  joined-zero zero x mailbox value p h = go (upd-at name-test m.comm x me (pending v))
    where
      go : ((x ≡ me) × (joined.comm x ≡ pending v)) ⊎ ((x ≢ me) × (joined.comm x ≡ m.comm x)) → value ≡ 0
      go (inl e) =
          let same : pending v ≡ pending value = sym e.1 ∙ h in
          let port : P ≡ record { mailbox = mailbox; side = receives } = one-port (sym posts-there ∙ ap post_of (sym e.0) ∙ p) in
          let none : v ≡ 0 = zero mailbox port in
          cc
      go (inr e) = right.receive-zero x mailbox value p (sym e.1 ∙ h)

  -- a step that was done before: the change is elsewhere
  joined-keeps-done : (x y : Name) (w : ℕ) → joined.comm x ≡ done y w → m.comm x ≡ done y w
  joined-keeps-done x y w h = go (upd-at name-test m.comm x me (pending v))
    where
      go : ((x ≡ me) × (joined.comm x ≡ pending v)) ⊎ ((x ≢ me) × (joined.comm x ≡ m.comm x)) → m.comm x ≡ done y w
      go (inl e) = contrary (ap is_pending e.1) (done-not-pending (joined.comm x) y w h)
      go (inr e) = sym e.1 ∙ h

  pub joined-done : (x y : Name) (w : ℕ) → joined.comm x ≡ done y w → joined.comm y ≡ done x w
  joined-done x y w h =
      let back : m.comm y ≡ done x w = right.partner-done x y w (joined-keeps-done x y w h) in
      upd_other name-test m.comm y me (pending v) (other_step m me fresh y (done-posted (m.comm y) x w back)) ∙ back

  pub joined-opposite : (x y : Name) (w : ℕ) (p : Port) → joined.comm x ≡ done y w → post_of x ≡ mails p → post_of y ≡ mails (opposite p)
  joined-opposite x y w p h k = right.partner-opposite x y w p (joined-keeps-done x y w h) k

  queued-pending : (R : Port) (x : Name) → mem x (joined.waiting R) ≡ true
      → ((x ≡ me) × (P ≡ R)) ⊎ (mem x (m.waiting R) ≡ true) → (is_pending (joined.comm x) ≡ true) × (post_of x ≡ mails R)
  queued-pending R x h (inl e) =
      (ap (λ (z : Name). is_pending (joined.comm z)) e.0 ∙ ap is_pending (upd_same name-test m.comm me (pending v)), ap post_of e.0 ∙ posts-there ∙ ap mails e.1)
  queued-pending R x h (inr k) =
      let old = (right.pending-queued R x).0 k in
      let ne : x ≢ me = other_step m me fresh x (pending-posted (m.comm x) old.0) in
      (ap is_pending (upd_other name-test m.comm x me (pending v) ne) ∙ old.0, old.1)

  still-queued : (R : Port) (x : Name) → mem x (m.waiting R) ≡ true → mem x (joined.waiting R) ≡ true
  still-queued R x h = go (upd-at port-test m.waiting R P (at_end (m.waiting P) me))
    where
      go : ((R ≡ P) × (joined.waiting R ≡ at_end (m.waiting P) me)) ⊎ ((R ≢ P) × (joined.waiting R ≡ m.waiting R))
          → mem x (joined.waiting R) ≡ true
      go (inl e) = ap (mem x) e.1 ∙ mem_append_left x (m.waiting P) (me ∷ []) (ap (λ (Q : Port). mem x (m.waiting Q)) (sym e.0) ∙ h)
      go (inr e) = ap (mem x) e.1 ∙ h

  pending-queues : (R : Port) (x : Name) → (is_pending (joined.comm x) ≡ true) × (post_of x ≡ mails R) → mem x (joined.waiting R) ≡ true
  pending-queues R x h = go (upd-at name-test m.comm x me (pending v))
    where
      go : ((x ≡ me) × (joined.comm x ≡ pending v)) ⊎ ((x ≢ me) × (joined.comm x ≡ m.comm x)) → mem x (joined.waiting R) ≡ true
      go (inl e) =
          let port : P ≡ R = one-port (sym posts-there ∙ ap post_of (sym e.0) ∙ h.1) in
          ap (λ (Q : Port). mem x (joined.waiting Q)) (sym port)
          ∙ ap (mem x) (upd_same port-test m.waiting P (at_end (m.waiting P) me))
          ∙ mem_append_right x (m.waiting P) (me ∷ []) (ap (λ (z : Name). mem z (me ∷ [])) e.0 ∙ mem-head me [])
      go (inr e) = still-queued R x ((right.pending-queued R x).1 (sym (ap is_pending e.1) ∙ h.0, h.1))

  pub joined-queued : (m.waiting (opposite P) ≡ []) → (R : Port) (x : Name)
      → (mem x (joined.waiting R) ≡ true) ↔ ((is_pending (joined.comm x) ≡ true) × (post_of x ≡ mails R))
  joined-queued none R x = (λ h. queued-pending R x h (meeting-members [] P R me x v m none h), pending-queues R x)
