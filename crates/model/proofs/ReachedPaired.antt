-- The mail stays right when a step that was not posted yet pairs with the oldest step pending on the other side: both become done and name one
-- another.
-- Assumes nothing.
use Prim.Native.Nat.{ℕ}
use mathlib.Core.Path.{◌≡◌, sym, ◌∙◌, ap}
use mathlib.Core.Logic.{◌⊎◌, inl, inr, ◌≢◌, ◌↔◌}
use mathlib.Core.Bool.{true, false}
use mathlib.Core.List.{List, ◌∷◌}
use Rattle.trace.specs.Machine.{Name}
use Rattle.trace.specs.Order.{eq_name, mem, Distinct}
use Rattle.trace.proofs.Bools.{contrary}
use Rattle.trace.proofs.Names.{mem-head, mem-tail, mem-cases}
use Rattle.model.specs.Site.{upd, receives, Port, opposite, unposted, pending, done, Mail}
use Rattle.model.specs.Views.{Post, mails}
use Rattle.model.specs.Mail.{carried, pair_value, pair}
use Rattle.model.specs.Reached.{is_pending, MailRight}
use Rattle.model.proofs.Upd.{upd_same, upd_other, upd-at}
use Rattle.model.proofs.Ports.{name-test, port-test, opposite-opposite}
use Rattle.model.proofs.ReachedQueued.{pending-posted, done-posted, done-not-pending, one-port, other_step}

module _ (post_of : Name → Post) (P : Port) (me : Name) (v : ℕ) (m : Mail) (posts-there : post_of me ≡ mails P) (fresh : m.comm me ≡ unposted)
    (right : MailRight post_of m) (oldest : Name) (rest : List Name) (found : m.waiting (opposite P) ≡ oldest ∷ rest) where
  abbrev paired : Mail
  paired = pair P me v oldest rest m

  abbrev value : ℕ
  value = pair_value P.side v (carried (m.comm oldest))

  -- the partner was pending on the other side
  partner-was : (is_pending (m.comm oldest) ≡ true) × (post_of oldest ≡ mails (opposite P))
  partner-was = (right.pending-queued (opposite P) oldest).0 (ap (mem oldest) found ∙ mem-head oldest rest)

  partner-other : oldest ≢ me
  partner-other = other_step m me fresh oldest (pending-posted (m.comm oldest) partner-was.0)

  -- the partner stands in its queue once: it is not among the steps behind it
  partner-gone : mem oldest rest ≡ false
  partner-gone =
      let whole : Distinct (oldest ∷ rest) = rw found at (right.pending-once (opposite P)) in
      whole.0

  -- a communication after the pair: this step's, its partner's, or another's, which is as it was
  abbrev After : Name → Type 0
  After x =
      ((x ≡ me) × (paired.comm x ≡ done oldest value))
      ⊎ (((x ≡ oldest) × (paired.comm x ≡ done me value)) ⊎ ((x ≢ me) × (x ≢ oldest) × (paired.comm x ≡ m.comm x)))

  comm-after : (x : Name) → After x
  comm-after x = outer (upd-at name-test (upd eq_name m.comm oldest (done me value)) x me (done oldest value))
    where
      inner : x ≢ me → paired.comm x ≡ upd eq_name m.comm oldest (done me value) x
          → ((x ≡ oldest) × (upd eq_name m.comm oldest (done me value) x ≡ done me value))
          ⊎ ((x ≢ oldest) × (upd eq_name m.comm oldest (done me value) x ≡ m.comm x)) → After x
      inner ne h (inl e) = inr (inl (e.0, h ∙ e.1))
      inner ne h (inr e) = inr (inr (ne, e.0, h ∙ e.1))

      outer : ((x ≡ me) × (paired.comm x ≡ done oldest value))
          ⊎ ((x ≢ me) × (paired.comm x ≡ upd eq_name m.comm oldest (done me value) x)) → After x
      outer (inl e) = inl e
      outer (inr e) = inner e.0 e.1 (upd-at name-test m.comm x oldest (done me value))

  unchanged : (x : Name) → x ≢ me → x ≢ oldest → paired.comm x ≡ m.comm x
  unchanged x a b =
      upd_other name-test (upd eq_name m.comm oldest (done me value)) x me (done oldest value) a
      ∙ upd_other name-test m.comm x oldest (done me value) b

  -- a step that is pending after the pair was so before it, and is neither of the two
  pending-was : (x : Name) → is_pending (paired.comm x) ≡ true → (x ≢ me) × (x ≢ oldest) × (paired.comm x ≡ m.comm x)
  pending-was x h = go (comm-after x)
    where
      go : After x → (x ≢ me) × (x ≢ oldest) × (paired.comm x ≡ m.comm x)
      go (inl e) = contrary h (done-not-pending (paired.comm x) oldest value e.1)
      go (inr (inl e)) = contrary h (done-not-pending (paired.comm x) me value e.1)
      go (inr (inr e)) = e

  -- ---- values and partners

  pub paired-zero : (x : Name) (mailbox w : ℕ) → post_of x ≡ mails (record { mailbox = mailbox; side = receives }) → paired.comm x ≡ pending w → w ≡ 0
  paired-zero x mailbox w p h = let was = pending-was x (ap is_pending h) in right.receive-zero x mailbox w p (sym was.2 ∙ h)

  pub paired-done : (x y : Name) (w : ℕ) → paired.comm x ≡ done y w → paired.comm y ≡ done x w
  paired-done x y w h = go (comm-after x)
    where
      go : After x → paired.comm y ≡ done x w
      go (inl e) =
          let same : done oldest value ≡ done y w = sym e.1 ∙ h in
          let who : y ≡ oldest = cc in
          let carries : done me value ≡ done x w = cc in
          ap paired.comm who
          ∙ upd_other name-test (upd eq_name m.comm oldest (done me value)) oldest me (done oldest value) partner-other
          ∙ upd_same name-test m.comm oldest (done me value)
          ∙ carries
      go (inr (inl e)) =
          let same : done me value ≡ done y w = sym e.1 ∙ h in
          let who : y ≡ me = cc in
          let carries : done oldest value ≡ done x w = cc in
          ap paired.comm who ∙ upd_same name-test (upd eq_name m.comm oldest (done me value)) me (done oldest value) ∙ carries
      go (inr (inr e)) =
          let back : m.comm y ≡ done x w = right.partner-done x y w (sym e.2 ∙ h) in
          unchanged y (other_step m me fresh y (done-posted (m.comm y) x w back))
          (λ k. contrary partner-was.0 (ap (λ (z : Name). is_pending (m.comm z)) (sym k) ∙ done-not-pending (m.comm y) x w back))
          ∙ back

  pub paired-opposite : (x y : Name) (w : ℕ) (p : Port) → paired.comm x ≡ done y w → post_of x ≡ mails p → post_of y ≡ mails (opposite p)
  paired-opposite x y w p h k = go (comm-after x)
    where
      go : After x → post_of y ≡ mails (opposite p)
      go (inl e) =
          let same : done oldest value ≡ done y w = sym e.1 ∙ h in
          let who : y ≡ oldest = cc in
          let port : P ≡ p = one-port (sym posts-there ∙ ap post_of (sym e.0) ∙ k) in
          ap post_of who ∙ partner-was.1 ∙ ap (λ (q : Port). mails (opposite q)) port
      go (inr (inl e)) =
          let same : done me value ≡ done y w = sym e.1 ∙ h in
          let who : y ≡ me = cc in
          let port : opposite P ≡ p = one-port (sym partner-was.1 ∙ ap post_of (sym e.0) ∙ k) in
          ap post_of who ∙ posts-there ∙ ap mails (sym (opposite-opposite P)) ∙ ap (λ (q : Port). mails (opposite q)) port
      go (inr (inr e)) = right.partner-opposite x y w p (sym e.2 ∙ h) k

  -- ---- queues

  -- a port's queue after the pair: what the partner leaves behind it, or as it was
  abbrev Left : Port → Type 0
  Left R = ((R ≡ opposite P) × (paired.waiting R ≡ rest)) ⊎ ((R ≢ opposite P) × (paired.waiting R ≡ m.waiting R))

  queued-pending : (R : Port) (x : Name) → mem x (paired.waiting R) ≡ true → (is_pending (paired.comm x) ≡ true) × (post_of x ≡ mails R)
  queued-pending R x h = go (upd-at port-test m.waiting R (opposite P) rest)
    where
      kept : x ≢ oldest → mem x (m.waiting R) ≡ true → (is_pending (paired.comm x) ≡ true) × (post_of x ≡ mails R)
      kept ne k =
          let old = (right.pending-queued R x).0 k in
          (ap is_pending (unchanged x (other_step m me fresh x (pending-posted (m.comm x) old.0)) ne) ∙ old.0, old.1)

      go : Left R → (is_pending (paired.comm x) ≡ true) × (post_of x ≡ mails R)
      go (inl e) =
          let behind : mem x rest ≡ true = sym (ap (mem x) e.1) ∙ h in
          kept (λ k. contrary behind (ap (λ (z : Name). mem z rest) k ∙ partner-gone))
          (ap (λ (Q : Port). mem x (m.waiting Q)) e.0 ∙ ap (mem x) found ∙ mem-tail x oldest rest behind)
      go (inr e) =
          let there : mem x (m.waiting R) ≡ true = sym (ap (mem x) e.1) ∙ h in
          kept (λ k. e.0 (one-port (sym ((right.pending-queued R x).0 there).1 ∙ ap post_of k ∙ partner-was.1))) there

  pending-queues : (R : Port) (x : Name) → (is_pending (paired.comm x) ≡ true) × (post_of x ≡ mails R) → mem x (paired.waiting R) ≡ true
  pending-queues R x h = go (upd-at port-test m.waiting R (opposite P) rest)
    where
      was : (x ≢ me) × (x ≢ oldest) × (paired.comm x ≡ m.comm x)
      was = pending-was x h.0

      there : mem x (m.waiting R) ≡ true
      there = (right.pending-queued R x).1 (sym (ap is_pending was.2) ∙ h.0, h.1)

      behind : (x ≡ oldest) ⊎ (mem x rest ≡ true) → mem x rest ≡ true
      behind (inl e) = absurd (was.1 e)
      behind (inr k) = k

      go : Left R → mem x (paired.waiting R) ≡ true
      go (inl e) =
          ap (mem x) e.1
          ∙ behind (mem-cases x oldest rest (sym (ap (mem x) found) ∙ ap (λ (Q : Port). mem x (m.waiting Q)) (sym e.0) ∙ there))
      go (inr e) = ap (mem x) e.1 ∙ there

  pub paired-queued : (R : Port) (x : Name) → (mem x (paired.waiting R) ≡ true) ↔ ((is_pending (paired.comm x) ≡ true) × (post_of x ≡ mails R))
  paired-queued R x = (queued-pending R x, pending-queues R x)
