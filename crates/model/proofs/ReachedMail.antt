-- The mail stays right when a step that was not posted yet posts, and then this step is posted too and no other is more or less so.
-- Assumes nothing.
use Prim.Native.Nat.{ℕ}
use mathlib.Core.Path.{◌≡◌, refl, sym, ◌∙◌, ap}
use mathlib.Core.Logic.{◌⊎◌, inl, inr, ◌≢◌}
use mathlib.Core.Bool.{true, false, true≢false}
use mathlib.Core.List.{List, [], ◌∷◌}
use Rattle.table.specs.declared.Action.{Action}
use Rattle.table.specs.Promise.{is_communication}
use Rattle.trace.specs.Machine.{Name}
use Rattle.trace.specs.Order.{eq_name, mem}
use Rattle.trace.proofs.Bools.{contrary, is_false}
use Rattle.trace.proofs.Names.{mem-head}
use Rattle.model.specs.Site.{upd, sends, receives, eq_side, Port, opposite, Comm, unposted, pending, done, Mail}
use Rattle.model.specs.Views.{Post, silent, mails, joins, leaves, notes, posts, sent}
use Rattle.model.specs.Mail.{meet_with, mailing}
use Rattle.model.specs.Pair.{is_note}
use Rattle.model.specs.Reached.{is_posted, is_pending, MailRight}
use Rattle.model.proofs.Upd.{upd_same, upd_other, upd-at}
use Rattle.model.proofs.Ports.{name-test}
use Rattle.model.proofs.ByKind.{Posting, quiet, sends-to, receives-from, locks, unlocks, writes_down, posting}
use Rattle.model.proofs.ReportBoundMail.{meeting-distinct, meeting-one-sided}
use Rattle.model.proofs.ReachedQueued.{pending-posted, one-port, joined-zero, joined-done, joined-opposite, joined-queued}
use Rattle.model.proofs.ReachedPaired.{paired-zero, paired-done, paired-opposite, paired-queued}

-- a Receive keeps 0
pub receive-sends-zero : (x : Action) (cells : List ℕ) (mailbox : ℕ) → posts x ≡ mails (record { mailbox = mailbox; side = receives }) → sent x cells ≡ 0
receive-sends-zero x cells mailbox h = go (posting x)
  where
    go : Posting x → sent x cells ≡ 0
    go (quiet q) = q.sends_none cells
    go (sends-to m c e) = absurd (true≢false (ap (λ (p : Port). eq_side p.side sends) (one-port (sym (ap posts e) ∙ h))))
    go (receives-from m c e) = rw e
    go (locks m e) = rw e
    go (unlocks m e) = rw e
    go (writes_down c e) = absurd (true≢false (ap is_note (sym (ap posts e) ∙ h)))

-- ---- the mail stays right

module _ (post_of : Name → Post) (me : Name) (v : ℕ) (m : Mail) (fresh : m.comm me ≡ unposted) (right : MailRight post_of m) where
  -- an unposted step stands in no queue
  not-queued : (R : Port) → mem me (m.waiting R) ≡ false
  not-queued R = is_false _ (λ h. contrary ((right.pending-queued R me).0 h).0 (ap is_pending fresh))

  meeting-right : (P : Port) → post_of me ≡ mails P → ((mailbox : ℕ) → P ≡ record { mailbox = mailbox; side = receives } → v ≡ 0)
      → (l : List Name) → m.waiting (opposite P) ≡ l → MailRight post_of (meet_with l P me v m)
  meeting-right P posts-there zero [] none =
      record {
        receive-zero = joined-zero post_of P me v m posts-there fresh right zero;
        partner-done = joined-done post_of P me v m posts-there fresh right;
        partner-opposite = joined-opposite post_of P me v m posts-there fresh right;
        pending-queued = joined-queued post_of P me v m posts-there fresh right none;
        pending-once = meeting-distinct [] P me v m none right.pending-once (not-queued P);
        one-sided = meeting-one-sided [] P me v m none right.one-sided;
      }
  meeting-right P posts-there zero (y ∷ l) found =
      record {
        receive-zero = paired-zero post_of P me v m posts-there fresh right y l found;
        partner-done = paired-done post_of P me v m posts-there fresh right y l found;
        partner-opposite = paired-opposite post_of P me v m posts-there fresh right y l found;
        pending-queued = paired-queued post_of P me v m posts-there fresh right y l found;
        pending-once = meeting-distinct (y ∷ l) P me v m found right.pending-once (not-queued P);
        one-sided = meeting-one-sided (y ∷ l) P me v m found right.one-sided;
      }

  pub mailing-right : (p : Post) → post_of me ≡ p → ((mailbox : ℕ) → p ≡ mails (record { mailbox = mailbox; side = receives }) → v ≡ 0)
      → MailRight post_of (mailing p me v m)
  mailing-right silent posts-there zero = right
  mailing-right (mails P) posts-there zero = meeting-right P posts-there (λ mailbox e. zero mailbox (ap mails e)) (m.waiting (opposite P)) refl
  mailing-right (joins n) posts-there zero = right
  mailing-right (leaves n) posts-there zero = right
  mailing-right notes posts-there zero = right

-- ---- which steps are posted

-- this one
meeting-posts : (l : List Name) (P : Port) (me : Name) (v : ℕ) (m : Mail) → is_posted ((meet_with l P me v m).comm me) ≡ true
meeting-posts [] P me v m = ap is_posted (upd_same name-test m.comm me (pending v))
meeting-posts (y ∷ l) P me v m = ap is_posted (upd_same name-test (upd eq_name m.comm y (done me _)) me (done y _))

pub own-posted : (x : Action) (me : Name) (v : ℕ) (m : Mail) → m.comm me ≡ unposted → is_posted ((mailing (posts x) me v m).comm me) ≡ is_communication x
own-posted x me v m fresh = go (posting x)
  where
    go : Posting x → is_posted ((mailing (posts x) me v m).comm me) ≡ is_communication x
    go (quiet q) = rw (q.posts-none, q.no-post) (ap is_posted fresh)
    go (sends-to mailbox c e) = rw e (meeting-posts (m.waiting _) _ me v m)
    go (receives-from mailbox c e) = rw e (meeting-posts (m.waiting _) _ me v m)
    go (locks n e) = rw e (ap is_posted fresh)
    go (unlocks n e) = rw e (ap is_posted fresh)
    go (writes_down c e) = rw e (ap is_posted fresh)

-- and any other as before: a partner was posted too
meeting-others : (l : List Name) (P : Port) (me x : Name) (v : ℕ) (m : Mail) → x ≢ me → ((y : Name) → mem y l ≡ true → is_posted (m.comm y) ≡ true)
    → is_posted ((meet_with l P me v m).comm x) ≡ is_posted (m.comm x)
meeting-others [] P me x v m ne h = ap is_posted (upd_other name-test m.comm x me (pending v) ne)
meeting-others (y ∷ l) P me x v m ne h =
    ap is_posted (upd_other name-test (upd eq_name m.comm y (done me _)) x me (done y _) ne) ∙ go (upd-at name-test m.comm x y (done me _))
  where
    go : {c : Comm} {w : ℕ} → ((x ≡ y) × (c ≡ done me w)) ⊎ ((x ≢ y) × (c ≡ m.comm x)) → is_posted c ≡ is_posted (m.comm x)
    go (inl e) = ap is_posted e.1 ∙ sym (ap (λ (z : Name). is_posted (m.comm z)) e.0 ∙ h y (mem-head y l))
    go (inr e) = ap is_posted e.1

pub others-posted : (post_of : Name → Post) (p : Post) (me x : Name) (v : ℕ) (m : Mail) → x ≢ me → MailRight post_of m
    → is_posted ((mailing p me v m).comm x) ≡ is_posted (m.comm x)
others-posted post_of silent me x v m ne right = refl
others-posted post_of (mails P) me x v m ne right =
    meeting-others (m.waiting (opposite P)) P me x v m ne (λ y h. pending-posted (m.comm y) ((right.pending-queued (opposite P) y).0 h).0)
others-posted post_of (joins n) me x v m ne right = refl
others-posted post_of (leaves n) me x v m ne right = refl
others-posted post_of notes me x v m ne right = refl
