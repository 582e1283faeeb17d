-- The site of a table keeps the laws of the trace theory: positions, lasting readiness, and the diamond of independent steps.
-- Assumes nothing of the table: the laws hold of every list of bytes.
use Prim.Native.Nat.{ℕ, ◌<◌}
use native.Mathlib.Omega.{arith}
use mathlib.Core.Path.{◌≡◌, refl, sym, ◌∙◌, ap}
use mathlib.Core.Logic.{◌⊎◌, inl, inr, ◌≢◌}
use mathlib.Core.Bool.{Bool, true, false, true≢false, not, ◌||◌}
use mathlib.Core.List.{List}
use lib.Dec.{eqb, ltb}
use Rattle.table.specs.declared.Action.{Action}
use Rattle.table.specs.Format.{actors_of}
use Rattle.trace.specs.Machine.{Name}
use Rattle.trace.specs.Laws.{Laws}
use Rattle.trace.specs.Order.{mem}
use Rattle.trace.proofs.Bools.{contrary, both, and_left, and_right, or_left, or_right, or_cases, or-false-left, or-false-right}
use Rattle.model.specs.Site.{upd, Actor, Port, opposite, eq_port, Mail, Entry, Site, name}
use Rattle.model.specs.Views.{Post, silent, mails, joins, leaves, notes, posts, looks, waits, sent, runs_over}
use Rattle.model.specs.Mutex.{queueing}
use Rattle.model.specs.Mail.{mailing}
use Rattle.model.specs.Journal.{noting}
use Rattle.model.specs.Local.{see, is_seen, local}
use Rattle.model.specs.Step.{action_at, next_name, next_action, unfinished, passes, is_taken, next_step, ready, step}
use Rattle.model.specs.Pair.{competes, sees, depends}
use Rattle.model.specs.Schedule.{machine}
use Rattle.model.proofs.Upd.{upd-comm}
use Rattle.model.proofs.Ports.{number-test, port-test, opposite-injective}
use Rattle.model.proofs.PairCases.{depends-symmetric, depends-own}
use Rattle.model.proofs.Queues.{queueing-commutes}
use Rattle.model.proofs.Pairing.{Apart, meet-commutes}
use Rattle.model.proofs.Invariant.{Inv, own-position, others-record, inv-step}
use Rattle.model.proofs.Looks.{still-sees, sees-same}
use Rattle.model.proofs.NextSteps.{taken-lasts}

-- ---- readiness

module _ (table : List ℕ) (a b : ℕ) (ne : a ≢ b) (s : Site) where
  -- a step that need not wait, or finds something, does so after another's
  passes-lasts : (x : Action) → passes table s a x ≡ true → passes table (step table s b) a x ≡ true
  unfolding step
  passes-lasts x h = go (or_cases (not (waits x)) (is_seen (see s a (looks x))) h)
    where
      go : (not (waits x) ≡ true) ⊎ (is_seen (see s a (looks x)) ≡ true) → passes table (step table s b) a x ≡ true
      go (inl q) = or_left (not (waits x)) _ q
      go (inr q) = or_right (not (waits x)) _ (still-sees a b ne s (step table s b).actor (s.actor b).position (sent (next_action table s b) (s.actor b).cells) (step table s b).journal (posts (next_action table s b)) (looks x) q)

  pub ready-lasts : ready table s a ≡ true → ready table (step table s b) a ≡ true
  unfolding ready
  ready-lasts h =
      let in-table : ltb a (actors_of table) ≡ true = and_left _ _ h in
      let rest = and_right (ltb a (actors_of table)) _ h in
      let x : Action = next_action table s a in
      rw (others-record table s a b ne)
      (both in-table
      (both (and_left (unfinished table s a) _ rest)
      (taken-lasts (runs_over x (s.actor a).cells) (passes table s a x) (passes table (step table s b) a x) (passes-lasts x)
      (and_right (unfinished table s a) (is_taken (next_step table s a)) rest))))

-- an actor whose record and look are the same in two states is ready in both or in neither
ready-same : (table : List ℕ) (s t : Site) (a : ℕ) → t.actor a ≡ s.actor a
    → see t a (looks (next_action table s a)) ≡ see s a (looks (next_action table s a)) → ready table t a ≡ ready table s a
unfolding ready
ready-same table s t a e v = rw (e, v)

-- ---- two steps

module _ (table : List ℕ) (s : Site) where
  -- the record that an actor's next step leaves
  abbrev record_after : ℕ → Actor
  record_after a = local (λ k. action_at table (name a k)) (next_action table s a) (see s a (looks (next_action table s a))) (s.actor a)

  abbrev sent_by : ℕ → ℕ
  sent_by a = sent (next_action table s a) (s.actor a).cells

  -- a step in another state where the actor's record and look are the same
  step_in : (t : Site) (a : ℕ) → t.actor a ≡ s.actor a → see t a (looks (next_action table s a)) ≡ see s a (looks (next_action table s a))
      → step table t a
      ≡ record {
        actor = upd eqb t.actor a (record_after a);
        mail = mailing (posts (next_action table s a)) (next_name table s a) (sent_by a) t.mail;
        queue = queueing (posts (next_action table s a)) a t.queue;
        journal = noting (posts (next_action table s a)) (next_name table s a) (sent_by a) t.journal;
      }
  unfolding step
  step_in t a e v = rw (e, v)

-- posts that do not compete, of steps and pending steps of different names
mailing-commutes : (p q : Post) (x y : Name) (v w : ℕ) (m : Mail) → competes p q ≡ false
    → ((P Q : Port) → p ≡ mails P → q ≡ mails Q → P ≢ Q → Apart x y (m.waiting (opposite P)) (m.waiting (opposite Q)))
    → mailing q y w (mailing p x v m) ≡ mailing p x v (mailing q y w m)
mailing-commutes silent q x y v w m h f = refl
mailing-commutes (mails P) silent x y v w m h f = refl
mailing-commutes (mails P) (mails Q) x y v w m h f =
    let ne : P ≢ Q = λ e. contrary (ap (eq_port Q) e ∙ port-test.same Q) h in
    meet-commutes P Q x y v w m ne (f P Q refl refl ne)
mailing-commutes (mails P) (joins n) x y v w m h f = refl
mailing-commutes (mails P) (leaves n) x y v w m h f = refl
mailing-commutes (mails P) notes x y v w m h f = refl
mailing-commutes (joins n) q x y v w m h f = refl
mailing-commutes (leaves n) q x y v w m h f = refl
mailing-commutes notes q x y v w m h f = refl

noting-commutes : (p q : Post) (x y : Name) (v w : ℕ) (j : List Entry) → competes p q ≡ false
    → noting q y w (noting p x v j) ≡ noting p x v (noting q y w j)
noting-commutes silent q x y v w j h = refl
noting-commutes (mails P) q x y v w j h = refl
noting-commutes (joins m) q x y v w j h = refl
noting-commutes (leaves m) q x y v w j h = refl
noting-commutes notes silent x y v w j h = refl
noting-commutes notes (mails P) x y v w j h = refl
noting-commutes notes (joins m) x y v w j h = refl
noting-commutes notes (leaves m) x y v w j h = refl
noting-commutes notes notes x y v w j h = absurd (true≢false h)

module _ (table : List ℕ) (a b : ℕ) (ne : a ≢ b) (s : Site) (i : Inv table s) where
  -- a pending step is not the next one of any actor: it lies below
  not-next : (P : Port) (z : Name) (c : ℕ) → mem z (s.mail.waiting P) ≡ true → z ≢ next_name table s c
  not-next P z c m e =
      let low : z.position < (s.actor z.actor).position = i.below P z m in
      let same : (s.actor z.actor).position ≡ z.position =
      ap (λ (x : Name). (s.actor x.actor).position) e ∙ sym (ap (λ (x : Name). x.position) e) in
      omega arith

  names_apart : (P Q : Port) → P ≢ Q → Apart (next_name table s a) (next_name table s b) (s.mail.waiting (opposite P)) (s.mail.waiting (opposite Q))
  names_apart P Q pq =
      record {
        steps = λ e. ne (ap (λ (x : Name). x.actor) e);
        first = λ z m. not-next (opposite P) z b m;
        second = λ z m. not-next (opposite Q) z a m;
        queued = λ z t hz ht e. pq (opposite-injective P Q (one-port z t e (i.posted (opposite P) z hz) (i.posted (opposite Q) t ht)));
      }
    where
      one-port : (z t : Name) → z ≡ t → posts (action_at table z) ≡ mails (opposite P) → posts (action_at table t) ≡ mails (opposite Q)
          → opposite P ≡ opposite Q
      one-port z t e p q = injective (sym p ∙ ap (λ (x : Name). posts (action_at table x)) e ∙ q)
        where
          injective : {A B : Port} → mails A ≡ mails B → A ≡ B
          injective h = cc

  -- the other's look after this step, where it does not meet what this step posts
  look-same : sees table (next_name table s b) (next_name table s a) ≡ false
      → see (step table s a) b (looks (next_action table s b)) ≡ see s b (looks (next_action table s b))
  unfolding step
  look-same h =
      sees-same b a (λ e. ne (sym e)) s (step table s a).actor (s.actor a).position (sent (next_action table s a) (s.actor a).cells) (step table s a).journal table i (posts (next_action table s a)) (looks (next_action table s b)) h

-- both orders of two independent steps end in one state
module _ (table : List ℕ) (a b : ℕ) (ne : a ≢ b) (s : Site) (i : Inv table s) where
  orders-agree : competes (posts (next_action table s a)) (posts (next_action table s b)) ≡ false
      → see (step table s a) b (looks (next_action table s b)) ≡ see s b (looks (next_action table s b))
      → see (step table s b) a (looks (next_action table s a)) ≡ see s a (looks (next_action table s a))
      → step table (step table s a) b ≡ step table (step table s b) a
  unfolding step
  orders-agree c vb va =
      step_in table s (step table s a) b (others-record table s b a (λ e. ne (sym e))) vb
      ∙ (λ j.
      record {
        actor = upd-comm number-test s.actor a b (record_after table s a) (record_after table s b) ne j;
        mail =
            mailing-commutes (posts (next_action table s a)) (posts (next_action table s b)) (next_name table s a) (next_name table s b) (sent_by table s a) (sent_by table s b)
            s.mail
            c
            (λ P Q p q pq. names_apart table a b ne s i P Q pq)
            j;
        queue = queueing-commutes (posts (next_action table s a)) (posts (next_action table s b)) a b s.queue ne c j;
        journal =
            noting-commutes (posts (next_action table s a)) (posts (next_action table s b)) (next_name table s a) (next_name table s b) (sent_by table s a) (sent_by table s b)
            s.journal
            c
            j;
      })
      ∙ sym (step_in table s (step table s b) a (others-record table s a b ne) va)

  pub diamond : ready table s a ≡ true → ready table (step table s a) b ≡ true
      → depends table (next_name table s a) (next_name table s b) ≡ false
      → (ready table s b ≡ true) × (step table (step table s a) b ≡ step table (step table s b) a)
  unfolding depends
  diamond ra rb d =
      let x : Name = next_name table s a in
      let y : Name = next_name table s b in
      let compete : Bool = competes (posts (action_at table x)) (posts (action_at table y)) in
      let meeting : (compete || (sees table x y || sees table y x)) ≡ false = or-false-right (eqb a b) _ d in
      let looking : (sees table x y || sees table y x) ≡ false = or-false-right compete _ meeting in
      let vb = look-same table a b ne s i (or-false-right (sees table x y) (sees table y x) looking) in
      let va = look-same table b a (λ e. ne (sym e)) s i (or-false-left (sees table x y) (sees table y x) looking) in (
        sym (ready-same table s (step table s a) b (others-record table s b a (λ e. ne (sym e))) vb) ∙ rb,
        orders-agree (or-false-left compete _ meeting) vb va,
      )

pub laws : (table : List ℕ) → Laws (machine table) (Inv table)
laws table =
    record {
      inv-step = λ s a i r. inv-step table s a i;
      pos-own = λ s a i r. omega (arith, own-position table s a);
      pos-other = λ s a b i ne r. ap (λ (r : Actor). r.position) (others-record table s a b ne);
      persist = λ s a b i ne ra rb. ready-lasts table a b ne s ra;
      dep-sym = depends-symmetric table;
      dep-own = depends-own table;
      diamond = λ s a b i ne ra rb d. diamond table a b ne s i ra rb d;
    }
