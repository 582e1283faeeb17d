-- The communications: a store of a number is one communication changed, and what the numbers stand for.
-- Assumes nothing.
use Prim.Native.Nat.{ℕ, ◌+◌, ◌*◌, ◌/◌, ◌%◌, ◌<◌}
use native.Mathlib.Omega.{arith}
use mathlib.Core.Path.{◌≡◌, ◌∙◌, ap}
use mathlib.Core.Logic.{◌⊎◌, inl, inr, ◌≢◌}
use mathlib.Core.Bool.{true, false, cond}
use mathlib.Core.List.{List}
use borrow.Author.Tests.{ltb-true, lt-ltb, eq-eqb, ne_eqb}
use lib.Dec.{eqb, ltb}
use lib.ListN.{length, get_or, set, length-set}
use lib.Seq.{get_or-set_same, get_or-set_other}
use Rattle.trace.specs.Machine.{Name}
use Rattle.trace.specs.Order.{eq_name}
use Rattle.trace.proofs.Bools.{which}
use Rattle.model.specs.Site.{upd, Comm, pending, done}
use Rattle.model.specs.Mail.{carried}
use Rattle.model.proofs.Ports.{name-test}
use Rattle.names.specs.InByte.{name_of}
use Rattle.state.specs.State.{comm_of, comms_of}
use Rattle.mail.specs.Parts.{pending_code, done_code, paired}
use Rattle.mail.proofs.Changes.{changed-at}

-- a name is that of its number
named : (x : Name) (j : ℕ) → x.position < 32 → 32 * x.actor + x.position ≡ j → x ≡ name_of j
named x j h e =
    let a : x.actor ≡ j / 32 = omega arith in
    let p : x.position ≡ j % 32 = omega arith in
    λ i. record { actor = a i; position = p i }

-- a number's name has that number
numbered : (comms : List ℕ) (j : ℕ) → comms_of comms (name_of j) ≡ comm_of (get_or comms j 0)
numbered comms j =
    let e : 32 * (j / 32) + j % 32 ≡ j = omega arith in
    rw (lt-ltb (j % 32) 32 (omega arith)) (ap (λ (k : ℕ). comm_of (get_or comms k 0)) e)

pub comm-changed : (comms : List ℕ) (j c : ℕ) → j < length comms → comms_of (set comms j c) ≡ upd eq_name (comms_of comms) (name_of j) (comm_of c)
comm-changed comms j c h = changed-at name-test (comms_of comms) (comms_of (set comms j c)) (name_of j) (comm_of c) own other
  where
    own : comms_of (set comms j c) (name_of j) ≡ comm_of c
    own = numbered (set comms j c) j ∙ ap comm_of (get_or-set_same comms j c 0 h)

    other : (x : Name) → x ≢ name_of j → comms_of (set comms j c) x ≡ comms_of comms x
    other x ne = go (which (ltb x.position 32))
      where
        go : (ltb x.position 32 ≡ true) ⊎ (ltb x.position 32 ≡ false) → comms_of (set comms j c) x ≡ comms_of comms x
        go (inl t) =
            rw t
            (ap comm_of
            (get_or-set_other comms j (32 * x.actor + x.position) c 0 (λ e. ne (named x j (ltb-true x.position 32 t) e))))
        go (inr f) = rw f

-- a number's mark, its remainder by 4, says which communication it stands for
marked-pending : (c v : ℕ) → c % 4 ≡ 1 → c / 1024 ≡ v → comm_of c ≡ pending v
marked-pending c v r d =
    let n : eqb (c % 4) 0 ≡ false = ne_eqb (c % 4) 0 (λ z. omega arith) in
    rw (n, eq-eqb _ _ r) (ap pending d)

marked-done : (c p v : ℕ) → c % 4 ≡ 2 → c / 4 % 256 ≡ p → c / 1024 ≡ v → comm_of c ≡ done (name_of p) v
marked-done c p v r e d =
    let n : eqb (c % 4) 0 ≡ false = ne_eqb (c % 4) 0 (λ z. omega arith) in
    let o : eqb (c % 4) 1 ≡ false = ne_eqb (c % 4) 1 (λ z. omega arith) in
    rw (n, o) (ap (λ (k : ℕ). done (name_of k) (c / 1024)) e ∙ ap (done (name_of p)) d)

pub pending-code : (v : ℕ) → comm_of (pending_code v) ≡ pending v
pending-code v = marked-pending (pending_code v) v (omega arith) (omega arith)

pub done-code : (p v : ℕ) → p < 256 → comm_of (done_code p v) ≡ done (name_of p) v
done-code p v h = marked-done (done_code p v) p v (omega arith) (omega arith) (omega arith)

-- a step joins: its communication is pending
pub joined : (comms : List ℕ) (me v : ℕ) → me < length comms
    → comms_of (set comms me (pending_code v)) ≡ upd eq_name (comms_of comms) (name_of me) (pending v)
joined comms me v h =
    comm-changed comms me (pending_code v) h ∙ ap (upd eq_name (comms_of comms) (name_of me)) (pending-code v)

-- a step pairs with another: both communications are done
pub both-done : (comms : List ℕ) (me other v : ℕ) → length comms ≡ 256 → me < 256 → other < 256
    → comms_of (paired comms me other v)
    ≡ upd eq_name (upd eq_name (comms_of comms) (name_of other) (done (name_of me) v)) (name_of me) (done (name_of other) v)
both-done comms me other v e hm ho =
    let first : List ℕ = set comms other (done_code me v) in
    comm-changed first me (done_code other v) (omega (arith, length-set comms other (done_code me v)))
    ∙ ap (λ (f : Name → Comm). upd eq_name f (name_of me) (comm_of (done_code other v))) (comm-changed comms other (done_code me v) (omega arith))
    ∙ ap (λ (c : Comm). upd eq_name (upd eq_name (comms_of comms) (name_of other) (comm_of (done_code me v))) (name_of me) c) (done-code other v ho)
    ∙ ap (λ (c : Comm). upd eq_name (upd eq_name (comms_of comms) (name_of other) c) (name_of me) (done (name_of other) v)) (done-code me v hm)

-- the value that a communication carries is that of its number
pub carried-at : (comms : List ℕ) (j : ℕ) → carried (comms_of comms (name_of j)) ≡ carried (comm_of (get_or comms j 0))
carried-at comms j = ap carried (numbered comms j)

pub carried_none : (c : ℕ) → c % 4 ≡ 0 → carried (comm_of c) ≡ 0
carried_none c r = rw (eq-eqb (c % 4) 0 r)

pub carried_some : (c : ℕ) → (c % 4 ≡ 0 → ⊥) → carried (comm_of c) ≡ c / 1024
carried_some c n = rw (ne_eqb (c % 4) 0 n) (go (which (eqb (c % 4) 1)))
  where
    go : (eqb (c % 4) 1 ≡ true) ⊎ (eqb (c % 4) 1 ≡ false)
        → carried (cond (eqb (c % 4) 1) (pending (c / 1024)) (done (name_of (c / 4 % 256)) (c / 1024))) ≡ c / 1024
    go (inl t) = rw t
    go (inr f) = rw f
