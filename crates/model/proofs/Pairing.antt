-- Two posts to different ports commute. Steps on one side of a mailbox compete for its order, and are excluded; a Send and a Receive on one mailbox
-- are not: that is the case with both sides empty, where whichever comes second pairs with the first.
-- Assumes nothing.
use Prim.Native.Nat.{ℕ}
use mathlib.Core.Path.{◌≡◌, refl, sym, ◌∙◌, ap}
use mathlib.Core.Logic.{◌⊎◌, inl, inr, ◌≢◌}
use mathlib.Core.Bool.{true, false}
use mathlib.Core.List.{List, [], ◌∷◌}
use Rattle.trace.specs.Machine.{Name}
use Rattle.trace.specs.Order.{eq_name, mem}
use Rattle.trace.proofs.Bools.{which, contrary}
use Rattle.trace.proofs.Names.{mem-head}
use Rattle.model.specs.Site.{upd, Side, sends, receives, other_side, Port, opposite, eq_port, Comm, pending, done, Mail}
use Rattle.model.specs.Mail.{carried, pair_value, at_end, meet_with, meet}
use Rattle.model.proofs.Upd.{upd_same, upd_other, upd-comm, upd-upd, upd-self, upd-past-two, upd-two-past-two}
use Rattle.model.proofs.Ports.{name-test, port-test, opposite-opposite, opposite-apart, opposite-injective}

-- what keeps the names apart: step x finds l pending, step y finds k
pub record Apart (x y : Name) (l k : List Name) : Type 0 where
  pub steps : x ≢ y
  pub first : (z : Name) → mem z l ≡ true → z ≢ y
  pub second : (z : Name) → mem z k ≡ true → z ≢ x
  pub queued : (z t : Name) → mem z l ≡ true → mem t k ≡ true → z ≢ t

pub apart-swap : (x y : Name) (l k : List Name) → Apart x y l k → Apart y x k l
apart-swap x y l k h =
    record {
      steps = λ e. h.steps (sym e);
      first = h.second;
      second = h.first;
      queued = λ z t hz ht e. h.queued t z ht hz (sym e);
    }

module _ (P Q : Port) (x y : Name) (v w : ℕ) (m : Mail) where
  -- the communications after both, for what each finds pending
  comms-commute : (l k : List Name) → Apart x y l k
      → (meet_with k Q y w (meet_with l P x v m)).comm ≡ (meet_with l P x v (meet_with k Q y w m)).comm
  comms-commute [] [] h = upd-comm name-test m.comm x y (pending v) (pending w) h.steps
  comms-commute (z ∷ l) [] h =
      let zy : z ≢ y = h.first z (mem-head z l) in
      rw (upd_other name-test m.comm z y (pending w) zy) (upd-past-two name-test m.comm z x y _ _ (pending w) zy h.steps)
  comms-commute [] (t ∷ k) h =
      let tx : t ≢ x = h.second t (mem-head t k) in
      rw (upd_other name-test m.comm t x (pending v) tx)
      (sym (upd-past-two name-test m.comm t y x _ _ (pending v) tx (λ e. h.steps (sym e))))
  comms-commute (z ∷ l) (t ∷ k) h =
      let c : Name → Comm = m.comm in
      let zy : z ≢ y = h.first z (mem-head z l) in
      let tx : t ≢ x = h.second t (mem-head t k) in
      let zt : z ≢ t = h.queued z t (mem-head z l) (mem-head t k) in
      let p : ℕ = pair_value P.side v (carried (c z)) in
      let q : ℕ = pair_value Q.side w (carried (c t)) in
      let et : upd eq_name (upd eq_name c z (done x p)) x (done z p) t ≡ c t =
      upd_other name-test (upd eq_name c z (done x p)) t x (done z p) tx ∙ upd_other name-test c t z (done x p) (λ e. zt (sym e)) in
      let ez : upd eq_name (upd eq_name c t (done y q)) y (done t q) z ≡ c z =
      upd_other name-test (upd eq_name c t (done y q)) z y (done t q) zy ∙ upd_other name-test c z t (done y q) zt in
      rw (et, ez)
      (upd-two-past-two name-test c z x t y (done x p) (done z p) (done y q) (done t q) zt (λ e. tx (sym e)) zy h.steps)

  -- the pending names after both, where the ports are of different mailboxes
  waits-commute : (l k : List Name) → P ≢ Q → Q ≢ opposite P
      → (meet_with k Q y w (meet_with l P x v m)).waiting ≡ (meet_with l P x v (meet_with k Q y w m)).waiting
  waits-commute [] [] pq qp =
      rw (upd_other port-test m.waiting Q P (at_end (m.waiting P) x) (λ e. pq (sym e)), upd_other port-test m.waiting P Q (at_end (m.waiting Q) y) pq)
      (upd-comm port-test m.waiting P Q (at_end (m.waiting P) x) (at_end (m.waiting Q) y) pq)
  waits-commute (z ∷ l) [] pq qp =
      rw (upd_other port-test m.waiting Q (opposite P) l qp)
      (upd-comm port-test m.waiting (opposite P) Q l (at_end (m.waiting Q) y) (λ e. qp (sym e)))
  waits-commute [] (t ∷ k) pq qp =
      let po : P ≢ opposite Q = λ e. qp (sym (opposite-opposite Q) ∙ ap opposite (sym e)) in
      rw (upd_other port-test m.waiting P (opposite Q) k po)
      (upd-comm port-test m.waiting P (opposite Q) (at_end (m.waiting P) x) k po)
  waits-commute (z ∷ l) (t ∷ k) pq qp =
      upd-comm port-test m.waiting (opposite P) (opposite Q) l k (λ e. pq (opposite-injective P Q e))

  -- a meeting changes what is pending on its own mailbox only
  pub meet-elsewhere : (l : List Name) (R : Port) → R ≢ P → R ≢ opposite P → (meet_with l P x v m).waiting R ≡ m.waiting R
  meet-elsewhere [] R rp ro = upd_other port-test m.waiting R P (at_end (m.waiting P) x) rp
  meet-elsewhere (z ∷ l) R rp ro = upd_other port-test m.waiting R (opposite P) l ro

-- two meetings, for what each finds pending in its turn
two-meetings : (P Q : Port) (x y : Name) (v w : ℕ) (m : Mail) (l k : List Name) → m.waiting (opposite P) ≡ l
    → (meet_with l P x v m).waiting (opposite Q) ≡ k → meet Q y w (meet P x v m) ≡ meet_with k Q y w (meet_with l P x v m)
two-meetings P Q x y v w m l k el ek =
    ap (λ (r : List Name). meet Q y w (meet_with r P x v m)) el ∙ ap (λ (r : List Name). meet_with r Q y w (meet_with l P x v m)) ek

-- of different mailboxes
mailboxes-apart : (P Q : Port) (x y : Name) (v w : ℕ) (m : Mail) → P ≢ Q → Q ≢ opposite P
    → Apart x y (m.waiting (opposite P)) (m.waiting (opposite Q)) → meet Q y w (meet P x v m) ≡ meet P x v (meet Q y w m)
mailboxes-apart P Q x y v w m pq qp h =
    let l : List Name = m.waiting (opposite P) in
    let k : List Name = m.waiting (opposite Q) in
    let po : P ≢ opposite Q = λ e. qp (sym (opposite-opposite Q) ∙ ap opposite (sym e)) in
    let oo : opposite P ≢ opposite Q = λ e. pq (opposite-injective P Q e) in
    two-meetings P Q x y v w m l k refl (meet-elsewhere P Q x y v w m l (opposite Q) (λ e. po (sym e)) (λ e. oo (sym e)))
    ∙ (λ i. record { comm = comms-commute P Q x y v w m l k h i; waiting = waits-commute P Q x y v w m l k pq qp i })
    ∙ sym (two-meetings Q P y x w v m k l refl (meet-elsewhere Q P y x w v m k (opposite P) (λ e. qp (sym e)) oo))

-- the pair's value is the Send's, whichever of the two comes second
values_agree : (d : Side) (v w : ℕ) → pair_value (other_side d) w v ≡ pair_value d v w
values_agree sends v w = refl
values_agree receives v w = refl

-- of one mailbox: Q is the opposite of P
module _ (P Q : Port) (x y : Name) (v w : ℕ) (m : Mail) (hq : opposite P ≡ Q) (hp : opposite Q ≡ P) where
  ports-differ : P ≢ Q
  ports-differ e = opposite-apart P (e ∙ sym hq)

  -- steps are pending on both sides: each pairs with the oldest that it finds
  both-wait : (z t : Name) (l k : List Name) → m.waiting (opposite P) ≡ z ∷ l → m.waiting (opposite Q) ≡ t ∷ k → Apart x y (z ∷ l) (t ∷ k)
      → meet Q y w (meet P x v m) ≡ meet P x v (meet Q y w m)
  both-wait z t l k el ek h =
      let oo : opposite P ≢ opposite Q = λ e. ports-differ (opposite-injective P Q e) in
      two-meetings P Q x y v w m (z ∷ l) (t ∷ k) el (upd_other port-test m.waiting (opposite Q) (opposite P) l (λ e. oo (sym e)) ∙ ek)
      ∙ (λ i.
      record {
        comm = comms-commute P Q x y v w m (z ∷ l) (t ∷ k) h i;
        waiting = upd-comm port-test m.waiting (opposite P) (opposite Q) l k oo i;
      })
      ∙ sym (two-meetings Q P y x w v m (t ∷ k) (z ∷ l) ek (upd_other port-test m.waiting (opposite P) (opposite Q) k oo ∙ el))

  -- steps are pending on y's side alone: x pairs with the oldest, y joins the end
  one-waits : (z : Name) (l : List Name) → m.waiting (opposite P) ≡ z ∷ l → m.waiting (opposite Q) ≡ [] → Apart x y (z ∷ l) []
      → meet Q y w (meet P x v m) ≡ meet P x v (meet Q y w m)
  one-waits z l el ek h =
      let W : Port → List Name = m.waiting in
      let oo : opposite Q ≢ opposite P = λ e. ports-differ (sym (opposite-injective Q P e)) in
      let joined : upd eq_port W Q (at_end (W Q) y) (opposite P) ≡ z ∷ (at_end l y) =
      ap (upd eq_port W Q (at_end (W Q) y)) hq ∙ upd_same port-test W Q (at_end (W Q) y) ∙ ap (λ (r : List Name). at_end r y) (ap W (sym hq) ∙ el) in
      let left : upd eq_port (upd eq_port W (opposite P) l) Q (at_end (upd eq_port W (opposite P) l Q) y) ≡ upd eq_port W Q (at_end l y) =
      ap (λ (p : Port). upd eq_port (upd eq_port W p l) Q (at_end (upd eq_port W p l Q) y)) hq
      ∙ ap (λ (r : List Name). upd eq_port (upd eq_port W Q l) Q (at_end r y)) (upd_same port-test W Q l)
      ∙ upd-upd port-test W Q l (at_end l y) in
      let right : upd eq_port (upd eq_port W Q (at_end (W Q) y)) (opposite P) (at_end l y) ≡ upd eq_port W Q (at_end l y) =
      rw hq (upd-upd port-test W Q (at_end (W Q) y) (at_end l y)) in
      two-meetings P Q x y v w m (z ∷ l) [] el (upd_other port-test W (opposite Q) (opposite P) l oo ∙ ek)
      ∙ (λ i. record { comm = comms-commute P Q x y v w m (z ∷ l) [] h i; waiting = (left ∙ sym right) i })
      ∙ sym (two-meetings Q P y x w v m [] (z ∷ (at_end l y)) ek joined)

  -- x joins an empty mailbox, and y pairs with it
  joined-then-paired : m.waiting (opposite P) ≡ [] → m.waiting (opposite Q) ≡ []
      → meet Q y w (meet P x v m)
      ≡ record {
        comm =
            upd eq_name (upd eq_name m.comm x (done y (pair_value P.side v w))) y (done x (pair_value P.side v w));
        waiting = m.waiting;
      }
  joined-then-paired el ek =
      let W : Port → List Name = m.waiting in
      let c : Name → Comm = m.comm in
      let value : ℕ = pair_value P.side v w in
      let none : W P ≡ [] = ap W (sym hp) ∙ ek in
      let found : upd eq_port W P (at_end (W P) x) (opposite Q) ≡ x ∷ [] =
      ap (upd eq_port W P (at_end (W P) x)) hp ∙ upd_same port-test W P (at_end (W P) x) ∙ ap (λ (r : List Name). at_end r x) none in
      let val : pair_value Q.side w (carried (upd eq_name c x (pending v) x)) ≡ value =
      rw (upd_same name-test c x (pending v), ← hq) (values_agree P.side v w) in
      let gone : upd eq_port (upd eq_port W P (at_end (W P) x)) (opposite Q) [] ≡ W =
      rw hp (upd-upd port-test W P (at_end (W P) x) [] ∙ upd-self port-test W P [] none) in
      let paired : upd eq_name (upd eq_name (upd eq_name c x (pending v)) x (done y value)) y (done x value)
      ≡ upd eq_name (upd eq_name c x (done y value)) y (done x value) =
      ap (λ (f : Name → Comm). upd eq_name f y (done x value)) (upd-upd name-test c x (pending v) (done y value)) in
      two-meetings P Q x y v w m [] (x ∷ []) el found ∙ rw val (λ i. record { comm = paired i; waiting = gone i })

one-mailbox : (P Q : Port) (x y : Name) (v w : ℕ) (m : Mail) → opposite P ≡ Q → opposite Q ≡ P → (l k : List Name) → m.waiting (opposite P) ≡ l
    → m.waiting (opposite Q) ≡ k → Apart x y l k → meet Q y w (meet P x v m) ≡ meet P x v (meet Q y w m)
one-mailbox P Q x y v w m hq hp [] [] el ek h =
    let value : ℕ = pair_value P.side v w in
    let agree : pair_value Q.side w v ≡ value = ap (λ (p : Port). pair_value p.side w v) (sym hq) ∙ values_agree P.side v w in
    joined-then-paired P Q x y v w m hq hp el ek
    ∙ (λ i. record { comm = upd-comm name-test m.comm x y (done y value) (done x value) h.steps i; waiting = m.waiting })
    ∙ sym (joined-then-paired Q P y x w v m hp hq ek el ∙ rw agree refl)
one-mailbox P Q x y v w m hq hp (z ∷ l) [] el ek h = one-waits P Q x y v w m hq hp z l el ek h
one-mailbox P Q x y v w m hq hp [] (t ∷ k) el ek h = sym (one-waits Q P y x w v m hp hq t k ek el (apart-swap x y [] (t ∷ k) h))
one-mailbox P Q x y v w m hq hp (z ∷ l) (t ∷ k) el ek h = both-wait P Q x y v w m hq hp z t l k el ek h

-- two posts to different ports, by steps and pending steps of different names
pub meet-commutes : (P Q : Port) (x y : Name) (v w : ℕ) (m : Mail) → P ≢ Q → Apart x y (m.waiting (opposite P)) (m.waiting (opposite Q))
    → meet Q y w (meet P x v m) ≡ meet P x v (meet Q y w m)
meet-commutes P Q x y v w m pq h = go (which (eq_port Q (opposite P)))
  where
    go : (eq_port Q (opposite P) ≡ true) ⊎ (eq_port Q (opposite P) ≡ false) → meet Q y w (meet P x v m) ≡ meet P x v (meet Q y w m)
    go (inl e) =
        let hq : opposite P ≡ Q = sym (port-test.equal Q (opposite P) e) in
        let hp : opposite Q ≡ P = ap opposite (sym hq) ∙ opposite-opposite P in
        one-mailbox P Q x y v w m hq hp (m.waiting (opposite P)) (m.waiting (opposite Q)) refl refl h
    go (inr e) = mailboxes-apart P Q x y v w m pq (λ k. contrary (k-test k) e) h
      where
        k-test : Q ≡ opposite P → eq_port Q (opposite P) ≡ true
        k-test k = ap (λ (p : Port). eq_port p (opposite P)) k ∙ port-test.same (opposite P)
