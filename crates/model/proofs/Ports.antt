-- Names, numbers and ports are told apart by their tests; a port's opposite is another port, and its opposite in turn is the port.
-- Assumes nothing.
use mathlib.Core.Path.{◌≡◌, refl, sym, ◌∙◌, ap}
use mathlib.Core.Logic.{◌≢◌}
use mathlib.Core.Bool.{true, false, false≢true, true≢false}
use lib.Dec.{eqb}
use borrow.Author.Tests.{eqb-true, eq-eqb}
use Rattle.trace.specs.Order.{eq_name}
use Rattle.trace.proofs.Bools.{both, and_left, and_right}
use Rattle.trace.proofs.Names.{eq_name-refl, eq_name-true}
use Rattle.model.specs.Site.{Side, sends, receives, other_side, eq_side, Port, opposite, eq_port}
use Rattle.model.proofs.Upd.{Decides}

pub number-test : Decides eqb
number-test = record { same = λ k. eq-eqb k k refl; equal = eqb-true }

pub name-test : Decides eq_name
name-test = record { same = eq_name-refl; equal = eq_name-true }

side_same : (d : Side) → eq_side d d ≡ true
side_same sends = refl
side_same receives = refl

side-equal : (d e : Side) → eq_side d e ≡ true → d ≡ e
side-equal sends sends h = refl
side-equal sends receives h = absurd (false≢true h)
side-equal receives sends h = absurd (false≢true h)
side-equal receives receives h = refl

port-equal : (p q : Port) → eq_port p q ≡ true → p ≡ q
port-equal p q h =
    let m : p.mailbox ≡ q.mailbox = eqb-true _ _ (and_left (eqb p.mailbox q.mailbox) (eq_side p.side q.side) h) in
    let d : p.side ≡ q.side = side-equal _ _ (and_right (eqb p.mailbox q.mailbox) (eq_side p.side q.side) h) in
    λ i. record { mailbox = m i; side = d i }

pub port-test : Decides eq_port
port-test = record { same = λ p. both (eq-eqb p.mailbox p.mailbox refl) (side_same p.side); equal = port-equal }

other-other : (d : Side) → other_side (other_side d) ≡ d
other-other sends = refl
other-other receives = refl

pub opposite-opposite : (p : Port) → opposite (opposite p) ≡ p
opposite-opposite p = λ i. record { mailbox = p.mailbox; side = other-other p.side i }

side-not-other : (d : Side) → eq_side d (other_side d) ≡ false
side-not-other sends = refl
side-not-other receives = refl

pub opposite-apart : (p : Port) → p ≢ opposite p
opposite-apart p h = true≢false (sym (side_same p.side) ∙ ap (λ (q : Port). eq_side p.side q.side) h ∙ side-not-other p.side)

-- opposites are equal only if the ports are
pub opposite-injective : (p q : Port) → opposite p ≡ opposite q → p ≡ q
opposite-injective p q h = sym (opposite-opposite p) ∙ ap opposite h ∙ opposite-opposite q
