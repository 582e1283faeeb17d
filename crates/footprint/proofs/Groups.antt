-- Two resources are the same where their groups and their numbers are.
-- Assumes only that mailboxes and mutexes are below 8.
use Prim.Native.Nat.{ℕ, ◌<◌}
use native.Mathlib.Omega.{arith}
use mathlib.Core.Path.{◌≡◌, refl, ◌∙◌, ap}
use mathlib.Core.Logic.{◌⊎◌, inl, inr}
use mathlib.Core.Bool.{Bool, true, false, ◌&&◌, ◌||◌, or-false, and_comm}
use mathlib.Core.List.{[], ◌∷◌}
use borrow.Author.Tests.{eqb-true, eqb-false, eq-eqb, ne_eqb}
use lib.Dec.{eqb}
use Rattle.trace.proofs.Bools.{which}
use Rattle.model.specs.Site.{Side, sends, receives, other_side, eq_side, Port, opposite, eq_port}
use Rattle.footprint.specs.Resources.{resource, side_group, port_resource, share}

pub resource-test : (g n h m : ℕ) → n < 8 → m < 8 → eqb (resource g n) (resource h m) ≡ (eqb g h && eqb n m)
resource-test g n h m p q = go (which (eqb g h)) (which (eqb n m))
  where
    go : (eqb g h ≡ true) ⊎ (eqb g h ≡ false) → (eqb n m ≡ true) ⊎ (eqb n m ≡ false)
        → eqb (resource g n) (resource h m) ≡ (eqb g h && eqb n m)
    go (inl s) (inl t) = rw (s, t, eq-eqb (resource g n) (resource h m) (omega (arith, eqb-true g h s, eqb-true n m t)))
    go (inl s) (inr t) = rw (s, t, ne_eqb (resource g n) (resource h m) (λ e. omega (arith, eqb-true g h s, eqb-false n m t)))
    go (inr s) _ = rw (s, ne_eqb (resource g n) (resource h m) (λ e. omega (arith, eqb-false g h s)))

-- two single resources are shared where they are the same
pub single : (a b : ℕ) → share (a ∷ []) (b ∷ []) ≡ eqb a b
single a b = or-false (eqb a b || false) ∙ or-false (eqb a b)

pub single-test : (g n h m : ℕ) → n < 8 → m < 8 → share (resource g n ∷ []) (resource h m ∷ []) ≡ (eqb g h && eqb n m)
single-test g n h m p q = single (resource g n) (resource h m) ∙ resource-test g n h m p q

-- ---- ports

side-test : (d e : Side) → eqb (side_group d) (side_group e) ≡ eq_side d e
side-test sends sends = refl
side-test sends receives = refl
side-test receives sends = refl
side-test receives receives = refl

pub ports-test : (p q : Port) → p.mailbox < 8 → q.mailbox < 8 → share (port_resource p ∷ []) (port_resource q ∷ []) ≡ eq_port p q
ports-test p q small small-too =
    single-test (side_group p.side) p.mailbox (side_group q.side) q.mailbox small small-too
    ∙ ap (λ (b : Bool). b && eqb p.mailbox q.mailbox) (side-test p.side q.side)
    ∙ and_comm (eq_side p.side q.side) (eqb p.mailbox q.mailbox)

-- a port is no resource of another group
pub port-other : (g : ℕ) → ((d : Side) → eqb (side_group d) g ≡ false) → (p : Port) (m : ℕ) → p.mailbox < 8 → m < 8
    → share (port_resource p ∷ []) (resource g m ∷ []) ≡ false
port-other g apart p m small small-too =
    single-test (side_group p.side) p.mailbox g m small small-too
    ∙ ap (λ (b : Bool). b && eqb p.mailbox m) (apart p.side)

pub other-port : (g : ℕ) → ((d : Side) → eqb g (side_group d) ≡ false) → (m : ℕ) (p : Port) → m < 8 → p.mailbox < 8
    → share (resource g m ∷ []) (port_resource p ∷ []) ≡ false
other-port g apart m p small small-too =
    single-test g m (side_group p.side) p.mailbox small small-too
    ∙ ap (λ (b : Bool). b && eqb m p.mailbox) (apart p.side)

turned : (d e : Side) → eq_side (other_side d) e ≡ eq_side d (other_side e)
turned sends sends = refl
turned sends receives = refl
turned receives sends = refl
turned receives receives = refl

pub opposite-test : (p q : Port) → eq_port (opposite p) q ≡ eq_port p (opposite q)
opposite-test p q = ap (λ (b : Bool). eqb p.mailbox q.mailbox && b) (turned p.side q.side)
