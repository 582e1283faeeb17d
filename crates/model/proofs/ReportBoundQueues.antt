-- A list of actors that names none twice is no longer than the count of a test that they pass.
-- Assumes nothing.
use Prim.Native.Nat.{ℕ, zero, suc, ◌+◌, ◌≤◌, ◌<◌}
use native.Mathlib.Omega.{arith}
use mathlib.Core.Path.{◌≡◌, refl, sym, ◌∙◌, ap}
use mathlib.Core.Logic.{◌⊎◌, inl, inr, ◌≢◌}
use mathlib.Core.Bool.{Bool, true, false, false≢true, cond}
use mathlib.Core.List.{List, [], ◌∷◌}
use lib.Dec.{eqb}
use borrow.Author.Tests.{eqb-true, eqb-false, eq-eqb}
use lib.ListN.{length}
use Rattle.trace.specs.Order.{has}
use Rattle.trace.proofs.Bools.{which, contrary, is_false, or_left, or_right, or_cases, or-false-left, or-false-right}
use Rattle.model.specs.Ready.{how_many}
use Rattle.model.specs.Reached.{Once}

pub has-cases : (a b : ℕ) (q : List ℕ) → has (b ∷ q) a ≡ true → (a ≡ b) ⊎ (has q a ≡ true)
has-cases a b q h = go (or_cases (eqb a b) (has q a) h)
  where
    go : (eqb a b ≡ true) ⊎ (has q a ≡ true) → (a ≡ b) ⊎ (has q a ≡ true)
    go (inl e) = inl (eqb-true a b e)
    go (inr m) = inr m

pub has-tail : (a b : ℕ) (q : List ℕ) → has q a ≡ true → has (b ∷ q) a ≡ true
has-tail a b q h = or_right (eqb a b) (has q a) h

pub has-head : (a : ℕ) (q : List ℕ) → has (a ∷ q) a ≡ true
has-head a q = or_left (eqb a a) (has q a) (eq-eqb a a refl)

-- ---- a list of actors without one of them

abbrev without : List ℕ → ℕ → List ℕ
without [] a = []
without (c ∷ q) a = cond (eqb a c) (without q a) (c ∷ without q a)

without-members : (a b : ℕ) (q : List ℕ) → has (without q b) a ≡ true → (has q a ≡ true) × (a ≢ b)
without-members a b [] h = absurd (false≢true h)
without-members a b (c ∷ q) h = go (which (eqb b c)) (without-members a b q)
  where
    past : b ≢ c → (a ≡ c) ⊎ (has (without q b) a ≡ true) → (has (without q b) a ≡ true → (has q a ≡ true) × (a ≢ b))
        → (has (c ∷ q) a ≡ true) × (a ≢ b)
    past ne (inl e) rest = (rw e (has-head c q), λ k. ne (sym k ∙ e))
    past ne (inr m) rest = (has-tail a c q (rest m).0, (rest m).1)

    go : (eqb b c ≡ true) ⊎ (eqb b c ≡ false) → (has (without q b) a ≡ true → (has q a ≡ true) × (a ≢ b))
        → (has (c ∷ q) a ≡ true) × (a ≢ b)
    go (inl e) rest = let r = rest (rw e at h) in (has-tail a c q r.0, r.1)
    go (inr e) rest = past (eqb-false b c e) (has-cases a c (without q b) (rw e at h)) rest

once-without : (b : ℕ) (q : List ℕ) → Once q → Once (without q b)
once-without b [] o = tt
once-without b (c ∷ q) o = go (which (eqb b c)) (once-without b q o.1)
  where
    go : (eqb b c ≡ true) ⊎ (eqb b c ≡ false) → Once (without q b) → Once (without (c ∷ q) b)
    go (inl e) rest = rw e rest
    go (inr e) rest = rw e (is_false _ (λ h. contrary (without-members c b q h).0 o.0), rest)

-- without an actor that is not there the list is as it was, and one that is there takes one place
without-absent : (q : List ℕ) (b : ℕ) → has q b ≡ false → without q b ≡ q
without-absent [] b n = refl
without-absent (c ∷ q) b n =
    rw (or-false-left (eqb b c) (has q b) n) (ap {B = List ℕ} (λ r. c ∷ r) (without-absent q b (or-false-right (eqb b c) (has q b) n)))

without-length : (b : ℕ) (q : List ℕ) → Once q → length q ≤ suc (length (without q b))
without-length b [] o = omega arith
without-length b (c ∷ q) o = go (which (eqb b c)) (without-length b q o.1)
  where
    go : (eqb b c ≡ true) ⊎ (eqb b c ≡ false) → length q ≤ suc (length (without q b)) → length (c ∷ q) ≤ suc (length (without (c ∷ q) b))
    go (inl e) rest = rw (e, without-absent q b (rw (eqb-true b c e) o.0)) (omega arith)
    go (inr e) rest = rw e (omega arith)

-- ---- the count

pub once-count : (f : ℕ → Bool) (n k : ℕ) (q : List ℕ) → Once q
    → ((a : ℕ) → has q a ≡ true → (k ≤ a) × (a < k + n) × (f a ≡ true)) → length q ≤ how_many f n k
once-count f zero k [] o h = omega arith
once-count f zero k (a ∷ q) o h = let r = h a (has-head a q) in absurd (omega arith)
once-count f (suc n) k q o h = go (which (has q k)) (once-count f n (suc k) (without q k) (once-without k q o) later)
  where
    later : (a : ℕ) → has (without q k) a ≡ true → (suc k ≤ a) × (a < suc k + n) × (f a ≡ true)
    later a m =
        let was = without-members a k q m in
        let r = h a was.0 in
        let ne : a ≢ k = was.1 in
        (omega arith, omega arith, r.2)

    go : (has q k ≡ true) ⊎ (has q k ≡ false) → length (without q k) ≤ how_many f n (suc k) → length q ≤ how_many f (suc n) k
    go (inl m) rest = rw (h k m).2 (omega (arith, without-length k q o))
    go (inr m) rest = let same : length q ≤ how_many f n (suc k) = rw (without-absent q k m) at rest in omega arith
