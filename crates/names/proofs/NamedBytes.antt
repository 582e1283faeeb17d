-- The first m bytes of a list as step names: which names they are, and the place of each.
-- Assumes nothing.
use Prim.Native.Nat.{ℕ, zero, suc, ◌/◌, ◌%◌, ◌<◌, ◌≤◌}
use native.Mathlib.Nat.{le_of_suc-le-suc, not-suc-le-zero}
use native.Mathlib.Omega.{arith}
use mathlib.Core.Path.{◌≡◌, sym, ◌∙◌, ap}
use mathlib.Core.Logic.{◌⊎◌, inl, inr}
use mathlib.Core.Bool.{true, false, false≢true}
use mathlib.Core.List.{List, [], ◌∷◌}
use borrow.Author.Tests.{lt-ltb}
use lib.ListN.{length, get_or, take, get_or-map}
use lib.Seq.{get_or-take}
use Rattle.trace.specs.Machine.{Name}
use Rattle.trace.specs.Order.{eq_name, mem, before, Distinct}
use Rattle.trace.specs.Route.{place}
use Rattle.trace.proofs.Bools.{contrary, is_false}
use Rattle.trace.proofs.Names.{eq_name-refl, eq_name-true, mem-head, mem-tail, mem-cases}
use Rattle.trace.proofs.Places.{before-place}
use Rattle.names.specs.InByte.{name_of}
use Rattle.names.specs.Names.{names_in}

-- two bytes have one name only where they are equal
pub named-once : (a b : ℕ) → name_of a ≡ name_of b → a ≡ b
named-once a b e =
    let p : a / 32 ≡ b / 32 = ap (λ (x : Name). x.actor) e in
    let q : a % 32 ≡ b % 32 = ap (λ (x : Name). x.position) e in
    omega arith

pub entry_named : (m : ℕ) (bytes : List ℕ) (i : ℕ) → i < m → get_or (names_in m bytes) i (name_of 0) ≡ name_of (get_or bytes i 0)
entry_named m bytes i h = get_or-map name_of (take m bytes) i 0 ∙ ap name_of (get_or-take m bytes i 0 h)

-- ---- membership

pub named_in : (m : ℕ) (bytes : List ℕ) (i : ℕ) → i < m → m ≤ length bytes → mem (name_of (get_or bytes i 0)) (names_in m bytes) ≡ true
named_in zero bytes i h fits = absurd (not-suc-le-zero h)
named_in (suc m) [] i h fits = absurd (not-suc-le-zero fits)
named_in (suc m) (b ∷ bytes) zero h fits = mem-head (name_of b) (names_in m bytes)
named_in (suc m) (b ∷ bytes) (suc i) h fits =
    mem-tail (name_of (get_or bytes i 0)) (name_of b) (names_in m bytes) (named_in m bytes i (le_of_suc-le-suc h) (le_of_suc-le-suc fits))

pub in-named : (m : ℕ) (bytes : List ℕ) (x : Name) → mem x (names_in m bytes) ≡ true → (i : ℕ) × (i < m) × (name_of (get_or bytes i 0) ≡ x)
in-named zero bytes x h = absurd (false≢true h)
in-named (suc m) [] x h = absurd (false≢true h)
in-named (suc m) (b ∷ bytes) x h = go (mem-cases x (name_of b) (names_in m bytes) h) (in-named m bytes x)
  where
    go : (x ≡ name_of b) ⊎ (mem x (names_in m bytes) ≡ true)
        → (mem x (names_in m bytes) ≡ true → (i : ℕ) × (i < m) × (name_of (get_or bytes i 0) ≡ x))
        → (i : ℕ) × (i < suc m) × (name_of (get_or (b ∷ bytes) i 0) ≡ x)
    go (inl e) rest = (zero, omega arith, sym e)
    go (inr n) rest = let r = rest n in (suc r.0, omega (arith, r.1), r.2)

-- ---- places

-- where no name stands twice, the byte at i has the place i
pub place-named : (m : ℕ) (bytes : List ℕ) (i : ℕ) → Distinct (names_in m bytes) → i < m → m ≤ length bytes
    → place (name_of (get_or bytes i 0)) (names_in m bytes) ≡ i
place-named zero bytes i d h fits = absurd (not-suc-le-zero h)
place-named (suc m) [] i d h fits = absurd (not-suc-le-zero fits)
place-named (suc m) (b ∷ bytes) zero d h fits = rw (eq_name-refl (name_of b))
place-named (suc m) (b ∷ bytes) (suc i) d h fits =
    let i< : i < m = le_of_suc-le-suc h in
    let m≤ : m ≤ length bytes = le_of_suc-le-suc fits in
    let x : Name = name_of (get_or bytes i 0) in
    let in_rest : mem x (names_in m bytes) ≡ true = named_in m bytes i i< m≤ in
    let other : eq_name x (name_of b) ≡ false =
    is_false _ (λ e. contrary in_rest (rw (eq_name-true x (name_of b) e) d.0))
    in
    rw other (ap suc (place-named m bytes i d.1 i< m≤))

pub before-named : (m : ℕ) (bytes : List ℕ) (i j : ℕ) → Distinct (names_in m bytes) → i < j → j < m → m ≤ length bytes
    → before (name_of (get_or bytes i 0)) (name_of (get_or bytes j 0)) (names_in m bytes) ≡ true
before-named m bytes i j d h l fits =
    let i< : i < m = omega arith in
    before-place (name_of (get_or bytes i 0)) (name_of (get_or bytes j 0)) (names_in m bytes) d (named_in m bytes i i< fits) (named_in m bytes j l fits)
    ∙ rw (place-named m bytes i d i< fits, place-named m bytes j d l fits) (lt-ltb i j h)
