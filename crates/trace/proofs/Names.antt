-- Lists of step names: membership, order, and lists that hold no name twice.
-- Assumes nothing.
use mathlib.Core.Path.{◌≡◌, refl, sym, subst}
use mathlib.Core.Logic.{◌⊎◌, inl, inr}
use mathlib.Core.Bool.{Bool, true, false, ◌&&◌, false≢true}
use mathlib.Core.List.{List, [], ◌∷◌}
use borrow.Author.Tests.{eqb-true, eq-eqb}
use lib.Dec.{eqb}
use Rattle.trace.specs.Machine.{Name}
use Rattle.trace.specs.Order.{eq_name, mem, within, before, any, Distinct}
use Rattle.trace.proofs.Bools.{contrary, is_false, both, and_left, and_right, or_left, or_right, or_cases}

pub eq_name-refl : (x : Name) → eq_name x x ≡ true
eq_name-refl x = both (eq-eqb x.actor x.actor refl) (eq-eqb x.position x.position refl)

pub eq_name-true : (x y : Name) → eq_name x y ≡ true → x ≡ y
eq_name-true x y h =
    let p : x.actor ≡ y.actor = eqb-true _ _ (and_left (eqb x.actor y.actor) (eqb x.position y.position) h) in
    let q : x.position ≡ y.position = eqb-true _ _ (and_right (eqb x.actor y.actor) (eqb x.position y.position) h) in
    λ i. record { actor = p i; position = q i }

-- ---- membership

pub mem-head : (x : Name) (l : List Name) → mem x (x ∷ l) ≡ true
mem-head x l = or_left _ _ (eq_name-refl x)

pub mem-here : (x z : Name) (l : List Name) → x ≡ z → mem x (z ∷ l) ≡ true
mem-here x z l e = subst (λ (w : Name). mem w (z ∷ l) ≡ true) (sym e) (mem-head z l)

pub mem-tail : (x y : Name) (l : List Name) → mem x l ≡ true → mem x (y ∷ l) ≡ true
mem-tail x y l h = or_right (eq_name x y) (mem x l) h

pub mem-cases : (x y : Name) (l : List Name) → mem x (y ∷ l) ≡ true → (x ≡ y) ⊎ (mem x l ≡ true)
mem-cases x y l h = go (or_cases (eq_name x y) (mem x l) h)
  where
    go : (eq_name x y ≡ true) ⊎ (mem x l ≡ true) → (x ≡ y) ⊎ (mem x l ≡ true)
    go (inl e) = inl (eq_name-true x y e)
    go (inr m) = inr m

pub within-mem : (u v : List Name) → within u v ≡ true → (x : Name) → mem x u ≡ true → mem x v ≡ true
within-mem [] v h x m = absurd (false≢true m)
within-mem (y ∷ u) v h x m = go (mem-cases x y u m) (within-mem u v (and_right (mem y v) (within u v) h) x)
  where
    go : (x ≡ y) ⊎ (mem x u ≡ true) → (mem x u ≡ true → mem x v ≡ true) → mem x v ≡ true
    go (inl e) rest = rw e (and_left (mem y v) (within u v) h)
    go (inr n) rest = rest n

pub mem-within : (u v : List Name) → ((x : Name) → mem x u ≡ true → mem x v ≡ true) → within u v ≡ true
mem-within [] v h = refl
mem-within (y ∷ u) v h = both (h y (mem-head y u)) (mem-within u v (λ x m. h x (mem-tail x y u m)))

pub any_of : (f : Name → Bool) (x : Name) (l : List Name) → mem x l ≡ true → f x ≡ true → any f l ≡ true
any_of f x [] m h = absurd (false≢true m)
any_of f x (y ∷ l) m h = go (mem-cases x y l m) (λ n. any_of f x l n h)
  where
    go : (x ≡ y) ⊎ (mem x l ≡ true) → (mem x l ≡ true → any f l ≡ true) → any f (y ∷ l) ≡ true
    go (inl e) rest = or_left (f y) (any f l) (rw e at h)
    go (inr n) rest = or_right (f y) (any f l) (rest n)

pub any_some : (f : Name → Bool) (l : List Name) → any f l ≡ true → (x : Name) × (mem x l ≡ true) × (f x ≡ true)
any_some f [] h = absurd (false≢true h)
any_some f (y ∷ l) h = go (or_cases (f y) (any f l) h) (any_some f l)
  where
    go : (f y ≡ true) ⊎ (any f l ≡ true) → (any f l ≡ true → (x : Name) × (mem x l ≡ true) × (f x ≡ true))
        → (x : Name) × (mem x (y ∷ l) ≡ true) × (f x ≡ true)
    go (inl e) rest = (y, mem-head y l, e)
    go (inr n) rest = let r = rest n in (r.0, mem-tail r.0 y l r.1, r.2)

-- ---- order

pub before-cases : (x y z : Name) (l : List Name) → before x y (z ∷ l) ≡ true → ((x ≡ z) × (mem y l ≡ true)) ⊎ (before x y l ≡ true)
before-cases x y z l h = go (or_cases (eq_name x z && mem y l) (before x y l) h)
  where
    go : ((eq_name x z && mem y l) ≡ true) ⊎ (before x y l ≡ true) → ((x ≡ z) × (mem y l ≡ true)) ⊎ (before x y l ≡ true)
    go (inl e) = inl (eq_name-true x z (and_left _ _ e), and_right (eq_name x z) (mem y l) e)
    go (inr b) = inr b

pub before_head : (x y : Name) (l : List Name) → mem y l ≡ true → before x y (x ∷ l) ≡ true
before_head x y l m = or_left (eq_name x x && mem y l) (before x y l) (both (eq_name-refl x) m)

pub before-tail : (x y z : Name) (l : List Name) → before x y l ≡ true → before x y (z ∷ l) ≡ true
before-tail x y z l h = or_right (eq_name x z && mem y l) (before x y l) h

pub before-mem : (x y : Name) (l : List Name) → before x y l ≡ true → (mem x l ≡ true) × (mem y l ≡ true)
before-mem x y [] h = absurd (false≢true h)
before-mem x y (z ∷ l) h = go (before-cases x y z l h) (before-mem x y l)
  where
    go : ((x ≡ z) × (mem y l ≡ true)) ⊎ (before x y l ≡ true) → (before x y l ≡ true → (mem x l ≡ true) × (mem y l ≡ true))
        → (mem x (z ∷ l) ≡ true) × (mem y (z ∷ l) ≡ true)
    go (inl e) rest = (mem-here x z l e.0, mem-tail y z l e.1)
    go (inr b) rest = (mem-tail x z l (rest b).0, mem-tail y z l (rest b).1)

-- nothing stands before a name that the list does not hold
pub before-absent : (x y : Name) (l : List Name) → mem y l ≡ false → before x y l ≡ false
before-absent x y l n = is_false _ (λ b. contrary (before-mem x y l b).1 n)

-- ---- a list that holds no name twice

pub before-asym : (x y : Name) (l : List Name) → Distinct l → before x y l ≡ true → before y x l ≡ false
before-asym x y [] d h = refl
before-asym x y (z ∷ l) d h = is_false _ (λ k. go (before-cases x y z l h) (before-cases y x z l k) (before-asym x y l d.1))
  where
    at_head : (w : Name) → w ≡ z → mem w l ≡ true → ⊥
    at_head w e m = contrary m (rw e d.0)

    go : ((x ≡ z) × (mem y l ≡ true)) ⊎ (before x y l ≡ true) → ((y ≡ z) × (mem x l ≡ true)) ⊎ (before y x l ≡ true)
        → (before x y l ≡ true → before y x l ≡ false) → ⊥
    go (inl p) (inl q) rest = at_head y q.0 p.1
    go (inl p) (inr b) rest = at_head x p.0 (before-mem y x l b).1
    go (inr b) (inl q) rest = at_head y q.0 (before-mem x y l b).1
    go (inr b) (inr k) rest = contrary k (rest b)
