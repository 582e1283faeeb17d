-- The latest places as tests: whether some resource of a list has a later place than the one given, and how that changes when a step is passed.
-- Assumes nothing.
use Prim.Native.Nat.{ℕ, ◌<◌, max}
use native.Mathlib.Omega.{arith}
use mathlib.Core.Path.{◌≡◌, sym, ◌∙◌, ap}
use mathlib.Core.Logic.{◌⊎◌, inl, inr}
use mathlib.Core.Bool.{Bool, true, false, ◌&&◌, ◌||◌, or-false}
use mathlib.Core.List.{List, [], ◌∷◌}
use borrow.Author.Tests.{ltb-true, ltb-false, lt-ltb, le-ltb, eqb-true, eqb-false}
use lib.Dec.{eqb, ltb}
use lib.ListN.{length, get_or, set, length-set}
use lib.Seq.{get_or-set_same, get_or-set_other}
use Rattle.trace.specs.Order.{has}
use Rattle.trace.proofs.Bools.{which, or-regroup, and-shared}
use Rattle.model.specs.Pair.{any_of}
use Rattle.names.specs.Steps.{Each}
use Rattle.footprint.specs.Latest.{latest_of, raised}

-- a place is before the later of two where it is before one of them
pub before-later : (p a b : ℕ) → ltb p (max a b) ≡ (ltb p a || ltb p b)
before-later p a b = go (which (ltb p a)) (which (ltb p b))
  where
    go : (ltb p a ≡ true) ⊎ (ltb p a ≡ false) → (ltb p b ≡ true) ⊎ (ltb p b ≡ false) → ltb p (max a b) ≡ (ltb p a || ltb p b)
    go (inl s) t = rw s (lt-ltb p (max a b) (omega (arith, ltb-true p a s)))
    go (inr s) (inl t) = rw (s, t) (lt-ltb p (max a b) (omega (arith, ltb-true p b t)))
    go (inr s) (inr t) = rw (s, t) (le-ltb p (max a b) (omega (arith, ltb-false p a s, ltb-false p b t)))

pub latest-test : (latest : List ℕ) (p : ℕ) (l : List ℕ) → ltb p (latest_of latest l) ≡ any_of (λ r. ltb p (get_or latest r 0)) l
latest-test latest p [] = le-ltb p 0 (omega arith)
latest-test latest p (r ∷ l) =
    before-later p (get_or latest r 0) (latest_of latest l) ∙ ap (λ (b : Bool). ltb p (get_or latest r 0) || b) (latest-test latest p l)

-- ---- a step with place q is passed

one-raised : (latest : List ℕ) (q p r s : ℕ) → r < length latest
    → ltb p (get_or (set latest r (max (get_or latest r 0) q)) s 0) ≡ (ltb p (get_or latest s 0) || (eqb s r && ltb p q))
one-raised latest q p r s h = go (which (eqb s r))
  where
    go : (eqb s r ≡ true) ⊎ (eqb s r ≡ false)
        → ltb p (get_or (set latest r (max (get_or latest r 0) q)) s 0) ≡ (ltb p (get_or latest s 0) || (eqb s r && ltb p q))
    go (inl t) =
        let e : s ≡ r = eqb-true s r t in
        rw (t, e) (ap (ltb p) (get_or-set_same latest r (max (get_or latest r 0) q) 0 h) ∙ before-later p (get_or latest r 0) q)
    go (inr f) =
        rw f
        (ap (ltb p) (get_or-set_other latest r s (max (get_or latest r 0) q) 0 (eqb-false s r f)) ∙ sym (or-false (ltb p (get_or latest s 0))))

pub raised-test : (q : ℕ) (l latest : List ℕ) (p s : ℕ) → Each (λ r. r < length latest) l
    → ltb p (get_or (raised q l latest) s 0) ≡ (ltb p (get_or latest s 0) || (has l s && ltb p q))
raised-test q [] latest p s fit = sym (or-false (ltb p (get_or latest s 0)))
raised-test q (r ∷ l) latest p s fit =
    raised-test q l (set latest r (max (get_or latest r 0) q)) p s (rw (length-set latest r (max (get_or latest r 0) q)) fit.1)
    ∙ ap (λ (b : Bool). b || (has l s && ltb p q)) (one-raised latest q p r s fit.0)
    ∙ sym (or-regroup (ltb p (get_or latest s 0)) (eqb s r && ltb p q) (has l s && ltb p q))
    ∙ ap (λ (b : Bool). ltb p (get_or latest s 0) || b) (and-shared (eqb s r) (has l s) (ltb p q))
