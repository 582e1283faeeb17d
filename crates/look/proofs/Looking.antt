-- A look at one listed number after another: the first that has a value decides.
-- Assumes nothing.
use Rattle.std.proofs.Common.{◌≡◌, refl, sym, ◌∙◌, ap, subst, ℕ, zero, suc, ◌+◌, ◌<◌, Bool, true, false, ◌⊎◌, inl, inr, List, [], ◌∷◌, length, get_or, take, drop, Option, Some, None, arith}
use Rattle.std.proofs.Math.Seq.{drop-drop, get_or-drop}
use Rattle.trace.proofs.Bools.{which}
use Rattle.table.specs.declared.Numbers.{Numbers}
use Rattle.table.specs.Promise.{number}
use Rattle.model.specs.Views.{listed}
use Rattle.model.specs.Local.{unseen, seen, first}
use Rattle.look.specs.Parts.{value_if, Gives}

module _ (test : ℕ → Bool) (value : ℕ → ℕ) where
  passed : (from x : ℕ) (l : List ℕ) → None ≡ value_if test value x → first test value from (x ∷ l) ≡ first test value (suc from) l
  passed from x l e = go (which (test x))
    where
      go : (test x ≡ true) ⊎ (test x ≡ false) → first test value from (x ∷ l) ≡ first test value (suc from) l
      go (inl t) = let some : None ≡ Some (value x) = rw t at e in cc
      go (inr f) = rw f

  found : (from x v : ℕ) (l : List ℕ) → Some v ≡ value_if test value x → seen from x v ≡ first test value from (x ∷ l)
  found from x v l e = go (which (test x))
    where
      go : (test x ≡ true) ⊎ (test x ≡ false) → seen from x v ≡ first test value from (x ∷ l)
      go (inl t) = let some : Some v ≡ Some (value x) = rw t at e in rw t (cc)
      go (inr f) = let none : Some v ≡ None = rw f at e in cc

  nothing : (from : ℕ) (n : ℕ) (l : List ℕ) → (0 < n → length l ≡ 0) → unseen ≡ first test value from (take n l)
  nothing from zero l h = refl
  nothing from (suc n) [] h = refl
  nothing from (suc n) (x ∷ l) h = let none : length (x ∷ l) ≡ 0 = h (omega arith) in absurd (omega arith)

module _ (list : Numbers) (look : ℕ → Option ℕ → Type 0) where
  -- the first `place` numbers of a list had no value, and n are left
  pub record Looking (place n : ℕ) (rest : List ℕ) : Type 0 where
    pub behind : rest ≡ drop place list.all
    pub left : n + place ≡ list.count
    pub same : (test : ℕ → Bool) (value : ℕ → ℕ) → Gives look test value list → first test value 1 (listed list) ≡ first test value (suc place) (take n rest)

  pub begins : Looking 0 list.count list.all
  begins = record { behind = refl; left = omega arith; same = λ test value g. refl }

  module _ {place n : ℕ} {rest : List ℕ} (l : Looking place n rest) (n' x : ℕ) (rest' : List ℕ) (split : rest ≡ x ∷ rest') (fewer : n' + 1 ≡ n) where
    parts : x ∷ rest' ≡ drop place list.all
    parts = sym split ∙ l.behind

    -- the next number
    here : x ≡ number list place
    here = let e : place + 0 ≡ place = omega arith in ap (λ (r : List ℕ). get_or r 0 0) parts ∙ get_or-drop place list.all 0 0 ∙ ap (number list) e

    given : (test : ℕ → Bool) (value : ℕ → ℕ) → Gives look test value list → (r : Option ℕ) → look x r → r ≡ value_if test value x
    given test value g r p =
        subst (λ (y : ℕ). r ≡ value_if test value y) (sym here)
        (g place r (omega (arith, l.left)) (subst (λ (y : ℕ). look y r) here p))

    shorter : (test : ℕ → Bool) (value : ℕ → ℕ) (from : ℕ) → first test value from (take n rest) ≡ first test value from (x ∷ take n' rest')
    shorter test value from = let e : n ≡ suc n' = omega arith in rw (e, split)

    pub next : {place' : ℕ} → place' ≡ place + 1 → look x None → Looking place' n' rest'
    next {place'} on p =
        record {
          behind = ap (drop 1) parts ∙ drop-drop 1 place list.all ∙ ap (λ (k : ℕ). drop k list.all) (sym on);
          left = omega (arith, l.left);
          same = λ test value g.
              l.same test value g ∙ shorter test value (suc place)
              ∙ passed test value (suc place) x (take n' rest') (given test value g None p)
              ∙ (let e : suc (suc place) ≡ suc place' = omega arith in ap (λ (k : ℕ). first test value k (take n' rest')) e);
        }

    pub finds : (v : ℕ) → look x (Some v) → (test : ℕ → Bool) (value : ℕ → ℕ) → Gives look test value list
        → seen (place + 1) x v ≡ first test value 1 (listed list)
    finds v p test value g =
        let e : place + 1 ≡ suc place = omega arith in
        ap (λ (k : ℕ). seen k x v) e
        ∙ found test value (suc place) x v (take n' rest') (given test value g (Some v) p)
        ∙ sym (l.same test value g ∙ shorter test value (suc place))

  pub ends : {place n : ℕ} {rest : List ℕ} → Looking place n rest → (0 < n → length rest ≡ 0) → (test : ℕ → Bool) (value : ℕ → ℕ)
      → Gives look test value list → unseen ≡ first test value 1 (listed list)
  ends {place} {n} {rest} l none test value g = nothing test value (suc place) n rest none ∙ sym (l.same test value g)
