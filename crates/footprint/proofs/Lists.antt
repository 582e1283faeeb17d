-- A look at a list's numbers, one after another.
-- Assumes nothing.
use Prim.Native.Nat.{ℕ, zero, suc, ◌+◌, ◌<◌, max}
use native.Mathlib.Omega.{arith}
use mathlib.Core.Path.{◌≡◌, refl, ◌∙◌, ap, ap₂, sym, subst}
use mathlib.Core.List.{List, [], ◌∷◌, ◌++◌, append_assoc, append-nil}
use lib.ListN.{length, get_or, set, take, drop}
use lib.Seq.{drop-drop, get_or-drop}
use Rattle.std.proofs.Common.{Option, nat_cmp}
use Rattle.std.specs.Ordering.{ord_max}
use Rattle.std.proofs.lemmas.Bool.Decides.{nat_tests}
use Rattle.table.specs.declared.Numbers.{Numbers}
use Rattle.table.specs.Promise.{number}
use Rattle.model.specs.Views.{listed}
use Rattle.footprint.specs.Resources.{all_of}
use Rattle.footprint.specs.Latest.{latest_of, raised, Looked, one_of, Gives}

-- ---- one after another

latest-joined : (posts l l' : List ℕ) → latest_of posts (l ++ l') ≡ max (latest_of posts l) (latest_of posts l')
latest-joined posts [] l' = omega arith
latest-joined posts (r ∷ l) l' = let e = latest-joined posts l l' in omega arith

raised-joined : (place : ℕ) (l l' looks : List ℕ) → raised place (l ++ l') looks ≡ raised place l' (raised place l looks)
raised-joined place [] l' looks = refl
raised-joined place (r ∷ l) l' looks = raised-joined place l l' (set looks r (max (get_or looks r 0) place))

pub looked-both : {l l' : List ℕ} {place r s t : ℕ} {posts looks looks' looks'' : List ℕ} → Looked l place posts looks looks' r
    → Looked l' place posts looks' looks'' s → t ≡ max r s → Looked (l ++ l') place posts looks looks'' t
looked-both {l} {l'} {place} {r} {s} {t} {posts} {looks} a b e =
    record {
      met = e ∙ ap₂ max a.met b.met ∙ sym (latest-joined posts l l');
      looks-raised = b.looks-raised ∙ ap (raised place l') a.looks-raised ∙ sym (raised-joined place l l' looks);
    }

pub ord_max-is : (x y : ℕ) → ord_max nat_cmp x y ≡ max x y
ord_max-is x y = grind (arith, nat_tests)

-- ---- a look at each listed number in turn

module _ (list : Numbers) (given : ℕ → Option ℕ → Type 0) (place : ℕ) (posts looks : List ℕ) where
  -- n numbers are left, `rest` begins with them, and those before them are looked at
  pub record Looking (n : ℕ) (rest now : List ℕ) (met : ℕ) : Type 0 where
    pub at : ℕ
    pub behind : rest ≡ drop at list.all
    pub left : n + at ≡ list.count
    pub looked : (f : ℕ → List ℕ) → Gives given f list
        → (l : List ℕ) × (all_of f (listed list) ≡ l ++ all_of f (take n rest)) × Looked l place posts looks now met

  pub begins : {n : ℕ} {rest : List ℕ} → n ≡ list.count → rest ≡ list.all → Looking n rest looks 0
  begins {n} {rest} count all =
      record {
        at = 0;
        behind = all;
        left = omega (arith, count);
        looked = λ f g. ([], rw (count, all), record { met = refl; looks-raised = refl });
      }

  module _ {n : ℕ} {rest now : List ℕ} {met : ℕ} (t : Looking n rest now met) {x : ℕ} {rest' : List ℕ} (split : rest ≡ x ∷ rest') (more : 0 < n) where
    parts : x ∷ rest' ≡ drop t.at list.all
    parts = sym split ∙ t.behind

    pub listed-here : (t.at < list.count) × (x ≡ number list t.at)
    listed-here =
        let e : t.at + 0 ≡ t.at = omega arith in
        (omega (arith, t.left), ap (λ (r : List ℕ). get_or r 0 0) parts ∙ get_or-drop t.at list.all 0 0 ∙ ap (number list) e)

    gives : (f : ℕ → List ℕ) → Gives given f list → (r : Option ℕ) → given x r → one_of r ≡ f x
    gives f g r p =
        subst (λ (y : ℕ). one_of r ≡ f y) (sym listed-here.1) (g t.at r listed-here.0 (subst (λ (y : ℕ). given y r) listed-here.1 p))

    pub next : {n' : ℕ} → n' + 1 ≡ n → (r : Option ℕ) → given x r → {now' : List ℕ} {met' s : ℕ} → Looked (one_of r) place posts now now' s
        → met' ≡ max met s → Looking n' rest' now' met'
    next {n'} fewer r p {now'} {met'} {s} seen e =
        record {
          at = t.at + 1;
          behind = ap (drop 1) parts ∙ drop-drop 1 t.at list.all;
          left = omega (arith, t.left);
          looked = λ f g.
              let before = t.looked f g in
              let one-more : n ≡ suc n' = omega arith in
              let told : all_of f (take n rest) ≡ one_of r ++ all_of f (take n' rest') =
              rw (one-more, split) (ap (λ (l : List ℕ). l ++ all_of f (take n' rest')) (sym (gives f g r p))) in (
                before.0 ++ one_of r,
                before.1 ∙ ap (λ (l : List ℕ). before.0 ++ l) told ∙ sym (append_assoc before.0 (one_of r) (all_of f (take n' rest'))),
                looked-both before.2 seen e,
              );
        }

  pub ends : {n : ℕ} {rest now : List ℕ} {met : ℕ} → Looking n rest now met → (0 < n → length rest ≡ 0) → (f : ℕ → List ℕ) → Gives given f list
      → Looked (all_of f (listed list)) place posts looks now met
  ends {n} {rest} t none f g =
      let l = t.looked f g in
      let last : take n rest ≡ [] = nothing n rest none in
      rw (l.1, last, append-nil) l.2
    where
      nothing : (n : ℕ) (l : List ℕ) → (0 < n → length l ≡ 0) → take n l ≡ []
      nothing zero l h = refl
      nothing (suc n) [] h = refl
      nothing (suc n) (x ∷ l) h = let zero-long : length (x ∷ l) ≡ 0 = h (omega arith) in absurd (omega arith)
