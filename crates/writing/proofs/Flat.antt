-- Bytes made of each element of a list from a place on: part by part, as a loop writes them, and one after another.
-- Assumes nothing.
use mathlib.Core.Path.{◌≡◌, refl, ◌∙◌, ap, sym, fun_ext}
use mathlib.Core.List.{List, [], ◌∷◌, ◌++◌}
use Prim.Native.Nat.{ℕ, zero, suc, ◌+◌, ◌≤◌}
use native.Mathlib.Nat.{add-zero, add-suc}
use native.Mathlib.Omega.{arith}
use lib.ListN.{length, get_or, take, drop}
use lib.Seq.{drop-cons, take-length}
use Rattle.model.specs.Report.{parts}

-- the bytes `g x` of each element x
abbrev pub flat : (ℕ → List ℕ) → List ℕ → List ℕ
flat g [] = []
flat g (x ∷ l) = g x ++ flat g l

flat-from : (g : ℕ → List ℕ) (l : List ℕ) (from n k : ℕ) → from + k + n ≤ length l → parts (λ i. g (get_or l (from + i) 0)) n k ≡ flat g (take n (drop (from + k) l))
flat-from g l from zero k h = refl
flat-from g l from (suc n) k h =
    ap (λ (r : List ℕ). g (get_or l (from + k) 0) ++ r) (flat-from g l from n (suc k) (omega arith) ∙ ap (λ (j : ℕ). flat g (take n (drop j l))) (add-suc from k))
    ∙ sym (ap (λ (r : List ℕ). flat g (take (suc n) r)) (drop-cons l (from + k) 0 (omega arith)))

pub flat-at : (g : ℕ → List ℕ) (l : List ℕ) (from n : ℕ) → from + n ≤ length l → parts (λ i. g (get_or l (from + i) 0)) n 0 ≡ flat g (take n (drop from l))
flat-at g l from n h = flat-from g l from n 0 (omega arith) ∙ ap (λ (j : ℕ). flat g (take n (drop j l))) (add-zero from)

-- of a whole list
pub flat-whole : (g : ℕ → List ℕ) (l : List ℕ) → parts (λ i. g (get_or l i 0)) (length l) 0 ≡ flat g l
flat-whole g l =
    let at-zero : ◌≡◌ {A = ℕ → List ℕ} (λ i. g (get_or l i 0)) (λ i. g (get_or l (0 + i) 0)) = fun_ext (λ i. let e : i ≡ 0 + i = omega arith in ap (λ (j : ℕ). g (get_or l j 0)) e) in
    ap (λ (f : ℕ → List ℕ). parts f (length l) 0) at-zero ∙ flat-at g l 0 (length l) (omega arith) ∙ ap (flat g) (take-length l)
