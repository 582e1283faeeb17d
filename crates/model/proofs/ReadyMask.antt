-- The mask's bit i says whether actor i is ready, and its ones are as many as the actors that are ready.
-- Assumes nothing of the table.
use Prim.Native.Nat.{ℕ, zero, suc, ◌+◌, ◌*◌, ◌/◌, ◌%◌, ◌^◌, ◌≤◌, ◌<◌}
use native.Mathlib.Nat.{add-mul-div_left, add-mul-mod_self_left, div-div-eq-div-mul, pow-succ', zero-div, div-one, add-zero, zero-add}
use native.Mathlib.Omega.{arith}
use mathlib.Core.Path.{◌≡◌, refl, sym, ◌∙◌, ap, ap₂}
use mathlib.Core.Logic.{◌⊎◌, inl, inr}
use mathlib.Core.Bool.{Bool, true, false}
use mathlib.Core.List.{List}
use lib.Dec.{ltb, lit<}
use lib.Count.{ones, ones_step}
use borrow.Author.Tests.{ltb-true, ltb-false}
use Rattle.table.specs.Format.{actors_of}
use Rattle.trace.proofs.Bools.{which}
use Rattle.model.specs.Site.{Site}
use Rattle.model.specs.Step.{ready}
use Rattle.model.specs.Ready.{bit_of, bit, mask_of, how_many}
use Rattle.model.specs.ReadyMask.{MaskRight}

-- ---- a lowest bit and the rest

bit-half : (b : Bool) → bit b / 2 ≡ 0
bit-half true = refl
bit-half false = refl

bit-rest : (b : Bool) → bit b % 2 ≡ bit b
bit-rest true = refl
bit-rest false = refl

bit-small : (b : Bool) → bit b < 2
bit-small true = lit< tt
bit-small false = lit< tt

pub bit-one : (b : Bool) → bit b ≡ 1 → b ≡ true
bit-one true h = refl
bit-one false h = absurd (omega arith)

module _ (b : Bool) (m : ℕ) where
  pub rest-half : (bit b + 2 * m) / 2 ≡ m
  rest-half = add-mul-div_left (bit b) m (lit< tt) ∙ ap (λ (x : ℕ). x + m) (bit-half b) ∙ omega arith

  pub lowest : (bit b + 2 * m) % 2 ≡ bit b
  lowest = add-mul-mod_self_left (bit b) 2 m ∙ bit-rest b

  higher : (i : ℕ) → bit_of (bit b + 2 * m) (suc i) ≡ bit_of m i
  higher i =
      ap (λ (x : ℕ). (bit b + 2 * m) / x % 2) (pow-succ' 2 i)
      ∙ ap (λ (x : ℕ). x % 2) (sym (div-div-eq-div-mul (bit b + 2 * m) 2 (2 ^ i)) ∙ ap (λ (x : ℕ). x / 2 ^ i) rest-half)

-- ---- masks of tests

module _ (f : ℕ → Bool) where
  mask-bit : (n k i : ℕ) → i < n → bit_of (mask_of f n k) i ≡ bit (f (k + i))
  mask-bit zero k i h = absurd (omega arith)
  mask-bit (suc n) k zero h =
      ap (λ (x : ℕ). x % 2) (div-one (bit (f k) + 2 * mask_of f n (suc k))) ∙ lowest (f k) (mask_of f n (suc k)) ∙ ap (λ (j : ℕ). bit (f j)) (sym (add-zero k))
  mask-bit (suc n) k (suc i) h =
      let past : suc k + i ≡ k + suc i = omega arith in
      higher (f k) (mask_of f n (suc k)) i ∙ mask-bit n (suc k) i (omega arith) ∙ ap (λ (j : ℕ). bit (f j)) past

  mask-past : (n k i : ℕ) → n ≤ i → bit_of (mask_of f n k) i ≡ 0
  mask-past zero k i h = ap (λ (x : ℕ). x % 2) (zero-div (2 ^ i))
  mask-past (suc n) k zero h = absurd (omega arith)
  mask-past (suc n) k (suc i) h = higher (f k) (mask_of f n (suc k)) i ∙ mask-past n (suc k) i (omega arith)

  pub mask-small : (n k : ℕ) → mask_of f n k < 2 ^ n
  mask-small zero k = lit< tt
  mask-small (suc n) k = rw (pow-succ' 2 n) (omega (arith, mask-small n (suc k), bit-small (f k)))

  pub mask-ones : (n k : ℕ) → ones (mask_of f n k) ≡ how_many f n k
  unfolding ones
  mask-ones zero k = refl
  mask-ones (suc n) k =
      ones_step (bit (f k) + 2 * mask_of f n (suc k))
      ∙ ap₂ (λ (x y : ℕ). x + ones y) (lowest (f k) (mask_of f n (suc k))) (rest-half (f k) (mask_of f n (suc k)))
      ∙ ap (λ (x : ℕ). bit (f k) + x) (mask-ones n (suc k))

module _ (table : List ℕ) (s : Site) where
  -- no actor past the table's is ready
  past-not-ready : (i : ℕ) → ltb i (actors_of table) ≡ false → ready table s i ≡ false
  unfolding ready
  past-not-ready i h = rw h

  ready-bits : (i : ℕ) → bit_of (mask_of (ready table s) (actors_of table) 0) i ≡ bit (ready table s i)
  ready-bits i = go (which (ltb i (actors_of table)))
    where
      go : (ltb i (actors_of table) ≡ true) ⊎ (ltb i (actors_of table) ≡ false) → bit_of (mask_of (ready table s) (actors_of table) 0) i ≡ bit (ready table s i)
      go (inl h) =
          mask-bit (ready table s) (actors_of table) 0 i (ltb-true i (actors_of table) h) ∙ ap (λ (j : ℕ). bit (ready table s j)) (zero-add i)
      go (inr h) = mask-past (ready table s) (actors_of table) 0 i (ltb-false i (actors_of table) h) ∙ ap bit (sym (past-not-ready i h))

  pub mask-right : MaskRight table s
  mask-right =
      record {
        bits = ready-bits;
        small = mask-small (ready table s) (actors_of table) 0;
        counted = mask-ones (ready table s) (actors_of table) 0;
      }
