-- The latest places by resource, kept step by step: a resource has a later place than the one given exactly where some step so far that touches it has.
-- Assumes nothing.
use Prim.Native.Nat.{ℕ, zero, suc, ◌<◌}
use native.Mathlib.Omega.{arith}
use mathlib.Core.Path.{◌≡◌, refl, sym, ◌∙◌, ap, ap₂}
use mathlib.Core.Bool.{Bool, false, ◌&&◌, ◌||◌}
use mathlib.Core.List.{List, [], ◌∷◌}
use borrow.Author.Tests.{le-ltb}
use lib.Dec.{ltb}
use lib.ListN.{length, get_or, replicate}
use Rattle.trace.specs.Order.{has}
use Rattle.trace.proofs.Bools.{and-shared}
use Rattle.model.specs.Pair.{any_of}
use Rattle.names.specs.Steps.{Each}
use Rattle.footprint.specs.Resources.{share}
use Rattle.footprint.specs.Latest.{latest_of, raised}
use Rattle.footprint.proofs.Raised.{latest-test, raised-test}
use Rattle.equivalence.proofs.Below.{any_below, none_below, below_alike, below-either}

-- `touched` says which resources the step i touches, `place` where it stands in the second list
module _ (touched : ℕ → List ℕ) (place : ℕ → ℕ) where
  -- of the steps before j
  pub record Latest (latest : List ℕ) (j : ℕ) : Type 0 where
    pub at : (p r : ℕ) → ltb p (get_or latest r 0) ≡ any_below (λ i. has (touched i) r && ltb p (place i)) j

  zeros : (n r : ℕ) → ◌≡◌ {A = ℕ} (get_or (replicate n 0) r 0) 0
  zeros zero r = refl
  zeros (suc n) zero = refl
  zeros (suc n) (suc r) = zeros n r

  pub latest-begins : (n : ℕ) → Latest (replicate n 0) 0
  latest-begins n = record { at = λ p r. ap (ltb p) (zeros n r) ∙ le-ltb p 0 (omega arith) }

  pub latest-next : (latest : List ℕ) (j : ℕ) → Latest latest j → Each (λ r. r < length latest) (touched j)
      → Latest (raised (place j) (touched j) latest) (suc j)
  latest-next latest j known fit =
      record {
        at = λ p r. raised-test (place j) (touched j) latest p r fit ∙ ap (λ (b : Bool). b || (has (touched j) r && ltb p (place j))) (known.at p r);
      }

  -- ---- some resources of a list

  none-touched : (p n : ℕ) → any_below (λ i. false && ltb p (place i)) n ≡ false
  none-touched p n = none_below (λ i. false && ltb p (place i)) n (λ i h. refl)

  touched-some : (p j : ℕ) (l : List ℕ)
      → any_of (λ r. any_below (λ i. has (touched i) r && ltb p (place i)) j) l ≡ any_below (λ i. share l (touched i) && ltb p (place i)) j
  touched-some p j [] = sym (none-touched p j)
  touched-some p j (r ∷ l) =
      ap (λ (b : Bool). any_below (λ i. has (touched i) r && ltb p (place i)) j || b) (touched-some p j l)
      ∙ sym (below-either (λ i. has (touched i) r && ltb p (place i)) (λ i. share l (touched i) && ltb p (place i)) j)
      ∙ below_alike _ _ j (λ i h. and-shared (has (touched i) r) (share l (touched i)) (ltb p (place i)))

  any-alike : (f g : ℕ → Bool) → ((r : ℕ) → f r ≡ g r) → (l : List ℕ) → any_of f l ≡ any_of g l
  any-alike f g same [] = refl
  any-alike f g same (r ∷ l) = ap₂ ◌||◌ (same r) (any-alike f g same l)

  pub latest-some : (latest : List ℕ) (j p : ℕ) (l : List ℕ) → Latest latest j
      → ltb p (latest_of latest l) ≡ any_below (λ i. share l (touched i) && ltb p (place i)) j
  latest-some latest j p l known = latest-test latest p l ∙ any-alike _ _ (λ r. known.at p r) l ∙ touched-some p j l
