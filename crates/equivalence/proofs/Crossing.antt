-- A step crosses an earlier one exactly where the latest place that it must not come before is later than its own. Two steps of one actor have their
-- places in order. Assumes nothing.
use Prim.Native.Nat.{ℕ, ◌<◌, max}
use native.Mathlib.Omega.{arith}
use mathlib.Core.Path.{◌≡◌, sym, ◌∙◌, ap, ap₂}
use mathlib.Core.Logic.{◌⊎◌, inl, inr, ◌≢◌}
use mathlib.Core.Bool.{Bool, true, false, ◌&&◌, ◌||◌, and_comm, and-false}
use mathlib.Core.List.{List}
use borrow.Author.Tests.{ltb-true}
use lib.Dec.{ltb}
use lib.ListN.{get_or}
use Rattle.std.proofs.Common.{Option}
use Rattle.table.specs.Promise.{WellFormed}
use Rattle.trace.specs.Machine.{Name}
use Rattle.trace.proofs.Bools.{which, and-shared}
use Rattle.model.proofs.PairCases.{depends-symmetric}
use Rattle.names.specs.InByte.{name_of}
use Rattle.footprint.specs.Resources.{posted, contested, looked, share, clash}
use Rattle.footprint.specs.Latest.{latest_of, latest_met}
use Rattle.footprint.proofs.Raised.{before-later}
use Rattle.footprint.proofs.ClashDepends.{clash-depends}
use Rattle.equivalence.specs.Parts.{place_in, crosses, Placed}
use Rattle.equivalence.proofs.Below.{any_below, below_alike, below-either}
use Rattle.equivalence.proofs.Latest.{Latest, latest-some}

module _ (table first : List ℕ) (index : List (Option ℕ)) where
  -- step i and its place
  abbrev pub step_at : ℕ → Name
  step_at i = name_of (get_or first i 0)

  abbrev pub place_at : ℕ → ℕ
  place_at = place_in index first

  -- the latest places of the steps before j that post to a resource, and of those that look at it
  abbrev pub PostsBefore : List ℕ → ℕ → Type 0
  PostsBefore posts j = Latest (λ i. posted table (step_at i)) place_at posts j

  abbrev pub LooksBefore : List ℕ → ℕ → Type 0
  LooksBefore looks j = Latest (λ i. looked table (step_at i)) place_at looks j

  module _ (posts looks : List ℕ) (j : ℕ) (before : PostsBefore posts j) (seen : LooksBefore looks j) where
    later : ℕ → Bool
    later i = ltb (place_at j) (place_at i)

    met-test : ltb (place_at j) (latest_met table (step_at j) posts looks) ≡ any_below (λ i. clash table (step_at j) (step_at i) && later i) j
    unfolding clash later
    met-test =
        before-later (place_at j) (latest_of posts (contested table (step_at j))) (max (latest_of looks (posted table (step_at j))) (latest_of posts (looked table (step_at j))))
        ∙ ap₂ ◌||◌
        (latest-some (λ i. posted table (step_at i)) place_at posts j (place_at j) (contested table (step_at j)) before)
        (before-later (place_at j) (latest_of looks (posted table (step_at j))) (latest_of posts (looked table (step_at j)))
        ∙ ap₂ ◌||◌
        (latest-some (λ i. looked table (step_at i)) place_at looks j (place_at j) (posted table (step_at j)) seen)
        (latest-some (λ i. posted table (step_at i)) place_at posts j (place_at j) (looked table (step_at j)) before)
        ∙ sym (below-either (λ i. share (posted table (step_at j)) (looked table (step_at i)) && later i) (λ i. share (looked table (step_at j)) (posted table (step_at i)) && later i) j)
        ∙ below_alike _ _ j (λ i h. and-shared (share (posted table (step_at j)) (looked table (step_at i))) (share (looked table (step_at j)) (posted table (step_at i))) (later i)))
        ∙ sym (below-either (λ i. share (contested table (step_at j)) (posted table (step_at i)) && later i)
        (λ i. (share (posted table (step_at j)) (looked table (step_at i)) || share (looked table (step_at j)) (posted table (step_at i))) && later i) j)
        ∙ below_alike _ _ j (λ i h. and-shared (share (contested table (step_at j)) (posted table (step_at i))) _ (later i))

    module _ (m : ℕ) (accepted : WellFormed table) (placed : Placed table first index m) (here : j < m) where
      apart : (i : ℕ) → i < j → later i ≡ true → (step_at j).actor ≢ (step_at i).actor
      unfolding later
      apart i h t e = omega (arith, ltb-true (place_at j) (place_at i) t, placed.own-order i j h here (sym e))

      crosses-one : (i : ℕ) → i < j → (clash table (step_at j) (step_at i) && later i) ≡ crosses table first place_at i j
      unfolding later
      crosses-one i h = go (which (later i))
        where
          go : (later i ≡ true) ⊎ (later i ≡ false) → (clash table (step_at j) (step_at i) && later i) ≡ crosses table first place_at i j
          go (inl t) =
              and_comm (clash table (step_at j) (step_at i)) (later i)
              ∙ ap (λ (b : Bool). later i && b)
              (clash-depends table accepted (step_at j) (step_at i) (placed.stand j here) (placed.stand i (omega arith)) (apart i h t)
              ∙ depends-symmetric table (step_at j) (step_at i))
          go (inr f) = rw f (and-false (clash table (step_at j) (step_at i)))

      pub crossing-test : ltb (place_at j) (latest_met table (step_at j) posts looks) ≡ any_below (λ i. crosses table first place_at i j) j
      crossing-test = met-test ∙ below_alike _ _ j crosses-one
