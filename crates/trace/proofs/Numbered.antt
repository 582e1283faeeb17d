-- How many pairs are compared, by how the search ends.
-- Assumes nothing.
use Prim.Native.Nat.{ℕ, ◌+◌, ◌*◌, ◌-◌, ◌/◌}
use mathlib.Core.Path.{◌≡◌, refl, sym, ◌∙◌, ap}
use mathlib.Core.Logic.{◌⊎◌, inl, inr}
use mathlib.Core.Bool.{Bool, true, false, not, ◌&&◌, cond}
use mathlib.Core.List.{List}
use lib.ListN.{length}
use Rattle.trace.specs.Machine.{Machine}
use Rattle.trace.specs.Schedule.{names}
use Rattle.trace.specs.Same.{same_steps, equivalent}
use Rattle.trace.specs.Search.{Search, compared_in, has_ended, search, opposed_in, pairs_compared}
use Rattle.trace.specs.Theorems.{PairsCompared}
use Rattle.trace.proofs.Bools.{contrary, and_left, and_right}
use Rattle.trace.proofs.Run.{names-length}
use Rattle.trace.proofs.Triangle.{triangle-is}
use Rattle.trace.proofs.Searched.{NoneBefore, Ends, search-none, search-ends, search-cases}
use Rattle.trace.proofs.Places.{search-reorders}

module _ (M : Machine) (s : M.State) (p q : List ℕ) where
  abbrev pub searched : Search
  searched = search (opposed_in M s p q) (length p)

  -- the verdict by the search
  pub search-judges : equivalent M s p q ≡ (same_steps M s p q && not (has_ended searched))
  unfolding equivalent
  search-judges =
      ap (λ (b : Bool). same_steps M s p q && not b)
      (sym (search-reorders M.dep (names M s p) (names M s q)) ∙ ap (λ (m : ℕ). has_ended (search (opposed_in M s p q) m)) (names-length M s p))

  -- the number by the search
  pub number_is : (b : Bool) (t : Search) → same_steps M s p q ≡ b → searched ≡ t → pairs_compared M s p q ≡ cond b (compared_in t) 0
  unfolding pairs_compared
  number_is b t steps found = λ k. cond (steps k) (compared_in (found k)) 0

  all-compared : equivalent M s p q ≡ true → pairs_compared M s p q ≡ (length p * (length p - 1)) / 2
  all-compared h = go (search-cases (opposed_in M s p q) (length p))
    where
      judged : (same_steps M s p q && not (has_ended searched)) ≡ true
      judged = sym search-judges ∙ h

      go : Ends (opposed_in M s p q) (length p) ⊎ NoneBefore (opposed_in M s p q) (length p) → pairs_compared M s p q ≡ (length p * (length p - 1)) / 2
      go (inl e) =
          contrary (and_right (same_steps M s p q) (not (has_ended searched)) judged)
          (ap (λ (t : Search). not (has_ended t)) (search-ends (opposed_in M s p q) (length p) e))
      go (inr none) =
          number_is true _ (and_left (same_steps M s p q) (not (has_ended searched)) judged) (search-none (opposed_in M s p q) (length p) none)
          ∙ triangle-is (length p)

  pub pairs-compared : PairsCompared M s p q
  pairs-compared =
      record {
        other-steps = λ f. number_is false searched f refl;
        all = all-compared;
        up_to =
            λ i j h l steps o before none.
            number_is true _ steps
            (search-ends (opposed_in M s p q) (length p)
            (record { later = j; later-below = l; earlier = record { at = i; below = h; passes = o; none_before = none }; none_before = before }))
            ∙ ap (λ (t : ℕ). t + i + 1) (triangle-is j);
      }
