-- No accepted schedule has more entries than the table has actions: each step raises one position by one, and no position passes its count.
-- Assumes nothing.
use Prim.Native.Nat.{ℕ, zero, suc, ◌+◌, ◌≤◌, ◌<◌}
use native.Mathlib.Omega.{arith}
use mathlib.Core.Path.{◌≡◌, ap}
use mathlib.Core.Logic.{◌⊎◌, inl, inr, ◌≢◌}
use mathlib.Core.Bool.{true, false}
use mathlib.Core.List.{List, [], ◌∷◌}
use lib.Dec.{eqb}
use borrow.Author.Tests.{ltb-true, eqb-true, eqb-false}
use lib.ListN.{length}
use Rattle.table.specs.Format.{actors_of, count_of}
use Rattle.trace.specs.Schedule.{accepted, final}
use Rattle.trace.proofs.Bools.{which}
use Rattle.trace.proofs.Run.{first-ready, rest-accepted}
use Rattle.model.specs.Site.{Actor, Site, initial}
use Rattle.model.specs.Step.{ready, step}
use Rattle.model.specs.Schedule.{machine}
use Rattle.model.specs.Bound.{sum_of, action_count}
use Rattle.model.specs.Reached.{Reached}
use Rattle.model.proofs.Invariant.{own-position, others-record}
use Rattle.model.proofs.ReportBoundCounts.{sum-le}
use Rattle.model.proofs.Checks.{ready-parts}
use Rattle.model.proofs.Reached.{reached-initial, reached-final}

-- one number of a sum raised by one
sum-raised : (f g : ℕ → ℕ) (a n k : ℕ) → k ≤ a → a < k + n → g a ≡ suc (f a) → ((j : ℕ) → j ≢ a → g j ≡ f j)
    → sum_of g n k ≡ suc (sum_of f n k)
sum-raised f g a zero k l h own other = absurd (omega arith)
sum-raised f g a (suc n) k l h own other = go (which (eqb k a)) (λ e. sum-raised f g a n (suc k) e (omega arith) own other)
  where
    -- past that number
    same : (k ≡ a) → sum_of g n (suc k) ≡ sum_of f n (suc k)
    same e =
        omega (
          arith,
          sum-le g f n (suc k) (λ j b c. omega (arith, other j (omega arith))),
          sum-le f g n (suc k) (λ j b c. omega (arith, other j (omega arith))),
        )

    go : (eqb k a ≡ true) ⊎ (eqb k a ≡ false) → (suc k ≤ a → sum_of g n (suc k) ≡ suc (sum_of f n (suc k)))
        → sum_of g (suc n) k ≡ suc (sum_of f (suc n) k)
    go (inl e) rest =
        let here : k ≡ a = eqb-true k a e in
        let raised : g k ≡ suc (f k) = rw here own in
        omega (arith, same here)
    go (inr e) rest =
        let ne : k ≢ a = eqb-false k a e in
        omega (arith, other k ne, rest (omega arith))

module _ (table : List ℕ) where
  -- the steps that all actors have taken
  abbrev pub taken : Site → ℕ
  taken s = sum_of (λ a. (s.actor a).position) (actors_of table) 0

  pub step-taken : (s : Site) (a : ℕ) → ready table s a ≡ true → taken (step table s a) ≡ suc (taken s)
  step-taken s a r =
      sum-raised (λ b. (s.actor b).position) (λ b. ((step table s a).actor b).position) a (actors_of table) 0 (omega arith)
      (omega (arith, ltb-true a (actors_of table) (ready-parts table s a r).0)) (own-position table s a)
      (λ b ne. ap (λ (c : Actor). c.position) (others-record table s b a ne))

  pub schedule-taken : (s : Site) (p : List ℕ) → accepted (machine table) s p ≡ true → taken (final (machine table) s p) ≡ length p + taken s
  schedule-taken s [] h = omega arith
  schedule-taken s (a ∷ p) h =
      omega (
        arith,
        schedule-taken (step table s a) p (rest-accepted (machine table) s a p h),
        step-taken s a (first-ready (machine table) s a p h),
      )

  -- from any start that is as reached; and from a fresh site
  pub schedule-most : (s : Site) (p : List ℕ) → Reached table s → accepted (machine table) s p ≡ true → length p + taken s ≤ action_count table
  schedule-most s p r h =
      omega (
        arith,
        schedule-taken s p h,
        sum-le (λ a. ((final (machine table) s p).actor a).position) (count_of table) (actors_of table) 0
            (λ a l b. (reached-final table s p r h).position-most a),
      )

  pub entries-most : (p : List ℕ) → accepted (machine table) initial p ≡ true → length p ≤ action_count table
  entries-most p h = omega (arith, schedule-most initial p (reached-initial table) h)
