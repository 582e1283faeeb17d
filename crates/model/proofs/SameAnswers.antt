-- The answer of the call same by its checks: refused exactly as they refuse, and given exactly where they accept.
-- Assumes nothing.
use Prim.Native.Nat.{ℕ}
use native.Mathlib.Omega.{arith}
use mathlib.Core.Path.{◌≡◌, refl}
use mathlib.Core.Logic.{◌↔◌}
use mathlib.Core.Bool.{cond}
use mathlib.Core.List.{List}
use Rattle.table.specs.Outcome.{Outcome, accepted, refused}
use Rattle.trace.specs.Same.{equivalent}
use Rattle.trace.specs.Search.{pairs_compared}
use Rattle.model.specs.Site.{initial}
use Rattle.model.specs.Schedule.{machine}
use Rattle.model.specs.Calls.{gives, refuses, answer, SameVerdict, same, different, same_checks, same_of, Comparison, beside, comparison_of}

pub answer-refused : {A : Type 0} (o : Outcome) (a : A) (n p : ℕ) → answer o a ≡ refuses n p → o ≡ refused n p
answer-refused accepted a n p e = let z : ◌≡◌ {A = ℕ} 0 1 = cc in absurd (omega arith)
answer-refused (refused m q) a n p e = cc

beside-refused : (pairs : ℕ) (o : Outcome) (v : SameVerdict) (n p : ℕ) → beside pairs (answer o v) ≡ refuses n p → o ≡ refused n p
beside-refused pairs accepted v n p e = let z : ◌≡◌ {A = ℕ} 0 1 = cc in absurd (omega arith)
beside-refused pairs (refused m q) v n p e = cc

beside-given : (pairs : ℕ) (o : Outcome) (v : SameVerdict) (c : Comparison) → beside pairs (answer o v) ≡ gives c → o ≡ accepted
beside-given pairs accepted v c e = refl
beside-given pairs (refused m q) v c e = let z : ◌≡◌ {A = ℕ} 0 1 = cc in absurd (omega arith)

module _ (table first second : List ℕ) where
  pub comparison-refused : (n p : ℕ) → (comparison_of table first second ≡ refuses n p) ↔ (same_checks table first second ≡ refused n p)
  unfolding comparison_of same_of
  comparison-refused n p = (beside-refused _ (same_checks table first second) _ n p, λ e. rw e)

  pub comparison-checked : same_checks table first second ≡ accepted
      → comparison_of table first second
      ≡ gives
      (record {
        verdict = cond (equivalent (machine table) initial first second) same different;
        pairs = pairs_compared (machine table) initial first second;
      })
  unfolding comparison_of same_of
  comparison-checked e = rw e

  pub comparison-accepted : (c : Comparison) → comparison_of table first second ≡ gives c → same_checks table first second ≡ accepted
  unfolding comparison_of same_of
  comparison-accepted c e = beside-given _ (same_checks table first second) _ c e
