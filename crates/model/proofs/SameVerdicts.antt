-- What a same verdict says, and that it is the same either way round.
-- Assumes nothing.
use Prim.Native.Nat.{ℕ}
use mathlib.Core.Path.{◌≡◌, ◌∙◌, ap}
use mathlib.Core.Logic.{◌↔◌}
use mathlib.Core.Bool.{Bool, cond}
use mathlib.Core.List.{List}
use Rattle.table.specs.Outcome.{accepted}
use Rattle.table.specs.Read.{read_of}
use Rattle.table.proofs.Checks.{then-left, then-right}
use Rattle.trace.specs.Chain.{Chained}
use Rattle.model.specs.Site.{initial}
use Rattle.model.specs.Schedule.{machine, first_numbers, second_numbers, check_schedule}
use Rattle.model.specs.Calls.{SameVerdict, same, different, comparison_of}
use Rattle.model.specs.Demand3.{Accepted, Says}
use Rattle.model.proofs.Checks.{checks-taken}
use Rattle.model.proofs.SameAnswers.{comparison-accepted}
use Rattle.model.proofs.Demand3.{site-theorems, says-test, demand-3}

module _ (table : List ℕ) where
  -- a verdict is given of accepted schedules only
  pub both-accepted : (p q : List ℕ) (v : SameVerdict) → Says (comparison_of table p q) v → Accepted table p × Accepted table q
  both-accepted p q v h =
      let checks = then-right (read_of table) _ (comparison-accepted table p q _ h.1) in (
        checks-taken table first_numbers initial 0 p (then-left (check_schedule first_numbers table p) _ checks),
        checks-taken table second_numbers initial 0 q (then-right (check_schedule first_numbers table p) _ checks),
      )

  module _ (read : read_of table ≡ accepted) where
    pub called_same : (p q : List ℕ)
        → Says (comparison_of table p q) same ↔ (Accepted table p × Accepted table q × Chained (machine table) initial p q)
    called_same p q = (
      λ h. let a = both-accepted p q same h in (a.0, a.1, ((demand-3 table read).called_same p q a.0 a.1).0 h),
      λ c. ((demand-3 table read).called_same p q c.0 c.1).1 c.2,
    )

    pub called-different : (p q : List ℕ)
        → Says (comparison_of table p q) different ↔ (Accepted table p × Accepted table q × (¬ Chained (machine table) initial p q))
    called-different p q = (
      λ h. let a = both-accepted p q different h in (a.0, a.1, ((demand-3 table read).called-different p q a.0 a.1).0 h),
      λ c. ((demand-3 table read).called-different p q c.0 c.1).1 c.2,
    )

    pub same-either-way : (p q : List ℕ) (v : SameVerdict) → Says (comparison_of table p q) v → Says (comparison_of table q p) v
    same-either-way p q v h =
        let a = both-accepted p q v h in
        (says-test table read q p a.1 a.0 v).1
        (ap (λ (b : Bool). cond b same different) ((site-theorems table).same-symmetric p q) ∙ (says-test table read p q a.0 a.1 v).0 h)
