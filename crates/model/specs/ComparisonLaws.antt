-- What the number of pairs compared tells (document 02, W6). `proofs/ComparisonLaws.antt` proves it.
-- Assumes nothing: these are definitions.
use Rattle.std.specs.Prelude.{ℕ, ◌+◌, ◌*◌, ◌-◌, ◌/◌, ◌<◌, ◌≤◌, ◌≡◌, ◌⊎◌, ◌↔◌, true, false, List, length}
use Rattle.table.specs.Outcome.{accepted}
use Rattle.table.specs.Read.{read_of}
use Rattle.trace.specs.Schedule.{names}
use Rattle.trace.specs.Order.{before}
use Rattle.trace.specs.Same.{same_steps}
use Rattle.model.specs.Site.{initial}
use Rattle.model.specs.Schedule.{machine}
use Rattle.model.specs.Calls.{Result, gives, refuses, pair_of, dependent, SameVerdict, same, different, same_of, Comparison, comparison_of}
use Rattle.model.specs.Demand3.{Accepted, step_name}

-- the verdict in an answer
abbrev pub verdict_in : Result Comparison → Result SameVerdict
verdict_in (gives c) = gives c.verdict
verdict_in (refuses number position) = refuses number position

-- how many pairs of entries i < j a schedule of m entries has
abbrev pub all_pairs : ℕ → ℕ
all_pairs m = m * (m - 1) / 2

-- "j·(j − 1)/2 + i + 1": the number of the pair (i, j)
abbrev pub number_telling : (i j : ℕ) → ℕ
number_telling i j = all_pairs j + i + 1

-- a pair (k, l) is compared before the pair (i, j): "by rising j, then rising i"
abbrev pub Sooner : (k l i j : ℕ) → Type 0
Sooner k l i j = (l < j) ⊎ ((l ≡ j) × (k < i))

module _ (table p q : List ℕ) where
  -- entries i < j of the first schedule run dependent steps, by the call pair, and the second runs these in the opposite order
  pub record Crossed (i j : ℕ) : Type 0 where
    pub in_order : i < j
    pub in-first : j < length p
    pub dependently : pair_of table (step_name table p i) (step_name table p j) ≡ gives dependent
    pub opposite : before (step_name table p j) (step_name table p i) (names (machine table) initial q) ≡ true

  -- the first such pair
  pub record FirstCrossed (i j : ℕ) : Type 0 where
    pub crossed : Crossed i j
    pub none-sooner : (k l : ℕ) → Sooner k l i j → ¬ Crossed k l

  -- the answer is a verdict with a number
  abbrev pub Answers : SameVerdict → ℕ → Type 0
  Answers verdict pairs = comparison_of table p q ≡ gives (record { verdict = verdict; pairs = pairs })

-- of a table that the reader accepts
pub record Comparisons (table : List ℕ) : Type 0 where
  -- "all when same"
  pub all-compared : (p q : List ℕ) (n : ℕ) → Answers table p q same n → n ≡ all_pairs (length p)
  -- "0 when lengths differ or the two did not run the same steps"
  pub none-compared : (p q : List ℕ) → Accepted table p → Accepted table q → same_steps (machine table) initial p q ≡ false → Answers table p q different 0
  -- otherwise the number tells the pair that ended the search: it is the first that is crossed
  pub tells : (p q : List ℕ) (n : ℕ) → Answers table p q different n → 0 < n
      → (i : ℕ) × (j : ℕ) × FirstCrossed table p q i j × (n ≡ number_telling i j)
  pub told : (p q : List ℕ) (i j : ℕ) → Accepted table p → Accepted table q → same_steps (machine table) initial p q ≡ true → FirstCrossed table p q i j
      → Answers table p q different (number_telling i j)
  -- "different" with a number above 0 is said exactly where the two run the same steps and some pair is crossed
  pub found : (p q : List ℕ) → Accepted table p → Accepted table q
      → ((n : ℕ) × (0 < n) × Answers table p q different n)
      ↔ ((same_steps (machine table) initial p q ≡ true) × ((i : ℕ) × (j : ℕ) × Crossed table p q i j))

pub record EveryComparison : Type 0 where
  -- of any table, one that the reader refuses too: the verdict beside the number is that of `same_of`
  pub verdicts : (table p q : List ℕ) → verdict_in (comparison_of table p q) ≡ same_of table p q
  -- one pair for each number from 1 on
  pub one-pair : (i j k l : ℕ) → i < j → k < l → number_telling i j ≡ number_telling k l → (i ≡ k) × (j ≡ l)
  pub some_pair : (m n : ℕ) → 0 < n → n ≤ all_pairs m → (i : ℕ) × (j : ℕ) × (i < j) × (j < m) × (n ≡ number_telling i j)
  pub accepted-table : (table : List ℕ) → read_of table ≡ accepted → Comparisons table
