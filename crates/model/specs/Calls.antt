-- The outcome of each call for every input: run, ready, pair and same. Each makes its checks in the order of "Where a refusal arises".
-- Assumes nothing: these are definitions.
use Rattle.std.specs.Prelude.{ℕ, Bool, ◌&&◌, cond, List, ◌++◌, ltb, leb, length, drop}
use Rattle.table.specs.Outcome.{Outcome, accepted, refused, demand, ◌⨾◌}
use Rattle.table.specs.Format.{actors_of, count_of}
use Rattle.table.specs.Read.{read_of}
use Rattle.trace.specs.Machine.{Name}
use Rattle.trace.specs.Same.{equivalent}
use Rattle.trace.specs.Search.{pairs_compared}
use Rattle.model.specs.Site.{initial}
use Rattle.model.specs.Ready.{ReadyAnswer, ready_answer}
use Rattle.model.specs.Pair.{depends}
use Rattle.model.specs.Report.{report}
use Rattle.model.specs.Schedule.{machine, end_state, first_numbers, second_numbers, check_schedule}

-- a call's result: an answer, or a refusal with its number and position
pub data Result (A : Type 0) : Type 0 where
  gives : A → Result A
  refuses : (number position : ℕ) → Result A

-- the answer, where the checks accept
abbrev pub answer : {A : Type 0} → Outcome → A → Result A
answer accepted a = gives a
answer (refused number position) a = refuses number position

-- what a call that writes into lent bytes leaves: its result, the number of bytes written; and the lent bytes
pub record Filled : Type 0 where
  pub result : Result ℕ
  pub lent : List ℕ

-- what is written in front, and the lent bytes after it as they were; a refusal changes nothing
abbrev pub lent_after : Outcome → List ℕ → List ℕ → List ℕ
lent_after accepted written buffer = written ++ drop (length written) buffer
lent_after (refused number position) written buffer = buffer

abbrev pub fills : Outcome → (written buffer : List ℕ) → Filled
fills checks written buffer = record { result = answer checks (length written); lent = lent_after checks written buffer }

-- ---- run

-- refusal 10: a report buffer must have this many bytes, which no report passes
abbrev pub report_room : ℕ
report_room = 4514

-- 10, then 1 to 9, then 11 to 13 and 21, entry by entry
abbrev pub run_checks : List ℕ → List ℕ → List ℕ → Outcome
run_checks table schedule buffer =
    demand (leb report_room (length buffer)) 10 0 ⨾ read_of table ⨾ check_schedule first_numbers table schedule

-- the report's length, and the lent bytes with the report in front
unfoldable pub run_of : (table schedule buffer : List ℕ) → Filled
run_of table schedule buffer = fills (run_checks table schedule buffer) (report table (end_state table schedule)) buffer

-- ---- ready

-- 1 to 9, then 11 to 13 and 21, entry by entry
abbrev pub ready_checks : List ℕ → List ℕ → Outcome
ready_checks table schedule = read_of table ⨾ check_schedule first_numbers table schedule

unfoldable pub ready_of : (table schedule : List ℕ) → Result ReadyAnswer
ready_of table schedule = answer (ready_checks table schedule) (ready_answer table (end_state table schedule))

-- ---- pair

pub data PairVerdict : Type 0 where
  independent dependent : PairVerdict

-- a name is in the table: it has the actor, and the actor has the action
abbrev pub in_table : List ℕ → Name → Bool
in_table table x = ltb x.actor (actors_of table) && ltb x.position (count_of table x.actor)

-- 1 to 9, then 17
abbrev pub pair_checks : List ℕ → Name → Name → Outcome
pair_checks table x y = read_of table ⨾ demand (in_table table x && in_table table y) 17 0

unfoldable pub pair_of : (table : List ℕ) (x y : Name) → Result PairVerdict
pair_of table x y = answer (pair_checks table x y) (cond (depends table x y) dependent independent)

-- ---- same

pub data SameVerdict : Type 0 where
  same different : SameVerdict

-- 1 to 9, then 11 to 13 and 21 over the first schedule, then 14 to 16 and 22 over the second
abbrev pub same_checks : List ℕ → List ℕ → List ℕ → Outcome
same_checks table first second =
    read_of table ⨾ check_schedule first_numbers table first ⨾ check_schedule second_numbers table second

unfoldable pub same_of : (table first second : List ℕ) → Result SameVerdict
same_of table first second = answer (same_checks table first second) (cond (equivalent (machine table) initial first second) same different)

-- what the call answers: the verdict, and how many pairs of steps were compared (document 02, W6; what the number tells is stated in `ComparisonLaws`)
pub record Comparison : Type 0 where
  pub verdict : SameVerdict
  pub pairs : ℕ

abbrev pub beside : (pairs : ℕ) → Result SameVerdict → Result Comparison
beside pairs (gives verdict) = gives (record { verdict = verdict; pairs = pairs })
beside pairs (refuses number position) = refuses number position

unfoldable pub comparison_of : (table first second : List ℕ) → Result Comparison
comparison_of table first second = beside (pairs_compared (machine table) initial first second) (same_of table first second)
