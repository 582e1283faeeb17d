-- What the calls on two schedules know of them: where each halts, and the names of the steps that it runs, in bytes.
-- Assumes nothing: these are definitions.
use Rattle.std.specs.Prelude.{ℕ, ◌≤◌, ◌≡◌, ⊤, cond, Result, Ok, MatchResult, List, length}
use Rattle.table.specs.Outcome.{accepted}
use Rattle.table.specs.Read.{read_of}
use Rattle.table.specs.Promise.{WellFormed}
use Rattle.trace.specs.Schedule.{names}
use Rattle.trace.specs.Same.{equivalent}
use Rattle.trace.specs.Search.{pairs_compared}
use Rattle.model.specs.Site.{initial}
use Rattle.model.specs.Schedule.{machine, RefusalNumbers, first_numbers, second_numbers, check_schedule}
use Rattle.model.specs.Calls.{same, different, comparison_of}
use Rattle.names.specs.Names.{names_in}
use Rattle.answers.specs.declared.Stop.{Stop}
use Rattle.answers.specs.declared.Refusal.{Refusal}
use Rattle.answers.specs.declared.Comparison.{Comparison}
use Rattle.answers.specs.declared.Comparison.TheVariants.{Same}
use Rattle.answers.specs.Answers.{stop_of, comparison_as, same_result}

-- the names of the steps that an accepted schedule runs stand in the first bytes, in their order
pub record Kept (table schedule bytes : List ℕ) : Type 0 where
  pub entries-most : length schedule ≤ 256
  pub bytes-long : length bytes ≡ 256
  pub names-right : names_in (length schedule) bytes ≡ names (machine table) initial schedule

-- a schedule is accepted, and its names are kept
pub record Followed (table schedule bytes : List ℕ) : Type 0 where
  pub checked : (n : RefusalNumbers) → check_schedule n table schedule ≡ accepted
  pub kept : Kept table schedule bytes

-- so it is, or the schedule stops as its check refuses it
abbrev pub Traced : (table schedule bytes : List ℕ) → Result ⊤ Stop → Type 0
Traced table schedule bytes r =
    MatchResult r (λ done. Followed table schedule bytes) (λ stop. (n : RefusalNumbers) → check_schedule n table schedule ≡ stop_of n stop)

-- the table and both schedules are accepted
pub record Judged (table first second first_bytes second_bytes : List ℕ) : Type 0 where
  pub read : read_of table ≡ accepted
  pub promise : WellFormed table
  pub first_fine : check_schedule first_numbers table first ≡ accepted
  pub second-fine : check_schedule second_numbers table second ≡ accepted
  pub first-kept : Kept table first first_bytes
  pub second-kept : Kept table second second_bytes

-- the verdict on two accepted schedules and its number are the trace theory's
abbrev pub Verdict : (table first second : List ℕ) → Comparison → Type 0
Verdict table first second r =
    comparison_as r
    ≡ record { verdict = cond (equivalent (machine table) initial first second) same different; pairs = pairs_compared (machine table) initial first second }

-- the answer is the outcome of `same`, and where it is "same" both schedules' names are kept
pub record ComparedRight (table first second first_bytes second_bytes : List ℕ) (r : Result Comparison Refusal) : Type 0 where
  pub right : same_result r ≡ comparison_of table first second
  pub kept : (pairs : ℕ) → r ≡ Ok (Same pairs) → Kept table first first_bytes × Kept table second second_bytes
