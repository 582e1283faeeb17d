-- What an execution leaves: the refusal of the table or of the schedule, or the end state in arrays.
-- Assumes nothing: these are definitions.
use Rattle.state.specs.declared.arrays.Site.{Site as Arrays}
use Rattle.std.specs.Prelude.{ℕ, ◌≡◌, Result, MatchResult, List}
use Rattle.table.specs.Outcome.{accepted, refused, number_of, position_of}
use Rattle.table.specs.Promise.{WellFormed}
use Rattle.model.specs.Calls.{ready_checks}
use Rattle.answers.specs.declared.Refusal.{Refusal}
use Rattle.answers.specs.Answers.{refusal_of}
use Rattle.state.specs.declared.Actor.{Actor}
use Rattle.play.specs.Parts.{Ended}

-- the table and the schedule are accepted, and the arrays hold the end state
pub record AtEnd (table schedule : List ℕ) (arrays : Arrays) (names' : List ℕ) (actors : List Actor) : Type 0 where
  pub promise : WellFormed table
  pub checked : ready_checks table schedule ≡ accepted
  pub end : Ended table schedule arrays names' actors

-- so it is, or the refusal is that of the table or of the schedule
abbrev pub Executed : (table schedule : List ℕ) (arrays : Arrays) (names' : List ℕ) → Result (List Actor) Refusal → Type 0
Executed table schedule arrays names' r =
    MatchResult r (AtEnd table schedule arrays names')
    (λ x. ready_checks table schedule ≡ refused (number_of (refusal_of x)) (position_of (refusal_of x)))
