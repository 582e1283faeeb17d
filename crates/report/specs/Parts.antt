-- What writing a report asks.
-- Assumes nothing: these are definitions.
use Rattle.std.specs.Prelude.{ℕ, ◌≤◌, List, length}
use Rattle.table.specs.Promise.{WellFormed}
use Rattle.model.specs.Report.{report}
use Rattle.state.specs.declared.Actor.{Actor}
use Rattle.state.specs.declared.arrays.Site.{Site as Arrays}
use Rattle.state.specs.State.{site_of, Positions}

-- an accepted table, a state in its arrays, and room for the report
pub record Reportable (table : List ℕ) (actors : List Actor) (arrays : Arrays) (buf : List ℕ) : Type 0 where
  pub accepted : WellFormed table
  pub positions : Positions actors
  pub room : length (report table (site_of actors arrays)) ≤ length buf
