-- What the page's writers take and promise, over the engine's arrays.
-- Assumes nothing: these are definitions.
use Rattle.std.specs.Prelude.{ℕ, ◌≤◌, cond, List, ltb, length}
use Rattle.table.specs.Format.{count_of}
use Rattle.model.specs.Text.{line}
use Rattle.model.specs.Page as Model
use Rattle.state.specs.declared.Actor.{Actor}
use Rattle.state.specs.State.{records_of, site_of, Positions}
use Rattle.state.specs.declared.arrays.Site.{Site as Arrays}
use Rattle.readiness.specs.Parts.{Answerable, step_from}
use Rattle.page.specs.declared.Status.{Status}
use Rattle.page.specs.declared.Status.TheVariants as case

abbrev pub status_as : Status → Model.Status
status_as case.Ready = Model.ready
status_as case.Waits = Model.waits
status_as case.Over = Model.over
status_as case.Finished = Model.finished

-- the status of an actor with the record r
abbrev pub status_from : List ℕ → ℕ → Actor → Arrays → Model.Status
status_from table a r site = cond (ltb r.position (count_of table a)) (Model.step_status (step_from table a r site)) Model.finished

-- an actor's line
unfoldable pub line_at : List ℕ → List Actor → Arrays → ℕ → List ℕ
line_at table actors site a =
    line (Model.actor_text a (records_of actors a) (Model.status_of table (site_of actors site) a))

-- a state that can be asked who is ready, and room for its page
pub record Pageable (table : List ℕ) (actors : List Actor) (site : Arrays) (buf : List ℕ) : Type 0 where
  pub answerable : Answerable table actors
  pub positions : Positions actors
  pub room : length (Model.page table (site_of actors site)) ≤ length buf
