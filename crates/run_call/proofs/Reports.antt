-- An execution's end can be reported: its report fits the room that a run asks for.
-- Assumes nothing.
use mathlib.Core.Path.{sym, subst}
use mathlib.Core.List.{List}
use Prim.Native.Nat.{ℕ, ◌≤◌}
use native.Mathlib.Omega.{arith}
use lib.ListN.{length}
use Rattle.model.specs.Site.{Site}
use Rattle.model.specs.Report.{report}
use Rattle.model.specs.Schedule.{end_state}
use Rattle.model.proofs.ReportBound.{reports-fit}
use Rattle.state.specs.declared.Actor.{Actor}
use Rattle.state.specs.declared.arrays.Site.{Site as Arrays}
use Rattle.state.specs.State.{site_of}
use Rattle.report.specs.Parts.{Reportable}
use Rattle.execution.specs.Parts.{AtEnd}
use Rattle.execution.proofs.Ends.{all-taken, positions-small}

module _ {table schedule : List ℕ} {arrays : Arrays} {names : List ℕ} {actors : List Actor} (E : AtEnd table schedule arrays names actors) where
  -- no report's length passes 4,514
  pub report-small : length (report table (site_of actors arrays)) ≤ 4514
  report-small =
      let fit = reports-fit table E.promise in
      let small : length (report table (end_state table schedule)) ≤ 4514 = omega (arith, fit.fits schedule (all-taken E), fit.room) in
      subst (λ (s : Site). length (report table s) ≤ 4514) (sym E.end.site) small

  pub reportable : (buffer : List ℕ) → 4514 ≤ length buffer → Reportable table actors arrays buffer
  reportable buffer room =
      record {
        accepted = E.promise;
        positions = positions-small E;
        room = omega (arith, report-small);
      }
