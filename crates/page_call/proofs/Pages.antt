-- An execution's end can be laid out: its page fits the room that the page call asks for.
-- Assumes nothing.
use mathlib.Core.Path.{◌≡◌, ◌∙◌, ap, sym, subst}
use mathlib.Core.List.{List}
use Prim.Native.Nat.{ℕ, ◌≤◌}
use native.Mathlib.Omega.{arith}
use lib.ListN.{length}
use Rattle.model.specs.Schedule.{end_state}
use Rattle.model.specs.Page.{page}
use Rattle.model.specs.Determined.{Bytes}
use Rattle.model.proofs.PageShape.{page-shape}
use Rattle.model.proofs.Reached.{reached-end}
use Rattle.model.proofs.ReportBoundValues.{small-end}
use Rattle.state.specs.declared.Actor.{Actor}
use Rattle.state.specs.declared.arrays.Site.{Site as Arrays}
use Rattle.state.specs.State.{site_of}
use Rattle.page.specs.Parts.{Pageable}
use Rattle.execution.specs.Parts.{AtEnd}
use Rattle.execution.proofs.Ends.{all-taken, positions-small, answerable}

module _ {table schedule : List ℕ} {arrays : Arrays} {names : List ℕ} {actors : List Actor} (E : AtEnd table schedule arrays names actors) where
  -- of a file of bytes, no page's length passes 816
  pub page-small : Bytes table → length (page table (site_of actors arrays)) ≤ 816
  page-small bytes =
      let shape = page-shape table E.promise (end_state table schedule) (reached-end table schedule (all-taken E)).position-most (small-end table bytes schedule (all-taken E)) in
      subst (λ (l : List ℕ). length l ≤ 816) (sym (ap (page table) E.end.site)) shape.page-most

  pub pageable : Bytes table → (buffer : List ℕ) → 816 ≤ length buffer → Pageable table actors arrays buffer
  pageable bytes buffer room =
      record { answerable = answerable E; positions = positions-small E; room = omega (arith, page-small bytes) }
