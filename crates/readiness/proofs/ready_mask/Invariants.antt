-- The loop's invariant: m has the bits of the actors from i on.
-- Assumes nothing.
use Rattle.std.proofs.Common.{◌≡◌, ◌-◌}
use Rattle.model.specs.Step.{ready}
use Rattle.model.specs.Ready.{mask_of}
use Rattle.state.specs.State.{site_of}
use Rattle.readiness.proofs.ready_mask.Given as goal

abbrev pub invariant-loop-i : goal.invariant-loop-i
invariant-loop-i l =
    l.m ≡ mask_of (ready l.table (site_of l.actors l.site)) (l.n - l.i) l.i
