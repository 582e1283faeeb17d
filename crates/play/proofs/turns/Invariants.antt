-- The loop over a schedule's entries: its invariant, the arrays hold the state that the first i entries of the schedule played have left, and all of
-- them were taken; who leads is the lent schedule, or a policy that makes the rest from that state.
-- Assumes nothing.
use Rattle.play.specs.Parts.{played_by}
use Rattle.play.proofs.Playing.{Playing, Named}
use Rattle.play.proofs.Leading.{Leads}
use Rattle.play.proofs.turns.Given as goal

abbrev pub invariant-loop-i : goal.invariant-loop-i
invariant-loop-i l =
    let whole = played_by l.table l.fn.lead in
    Playing l.table whole l.site l.actors l.i × Named l.table whole l.names l.i
    × Leads l.lead l.table whole l.mask l.last l.i l.actors l.site
