-- The loop's invariant: the actors of the first i names are written.
-- Assumes nothing.
use mathlib.Core.Path.{◌≡◌}
use Rattle.scheduler.proofs.Entries.{written}
use Rattle.scheduler.proofs.write.Given as goal

abbrev pub invariant-loop-i : goal.invariant-loop-i
invariant-loop-i l = l.entries ≡ written l.name-items l.initial.entries l.i
