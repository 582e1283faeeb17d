-- The measure of `text::right` is the number.
-- Assumes nothing.
use Rattle.text.proofs.+right.Given as goal

abbrev pub decreases-right : goal.decreases-right
decreases-right l = l.x
