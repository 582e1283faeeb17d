-- The loop's invariant: the number's last digits stand behind the first i columns, and spaces in those.
-- Assumes nothing.
use Rattle.text.proofs.Filling.{Filling}
use Rattle.text.proofs.ten_columns.Given as goal

abbrev pub invariant-loop-i : goal.invariant-loop-i
invariant-loop-i l = Filling l.initial.buf l.x l.buf l.rest l.i
