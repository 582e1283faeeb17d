-- `text::ten_columns` meets its contract. Assumes nothing.
use mathlib.Core.List.{◌∷◌}
use Prim.Native.Nat.{ℕ, ◌≤◌, ◌<◌, ◌^◌}
use native.Mathlib.Omega.{arith}
use lib.ListN.{length}
use Rattle.model.specs.Text.{decimal, right, space}
use Rattle.model.proofs.Columns.{length-right}
use Rattle.model.proofs.Decimal.{ten-digits}
use Rattle.text.proofs.Filling.{filling-more, filling-end, over-spaces}
use Rattle.text.proofs.ten_columns.Goals as goal

-- eleven columns
eleven : (x n : ℕ) → x < 2 ^ 32 → length (space ∷ right 10 (decimal x)) ≤ n → 11 ≤ n
eleven x n h g = omega (arith, length-right 10 (decimal x) (ten-digits x h))

pub loop-i-preserved : goal.loop-i-preserved
loop-i-preserved c = filling-more c.loop-i.invariant c.loop-i-test.true c.digit.result c.if-rest-eq0.false c.digit.ensures

pub returns-then-rest-eq0 : goal.returns-then-rest-eq0
returns-then-rest-eq0 c =
    let w = c.spaces-end in
    let filled = filling-end c.loop-i.invariant c.loop-i-test.true c.digit.result c.if-rest-eq0.true c.digit.ensures in
    over-spaces c.args.buf.now w.new.buf w.ensures (space ∷ right 10 (decimal c.args.x)) filled.0 filled.1
