-- `policy::ranked` meets its contract. The loop's invariant: m has the bits from a on, and the one looked for has the rank r among their ones.
-- Assumes nothing.
use Rattle.std.proofs.Common.{◌≡◌, ℕ, zero, suc, ◌+◌, ◌-◌, ◌*◌, ◌^◌, ◌<◌, ap, ◌∙◌, arith}
use native.Mathlib.Nat.{pow-succ'}
use lib.Count.{ones, ones_step}
use Rattle.policy.proofs.Ranks.{search-begin, search-found, search-next}
use Rattle.policy.proofs.ranked.Goals as goal

-- a one is left
some_left : (m r : ℕ) → r < ones m → 0 < m
unfolding ones
some_left zero r h = absurd (omega arith)
some_left (suc m) r h = omega arith

pub loop-a-init : goal.loop-a-init
loop-a-init c = (c.requires, omega (arith, c.ranges.mask), λ f n e. search-begin f n c.args.rank c.args.mask e)

pub returns-then-r-b : goal.returns-then-r-b
returns-then-r-b c =
    let l = c.loop-a in
    λ f n e. search-found f n c.args.rank (l.invariant.2 f n e) (some_left l.m l.r l.invariant.0) c.if-r-b.true

pub loop-a-preserved : goal.loop-a-preserved
loop-a-preserved c =
    let l = c.loop-a in
    let one : 32 - l.a ≡ suc (32 - (l.a + 1)) = omega arith in
    let twice : 2 ^ (32 - l.a) ≡ 2 * 2 ^ (32 - (l.a + 1)) = ap (λ (n : ℕ). 2 ^ n) one ∙ pow-succ' 2 (32 - (l.a + 1)) in (
      omega (arith, ones_step l.m, l.invariant.0, c.if-r-b.false),
      omega (arith, l.invariant.1, twice),
      λ f n e. search-next f n c.args.rank (l.invariant.2 f n e) (some_left l.m l.r l.invariant.0) c.if-r-b.false,
    )
