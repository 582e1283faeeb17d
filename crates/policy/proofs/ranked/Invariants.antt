-- The loop's invariant.
-- Assumes nothing.
use Rattle.std.proofs.Common.{◌≡◌, ℕ, ◌-◌, ◌^◌, ◌<◌, Bool}
use lib.Count.{ones}
use Rattle.model.specs.Ready.{mask_of}
use Rattle.policy.proofs.Ranks.{Search}
use Rattle.policy.proofs.ranked.Given as goal

abbrev pub invariant-loop-a : goal.invariant-loop-a
invariant-loop-a l =
    (l.r < ones l.m) × (l.m < 2 ^ (32 - l.a)) × ((f : ℕ → Bool) (n : ℕ) → l.mask ≡ mask_of f n 0 → Search f n l.rank l.a l.m l.r)
