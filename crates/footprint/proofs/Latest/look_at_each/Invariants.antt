-- The loop's invariant: the numbers before those that are left have been looked at.
-- Assumes nothing.
use mathlib.Core.Path.{◌≡◌}
use Rattle.footprint.proofs.Lists.{Looking}
use Rattle.footprint.proofs.Latest.look_at_each.Given as goal

abbrev pub invariant-loop-k : goal.invariant-loop-k
invariant-loop-k g l =
    (l.self.posts ≡ l.fn.self.posts)
    × Looking l.fn.list (goal.F-post g l.resource) l.place l.fn.self.posts l.fn.self.looks l.k-iterator.n l.k-iterator.iter.rest.now l.self.looks l.met
