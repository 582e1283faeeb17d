-- How many pairs two lists of step names hold in opposite orders.
-- Assumes nothing: these are definitions.
use Rattle.std.specs.Prelude.{ℕ, zero, ◌+◌, Bool, cond, List, [], ◌∷◌}
use Rattle.trace.specs.Machine.{Name}
use Rattle.trace.specs.Order.{before}

-- how many members pass the test
abbrev pub count : (Name → Bool) → List Name → ℕ
count f [] = zero
count f (x ∷ l) = cond (f x) 1 0 + count f l

-- how many pairs the two lists hold in opposite orders (the inversions of one against the other): x before y in the first, y before x in
-- the second
abbrev pub inversions : List Name → List Name → ℕ
inversions [] v = zero
inversions (x ∷ u) v = count (λ y. before y x v) u + inversions u v
