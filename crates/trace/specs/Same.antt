-- The same verdict: trace equivalence of two schedules, as a test that computes.
-- Assumes nothing: these are definitions.
use Rattle.std.specs.Prelude.{ℕ, Bool, false, not, ◌&&◌, ◌||◌, List, [], ◌∷◌, eqb, length}
use Rattle.trace.specs.Machine.{Machine, Name}
use Rattle.trace.specs.Schedule.{names}
use Rattle.trace.specs.Order.{before, within, any}

-- some dependent pair is held in opposite orders: x before y in the first list, y before x in the second
abbrev pub reorders : (Name → Name → Bool) → List Name → List Name → Bool
reorders dep [] v = false
reorders dep (x ∷ u) v = any (λ y. dep x y && before y x v) u || reorders dep u v

-- two schedules have equal lengths and run the same step names
abbrev pub same_steps : (M : Machine) → M.State → List ℕ → List ℕ → Bool
same_steps M s p q = eqb (length p) (length q) && (within (names M s p) (names M s q) && within (names M s q) (names M s p))

-- two schedules are the same when they have equal lengths, run the same step names, and run no dependent pair in opposite orders
unfoldable pub equivalent : (M : Machine) → M.State → List ℕ → List ℕ → Bool
equivalent M s p q = same_steps M s p q && not (reorders M.dep (names M s p) (names M s q))
