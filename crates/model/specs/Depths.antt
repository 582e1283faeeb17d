-- Depths at the end of every accepted schedule (document 02, W7): what an actor's own Locks and Unlocks of a mutex leave, counted from 0 and never below.
-- Proved in `proofs/Depths.antt`.
-- Assumes nothing: these are definitions.
use Rattle.std.specs.Prelude.{ℕ, suc, ◌-◌, ◌<◌, ◌≤◌, ◌≡◌, ◌↔◌, true, cond, List, [], ◌∷◌, eqb}
use Rattle.table.specs.Outcome.{accepted}
use Rattle.table.specs.Read.{read_of}
use Rattle.trace.specs.Machine.{Name}
use Rattle.trace.specs.Schedule.{names}
use Rattle.trace.specs.Order.{has}
use Rattle.model.specs.Site.{Queued, initial}
use Rattle.model.specs.Views.{Post, silent, mails, joins, leaves, notes, posts}
use Rattle.model.specs.Step.{action_at}
use Rattle.model.specs.Schedule.{machine, end_state}
use Rattle.model.specs.Reached.{Once, actors_in, DepthsWithin, locks_below}
use Rattle.model.specs.Demand3.{Accepted}

-- an actor's depth in a queue: 0 where it is not queued
abbrev pub depth_in : List Queued → ℕ → ℕ
depth_in [] a = 0
depth_in (x ∷ q) a = cond (eqb a x.actor) x.depth (depth_in q a)

-- one step more counted: a Lock of the mutex 1 more, an Unlock of it 1 less and never below 0
abbrev pub counted : (mutex : ℕ) → Post → ℕ → ℕ
counted m silent d = d
counted m (mails p) d = d
counted m (joins n) d = cond (eqb m n) (suc d) d
counted m (leaves n) d = cond (eqb m n) (d - 1) d
counted m notes d = d

-- an actor's own steps, in their order
abbrev pub own_steps : ℕ → List Name → List Name
own_steps a [] = []
own_steps a (x ∷ l) = cond (eqb a x.actor) (x ∷ own_steps a l) (own_steps a l)

module _ (table : List ℕ) where
  -- what these steps leave, counted from d
  abbrev pub balance : (mutex : ℕ) → List Name → ℕ → ℕ
  balance m [] d = d
  balance m (x ∷ l) d = balance m l (counted m (posts (action_at table x)) d)

  -- the steps of an actor that a schedule runs, and the depth that the actor has at its end
  abbrev pub steps_of : List ℕ → ℕ → List Name
  steps_of p a = own_steps a (names (machine table) initial p)

  abbrev pub depth_after : List ℕ → (mutex actor : ℕ) → ℕ
  depth_after p m a = depth_in ((end_state table p).queue m) a

pub record Counted (table p : List ℕ) : Type 0 where
  -- the balance: an actor's depth is what its own Locks and Unlocks leave
  pub balanced : (m a : ℕ) → depth_after table p m a ≡ balance table m (steps_of table p a) 0
  -- an actor stands in a queue at most once, and exactly where that is not 0
  pub once : (m : ℕ) → Once (actors_in ((end_state table p).queue m))
  pub queued : (m a : ℕ) → (has (actors_in ((end_state table p).queue m)) a ≡ true) ↔ (0 < depth_after table p m a)
  -- each depth is from 1 to the number of its actor's Locks of that mutex below its position; it fits its byte
  pub within : (m : ℕ) → DepthsWithin (locks_below table (end_state table p) m) ((end_state table p).queue m)
  pub most : (m a : ℕ) → depth_after table p m a ≤ 32

-- of every accepted table and schedule; and schedules that run the same steps of an actor leave it the same depths, whatever the others do
pub record EveryDepth : Type 0 where
  pub counts : (table p : List ℕ) → read_of table ≡ accepted → Accepted table p → Counted table p
  pub own_alone : (table p q : List ℕ) → read_of table ≡ accepted → Accepted table p → Accepted table q → (a : ℕ)
      → steps_of table p a ≡ steps_of table q a → (m : ℕ) → depth_after table p m a ≡ depth_after table q m a
