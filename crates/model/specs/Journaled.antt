-- The journal at the end of every accepted schedule (document 02, W5): the Notes that were run, in the order they were run, with the values that
-- their cells had, and each Note at most once. Proved in `proofs/Journaled.antt`.
-- Assumes nothing: these are definitions.
use Rattle.std.specs.Prelude.{ℕ, zero, suc, ◌<◌, ◌≡◌, ◌↔◌, true, cond, List, [], ◌∷◌, ◌++◌, length, get_or, take}
use Rattle.table.specs.declared.Action.{Action}
use Rattle.table.specs.declared.Action.TheVariants.{Note}
use Rattle.table.specs.Outcome.{accepted}
use Rattle.table.specs.Read.{read_of}
use Rattle.trace.specs.Order.{mem, Distinct}
use Rattle.trace.specs.Machine.{Name}
use Rattle.model.specs.Site.{Entry}
use Rattle.model.specs.Views.{posts, sent}
use Rattle.model.specs.Pair.{is_note}
use Rattle.model.specs.Step.{action_at}
use Rattle.model.specs.Schedule.{end_state}
use Rattle.model.specs.Reached.{noted_in}
use Rattle.model.specs.Demand3.{Accepted, step_name}

-- what a step of this action adds, of this name and with these cells before it
abbrev pub noted : Action → Name → (cells : List ℕ) → List Entry
noted x me cells = cond (is_note (posts x)) (record { step = me; value = sent x cells } ∷ []) []

-- the entries `f k`, `f (k + 1)`, .., `n` of them, in order
abbrev pub in_order_of : (ℕ → List Entry) → ℕ → ℕ → List Entry
in_order_of f zero k = []
in_order_of f (suc n) k = f k ++ in_order_of f n (suc k)

module _ (table p : List ℕ) where
  -- what entry k of a schedule adds: its actor's cells are those at the end of the entries before it
  abbrev pub noted_at : ℕ → List Entry
  noted_at k =
      let me : Name = step_name table p k in noted (action_at table me) me ((end_state table (take k p)).actor me.actor).cells

pub record Journaled (table p : List ℕ) : Type 0 where
  -- the journal is what the schedule's entries add, one after another
  pub in_order : (end_state table p).journal ≡ in_order_of (noted_at table p) (length p) 0
  -- no step stands in it twice
  pub once : Distinct (noted_in (end_state table p).journal)
  -- a step stands in it exactly when it is a Note that was run
  pub exactly : (x : Name) → (mem x (noted_in (end_state table p).journal) ≡ true)
      ↔ ((cell : ℕ) × (action_at table x ≡ Note cell) × (x.position < ((end_state table p).actor x.actor).position))

-- of every accepted table and schedule; where a Note, and nothing else, adds an entry, with what its cell holds
pub record EveryJournal : Type 0 where
  pub journals : (table p : List ℕ) → read_of table ≡ accepted → Accepted table p → Journaled table p
  pub notes-alone : (x : Action) → (is_note (posts x) ≡ true) ↔ ((cell : ℕ) × (x ≡ Note cell))
  pub holds : (cell : ℕ) (cells : List ℕ) → sent (Note cell) cells ≡ get_or cells cell 0
