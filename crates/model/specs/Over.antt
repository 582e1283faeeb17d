-- Totals that run over (document 02, W2), of every table that the reader accepts: which steps are refused 21 and 22; that such a step never becomes
-- ready; that exchanged schedules meet it at the same step; and that no sum wraps. `proofs/Over.antt` proves it. Demand 3 is stated and holds as before.
-- Assumes nothing: these are definitions.
use Rattle.std.specs.Prelude.{ℕ, ◌+◌, ◌^◌, ◌<◌, ◌≡◌, ◌↔◌, ◌≢◌, false, List, [], ◌∷◌, ◌++◌, length, get_or, take}
use Rattle.table.specs.declared.Action.TheVariants.{Add}
use Rattle.table.specs.Format.{actors_of, count_of}
use Rattle.table.specs.Outcome.{accepted}
use Rattle.table.specs.Read.{read_of}
use Rattle.trace.specs.Chain.{Chain, replay}
use Rattle.trace.specs.Order.{has}
use Rattle.model.specs.Site.{initial}
use Rattle.model.specs.Step.{next_name, next_action}
use Rattle.model.specs.Ready.{bit_of, stuck, ReadyAnswer}
use Rattle.model.specs.Schedule.{machine, end_state, RefusalNumbers, check_schedule}
use Rattle.model.specs.Calls.{gives, refuses, run_of, ready_of, comparison_of}
use Rattle.model.specs.Page.{over, status_of, page_of}
use Rattle.model.specs.Determined.{Bytes}
use Rattle.model.specs.Demand3.{Accepted}

module _ (table : List ℕ) where
  -- the cells of an actor at the end of a schedule
  abbrev pub cells_at : List ℕ → ℕ → List ℕ
  cells_at p a = ((end_state table p).actor a).cells

  -- the next step of an actor after a schedule is over, as a call tells it: with that step added the schedule is refused 21 there
  abbrev pub OverAfter : List ℕ → ℕ → Type 0
  OverAfter p a = ready_of table (p ++ (a ∷ [])) ≡ refuses 21 (length p)

  -- an actor of the table is not finished
  abbrev pub Unfinished : List ℕ → ℕ → Type 0
  Unfinished p a = (a < actors_of table) × (((end_state table p).actor a).position < count_of table a)

  -- an actor of the table is not finished, and its next action is an Add whose sum would pass 4,294,967,295
  abbrev pub WouldPass : List ℕ → ℕ → Type 0
  WouldPass p a =
      (cell : ℕ) × (other : ℕ) × Unfinished p a × (next_action table (end_state table p) a ≡ Add cell other)
      × (4294967295 < get_or (cells_at p a) cell 0 + get_or (cells_at p a) other 0)

-- an actor that is over, as the calls show it: "its bit in the mask is 0, the page shows `over`"
pub record ShownOver (table p : List ℕ) (a : ℕ) (now : ReadyAnswer) : Type 0 where
  pub bit-zero : bit_of now.mask a ≡ 0
  pub status : status_of table (end_state table p) a ≡ over

-- an actor is over, with the same action next, after more steps as it was before them
pub record StillOver (table p more : List ℕ) (a : ℕ) (later : ReadyAnswer) : Type 0 where
  -- none of the steps is its own
  pub others : has more a ≡ false
  pub over-still : OverAfter table (p ++ more) a
  pub shown-still : ShownOver table (p ++ more) a later
  pub same_name : next_name table (end_state table (p ++ more)) a ≡ next_name table (end_state table p) a
  pub same-action : next_action table (end_state table (p ++ more)) a ≡ next_action table (end_state table p) a

-- two beginnings of a schedule: whatever follows them, all is accepted or refused alike, with the same number at the same entry, by the first
-- schedule's numbers and by the second's; the calls answer alike, and lent bytes are left alike
pub record GoOnAlike (table p q rest : List ℕ) : Type 0 where
  pub checks : (n : RefusalNumbers) → check_schedule n table (q ++ rest) ≡ check_schedule n table (p ++ rest)
  pub readies : ready_of table (q ++ rest) ≡ ready_of table (p ++ rest)
  pub runs : (buffer : List ℕ) → run_of table (q ++ rest) buffer ≡ run_of table (p ++ rest) buffer
  pub pages : (buffer : List ℕ) → page_of table (q ++ rest) buffer ≡ page_of table (p ++ rest) buffer
  pub statuses : (a : ℕ) → status_of table (end_state table (q ++ rest)) a ≡ status_of table (end_state table (p ++ rest)) a

-- the cells after an Add: the plain sum, which 32 bits hold, and the other cells as they were
pub record PlainSum (before after : List ℕ) (cell other : ℕ) : Type 0 where
  pub sum : get_or after cell 0 ≡ get_or before cell 0 + get_or before other 0
  pub fits : get_or after cell 0 < 2 ^ 32
  pub kept : (c : ℕ) → c ≢ cell → get_or after c 0 ≡ get_or before c 0

pub record Over (table : List ℕ) : Type 0 where
  -- 21 is given of such an Add and of nothing else
  pub exactly : (p : List ℕ) (a : ℕ) → Accepted table p → OverAfter table p a ↔ WouldPass table p a
  -- and so is 22, of the second of two schedules
  pub exactly-second : (first p : List ℕ) (a : ℕ) → Accepted table first → Accepted table p
      → (comparison_of table first (p ++ (a ∷ [])) ≡ refuses 22 (length p)) ↔ WouldPass table p a
  -- at the schedule itself
  pub shown : (p : List ℕ) (a : ℕ) (now : ReadyAnswer) → OverAfter table p a → ready_of table p ≡ gives now → ShownOver table p a now
  -- "a site with only such steps left is stuck": somebody is not finished, and everybody who is not finished is over
  pub only-over : (p : List ℕ) (u : ℕ) → Accepted table p → Unfinished table p u → ((a : ℕ) → Unfinished table p a → OverAfter table p a)
      → ready_of table p ≡ gives (record { mask = 0; count = 0; ending = stuck })
  -- "never becomes so": no schedule that goes on from there steps that actor, and after each of them it is over still
  pub never-ready : (p more : List ℕ) (a : ℕ) (later : ReadyAnswer) → OverAfter table p a → ready_of table (p ++ more) ≡ gives later
      → StillOver table p more a later
  -- "exchanged schedules meet it at the same step": along a chain from an accepted beginning, each schedule on the way and the last one
  pub exchanged : (chain p q rest : List ℕ) → Accepted table p → Chain (machine table) initial chain p q
      → ((n : ℕ) → GoOnAlike table p (replay (take n chain) p) rest) × GoOnAlike table p q rest
  -- no sum wraps
  pub sums : (p : List ℕ) (a cell other : ℕ) → Accepted table (p ++ (a ∷ [])) → next_action table (end_state table p) a ≡ Add cell other
      → PlainSum (cells_at table p a) (cells_at table (p ++ (a ∷ [])) a) cell other
  -- nor does any cell of a table of bytes pass 32 bits
  pub cells_fit : Bytes table → (p : List ℕ) → Accepted table p → (a c : ℕ) → get_or (cells_at table p a) c 0 < 2 ^ 32

abbrev pub EveryOver : Type 0
EveryOver = (table : List ℕ) → read_of table ≡ accepted → Over table
