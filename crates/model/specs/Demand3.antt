-- Demand 3: exchanging independent steps changes nothing that a call shows, what is ready stays ready, and "same" is said exactly where a chain of
-- exchanges leads from one schedule to the other. One statement, `EveryTable`, with one proof, in `proofs/Demand3.antt`. `accepted`, `Exchange`,
-- `Chain` and `Chained` are the trace theory's, at the table's machine and a fresh site; the calls are those that the engine's contracts cite.
-- Assumes nothing: these are definitions.
use Rattle.std.specs.Prelude.{ℕ, suc, ◌<◌, ◌≡◌, ◌↔◌, true, false, List, ◌++◌, length, get_or, take}
use Rattle.table.specs.Outcome.{accepted as reads}
use Rattle.table.specs.Read.{read_of}
use Rattle.trace.specs.Machine.{Name}
use Rattle.trace.specs.Schedule.{accepted, names}
use Rattle.trace.specs.Chain.{Exchange, Chain, Chained, replay}
use Rattle.trace.specs.Order.{has}
use Rattle.model.specs.Site.{name, initial}
use Rattle.model.specs.Step.{next_name, next_action}
use Rattle.model.specs.Ready.{bit_of, ReadyAnswer}
use Rattle.model.specs.Report.{report}
use Rattle.model.specs.Schedule.{machine, end_state}
use Rattle.model.specs.Calls.{Result, gives, run_of, ready_of, pair_of, independent, SameVerdict, same, different, Comparison, comparison_of}

module _ (table : List ℕ) where
  -- the schedule is accepted from a fresh site
  abbrev pub Accepted : List ℕ → Type 0
  Accepted p = accepted (machine table) initial p ≡ true

  -- the name of the step that entry k of a schedule runs
  abbrev pub step_name : List ℕ → ℕ → Name
  step_name p k = get_or (names (machine table) initial p) k (name 0 0)

-- an answer of the call same has this verdict, with some number of pairs
abbrev pub Says : Result Comparison → SameVerdict → Type 0
Says answer v = (n : ℕ) × (answer ≡ gives (record { verdict = v; pairs = n }))

-- a schedule is accepted and its end is another's: the state, the journal in it, the report, all that a run leaves in any buffer, and the mask, the
-- number ready and the ending
pub record EndsAlike (table p q : List ℕ) : Type 0 where
  pub taken : Accepted table q
  pub ends : end_state table q ≡ end_state table p
  pub journals : (end_state table q).journal ≡ (end_state table p).journal
  pub reports : report table (end_state table q) ≡ report table (end_state table p)
  pub runs : (buffer : List ℕ) → run_of table q buffer ≡ run_of table p buffer
  pub readies : ready_of table q ≡ ready_of table p

-- an actor is ready, with the same action next, after more steps as it was before them
pub record StillReady (table p more : List ℕ) (a : ℕ) (later : ReadyAnswer) : Type 0 where
  pub ready-bit : bit_of later.mask a ≡ 1
  pub same_name : next_name table (end_state table (p ++ more)) a ≡ next_name table (end_state table p) a
  pub same-action : next_action table (end_state table (p ++ more)) a ≡ next_action table (end_state table p) a

pub record Demand3 (table : List ℕ) : Type 0 where
  -- a schedule is accepted exactly when the call ready gives an answer
  pub accepts : (p : List ℕ) → Accepted table p ↔ ((now : ReadyAnswer) × (ready_of table p ≡ gives now))
  -- an exchange at k is one exactly when the schedule is accepted, it has an entry k + 1, and the call pair finds the two steps independent
  pub exchanges : (p : List ℕ) (k : ℕ)
      → Exchange (machine table) initial k p
      ↔ (Accepted table p × (suc k < length p) × (pair_of table (step_name table p k) (step_name table p (suc k)) ≡ gives independent))
  -- along a chain from an accepted schedule, each schedule on the way and the last one end alike
  pub chains : (chain p q : List ℕ) → Accepted table p → Chain (machine table) initial chain p q
      → ((n : ℕ) → EndsAlike table p (replay (take n chain) p)) × EndsAlike table p q
  -- what is ready stays ready, with the same action, whatever the other actors do
  pub readiness : (p more : List ℕ) (a : ℕ) (now later : ReadyAnswer) → ready_of table p ≡ gives now → bit_of now.mask a ≡ 1 → has more a ≡ false
      → ready_of table (p ++ more) ≡ gives later → StillReady table p more a later
  -- two accepted schedules are called the same exactly when a chain leads from the first to the second, and different in every other case
  pub called_same : (p q : List ℕ) → Accepted table p → Accepted table q
      → Says (comparison_of table p q) same ↔ Chained (machine table) initial p q
  pub called-different : (p q : List ℕ) → Accepted table p → Accepted table q
      → Says (comparison_of table p q) different ↔ (¬ Chained (machine table) initial p q)

-- demand 3: it holds of every table that the reader accepts
abbrev pub EveryTable : Type 0
EveryTable = (table : List ℕ) → read_of table ≡ reads → Demand3 table
