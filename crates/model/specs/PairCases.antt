-- The cases of the pair verdict, in the words of document 01, which has four, and of document 02 (W5): `proofs/PairCases.antt` proves that two steps
-- are dependent exactly when they are of one actor or in one of these cases.
-- Assumes nothing: these are definitions.
use Rattle.std.specs.Prelude.{ℕ, ◌≡◌, ◌⊎◌, ◌↔◌, true, List}
use Rattle.table.specs.declared.Action.{Action}
use Rattle.table.specs.declared.Action.TheVariants.{Send, Receive, TestAny, WaitAny, Lock, Unlock, MutexTest, MutexWait, Note}
use Rattle.table.specs.declared.Numbers.{Numbers}
use Rattle.trace.specs.Machine.{Name}
use Rattle.trace.specs.Order.{has}
use Rattle.model.specs.Site.{name}
use Rattle.model.specs.Views.{listed}
use Rattle.model.specs.Step.{action_at}
use Rattle.model.specs.Pair.{depends}

-- a Test or Wait (5, 6) of this list
abbrev pub TestOrWait : Action → Numbers → Type 0
TestOrWait x list = (result : ℕ) × ((x ≡ TestAny result list) ⊎ (x ≡ WaitAny result list))

-- a MutexTest or MutexWait (9, 10) of this list
abbrev pub MutexTestOrWait : Action → Numbers → Type 0
MutexTestOrWait x list = (result : ℕ) × ((x ≡ MutexTest result list) ⊎ (x ≡ MutexWait result list))

-- a list names a number
abbrev pub Lists : Numbers → ℕ → Type 0
Lists list k = has (listed list) k ≡ true

pub data Case (table : List ℕ) (x y : Name) : Type 0 where
  -- 1. both Send, or both Receive, on one mailbox
  both_send : (mailbox cell other : ℕ) → action_at table x ≡ Send mailbox cell → action_at table y ≡ Send mailbox other → Case table x y
  both-receive : (mailbox cell other : ℕ) → action_at table x ≡ Receive mailbox cell → action_at table y ≡ Receive mailbox other → Case table x y
  -- 2. a Test or Wait lists a Receive on a mailbox and the other is a Send there, or lists a Send there and the other is a Receive there
  lists-receive : (list : Numbers) (k mailbox cell other : ℕ) → TestOrWait (action_at table x) list → Lists list k
      → action_at table (name x.actor k) ≡ Receive mailbox cell → action_at table y ≡ Send mailbox other → Case table x y
  lists-send : (list : Numbers) (k mailbox cell other : ℕ) → TestOrWait (action_at table x) list → Lists list k
      → action_at table (name x.actor k) ≡ Send mailbox cell → action_at table y ≡ Receive mailbox other → Case table x y
  -- 3. both Lock on one mutex
  both_lock : (mutex : ℕ) → action_at table x ≡ Lock mutex → action_at table y ≡ Lock mutex → Case table x y
  -- 4. a MutexTest or MutexWait lists a mutex and the other is an Unlock of it
  lists-mutex : (list : Numbers) (mutex : ℕ) → MutexTestOrWait (action_at table x) list → Lists list mutex → action_at table y ≡ Unlock mutex
      → Case table x y
  -- 5. both Note
  both-note : (cell other : ℕ) → action_at table x ≡ Note cell → action_at table y ≡ Note other → Case table x y

-- two steps of one actor; or a case, with either as the one that it names first
pub data DependentCase (table : List ℕ) (x y : Name) : Type 0 where
  one-actor : x.actor ≡ y.actor → DependentCase table x y
  straight : Case table x y → DependentCase table x y
  turned : Case table y x → DependentCase table x y

-- these cases, and no other
abbrev pub PairCases : List ℕ → Type 0
PairCases table = (x y : Name) → (depends table x y ≡ true) ↔ DependentCase table x y
