-- An action by what it posts, by what it looks at, and by whether it may be not taken: whatever is proved of these goes by their cases, and not by the
-- kinds.
-- Assumes nothing.
use Prim.Native.Nat.{ℕ}
use mathlib.Core.Path.{◌≡◌, refl, ap}
use mathlib.Core.Logic.{◌⊎◌, inl, inr}
use mathlib.Core.Bool.{false}
use mathlib.Core.List.{List}
use Rattle.table.specs.declared.Action.{Action}
use Rattle.table.specs.declared.Action.TheVariants.{Set, Add, Lesser, Send, Receive, TestAny, WaitAny, Lock, Unlock, MutexTest, MutexWait, Note}
use Rattle.table.specs.declared.Numbers.{Numbers}
use Rattle.table.specs.Promise.{is_communication}
use Rattle.model.specs.Views.{silent, posts, sent, keeps, view_of, blind, communications, mutexes, looks, waits, total, listed}
use Rattle.model.specs.PairCases.{TestOrWait, MutexTestOrWait}

-- ---- by what it posts

-- an action that posts nothing: it is no Send or Receive, sends no value, and nothing is picked up of it
pub record Quiet (x : Action) : Type 0 where
  pub posts-none : posts x ≡ silent
  pub no-post : is_communication x ≡ false
  pub sends_none : (cells : List ℕ) → sent x cells ≡ 0
  pub picks-none : (view_of x).picked ≡ keeps

pub data Posting (x : Action) : Type 0 where
  quiet : Quiet x → Posting x
  sends-to : (mailbox cell : ℕ) → x ≡ Send mailbox cell → Posting x
  receives-from : (mailbox cell : ℕ) → x ≡ Receive mailbox cell → Posting x
  locks : (mutex : ℕ) → x ≡ Lock mutex → Posting x
  unlocks : (mutex : ℕ) → x ≡ Unlock mutex → Posting x
  writes_down : (cell : ℕ) → x ≡ Note cell → Posting x

quietly : {x : Action} → posts x ≡ silent → is_communication x ≡ false → ((cells : List ℕ) → sent x cells ≡ 0) → (view_of x).picked ≡ keeps → Posting x
quietly p i s k = quiet (record { posts-none = p; no-post = i; sends_none = s; picks-none = k })

pub posting : (x : Action) → Posting x
posting (Set cell value) = quietly refl refl (λ cells. refl) refl
posting (Add cell other) = quietly refl refl (λ cells. refl) refl
posting (Lesser cell other) = quietly refl refl (λ cells. refl) refl
posting (Send mailbox cell) = sends-to mailbox cell refl
posting (Receive mailbox cell) = receives-from mailbox cell refl
posting (TestAny result list) = quietly refl refl (λ cells. refl) refl
posting (WaitAny result list) = quietly refl refl (λ cells. refl) refl
posting (Lock mutex) = locks mutex refl
posting (Unlock mutex) = unlocks mutex refl
posting (MutexTest result list) = quietly refl refl (λ cells. refl) refl
posting (MutexWait result list) = quietly refl refl (λ cells. refl) refl
posting (Note cell) = writes_down cell refl

-- ---- by what it looks at

pub data Looking (x : Action) : Type 0 where
  blindly : looks x ≡ blind → Looking x
  testing : (list : Numbers) → TestOrWait x list → Looking x
  mutex-testing : (list : Numbers) → MutexTestOrWait x list → Looking x

pub looking : (x : Action) → Looking x
looking (Set cell value) = blindly refl
looking (Add cell other) = blindly refl
looking (Lesser cell other) = blindly refl
looking (Send mailbox cell) = blindly refl
looking (Receive mailbox cell) = blindly refl
looking (TestAny result list) = testing list (result, inl refl)
looking (WaitAny result list) = testing list (result, inr refl)
looking (Lock mutex) = blindly refl
looking (Unlock mutex) = blindly refl
looking (MutexTest result list) = mutex-testing list (result, inl refl)
looking (MutexWait result list) = mutex-testing list (result, inr refl)
looking (Note cell) = blindly refl

pub test-looks : (x : Action) (list : Numbers) → TestOrWait x list → looks x ≡ communications (listed list)
test-looks x list w = go w.1
  where
    go : (x ≡ TestAny w.0 list) ⊎ (x ≡ WaitAny w.0 list) → looks x ≡ communications (listed list)
    go (inl e) = ap looks e
    go (inr e) = ap looks e

pub mutex-looks : (x : Action) (list : Numbers) → MutexTestOrWait x list → looks x ≡ mutexes (listed list)
mutex-looks x list w = go w.1
  where
    go : (x ≡ MutexTest w.0 list) ⊎ (x ≡ MutexWait w.0 list) → looks x ≡ mutexes (listed list)
    go (inl e) = ap looks e
    go (inr e) = ap looks e

-- ---- by whether it may be not taken

pub data Taking (x : Action) : Type 0 where
  freely : waits x ≡ false → ((cells : List ℕ) → total x cells ≡ 0) → Taking x
  adds : (cell other : ℕ) → x ≡ Add cell other → Taking x
  waits-any : (result : ℕ) (list : Numbers) → x ≡ WaitAny result list → Taking x
  waits-mutex : (result : ℕ) (list : Numbers) → x ≡ MutexWait result list → Taking x

pub taking : (x : Action) → Taking x
taking (Set cell value) = freely refl (λ cells. refl)
taking (Add cell other) = adds cell other refl
taking (Lesser cell other) = freely refl (λ cells. refl)
taking (Send mailbox cell) = freely refl (λ cells. refl)
taking (Receive mailbox cell) = freely refl (λ cells. refl)
taking (TestAny result list) = freely refl (λ cells. refl)
taking (WaitAny result list) = waits-any result list refl
taking (Lock mutex) = freely refl (λ cells. refl)
taking (Unlock mutex) = freely refl (λ cells. refl)
taking (MutexTest result list) = freely refl (λ cells. refl)
taking (MutexWait result list) = waits-mutex result list refl
taking (Note cell) = freely refl (λ cells. refl)
