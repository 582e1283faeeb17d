-- What an action posts and what it looks at, by its kind, whose number is at most the last.
-- Assumes nothing.
use Prim.Native.Nat.{◌≤◌}
use mathlib.Core.Path.{◌≡◌, refl}
use borrow.Author.Tests.{leb-true}
use lib.Dec.{leb}
use Rattle.table.specs.declared.Action.{Action}
use Rattle.table.specs.declared.Action.TheVariants.{Set, Add, Lesser, Send, Receive, TestAny, WaitAny, Lock, Unlock, MutexTest, MutexWait, Note}
use Rattle.table.specs.Kinds.{kind_number, last_kind}
use Rattle.model.specs.Views.{posts, looks}
use Rattle.actions.specs.Fields.{kind_of, target_of, list_of, post_by, look_by}
use Rattle.actions.proofs.EveryKind.{at-kind}

pub posts-by : (x : Action) → posts x ≡ post_by (kind_of x) (target_of x)
posts-by (Set cell value) = refl
posts-by (Add cell other) = refl
posts-by (Lesser cell other) = refl
posts-by (Send mailbox cell) = refl
posts-by (Receive mailbox cell) = refl
posts-by (TestAny result list) = refl
posts-by (WaitAny result list) = refl
posts-by (Lock mutex) = refl
posts-by (Unlock mutex) = refl
posts-by (MutexTest result list) = refl
posts-by (MutexWait result list) = refl
posts-by (Note cell) = refl

pub looks-by : (x : Action) → looks x ≡ look_by (kind_of x) (list_of x)
looks-by (Set cell value) = refl
looks-by (Add cell other) = refl
looks-by (Lesser cell other) = refl
looks-by (Send mailbox cell) = refl
looks-by (Receive mailbox cell) = refl
looks-by (TestAny result list) = refl
looks-by (WaitAny result list) = refl
looks-by (Lock mutex) = refl
looks-by (Unlock mutex) = refl
looks-by (MutexTest result list) = refl
looks-by (MutexWait result list) = refl
looks-by (Note cell) = refl

pub kind-most : (x : Action) → kind_number (kind_of x) ≤ last_kind
kind-most x = leb-true (kind_number (kind_of x)) last_kind (at-kind (λ k. leb (kind_number k) last_kind) refl (kind_of x))

pub by_kind : (x : Action) → (posts x ≡ post_by (kind_of x) (target_of x)) × (looks x ≡ look_by (kind_of x) (list_of x)) × (kind_number (kind_of x) ≤ last_kind)
by_kind x = (posts-by x, looks-by x, kind-most x)
