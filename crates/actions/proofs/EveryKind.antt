-- A test of every kind, or of every two, which computes; and what it says of each.
-- Assumes nothing.
use mathlib.Core.Path.{◌≡◌}
use mathlib.Core.Bool.{Bool, true, ◌&&◌}
use native.Mathlib.Omega.{arith}
use Rattle.table.specs.declared.Kind.{Kind}
use Rattle.table.specs.declared.Kind.TheVariants.{Set, Add, Lesser, Send, Receive, TestAny, WaitAny, Lock, Unlock, MutexTest, MutexWait, Note}

abbrev pub every_kind : (Kind → Bool) → Bool
every_kind f =
    f Set && (f Add && (f Lesser && (f Send && (f Receive && (f TestAny && (f WaitAny && (f Lock && (f Unlock && (f MutexTest && (f MutexWait && f Note))))))))))

abbrev pub every_two : (Kind → Kind → Bool) → Bool
every_two f = every_kind (λ i. every_kind (f i))

pub at-kind : (f : Kind → Bool) → every_kind f ≡ true → (i : Kind) → f i ≡ true
at-kind f t Set = grind arith
at-kind f t Add = grind arith
at-kind f t Lesser = grind arith
at-kind f t Send = grind arith
at-kind f t Receive = grind arith
at-kind f t TestAny = grind arith
at-kind f t WaitAny = grind arith
at-kind f t Lock = grind arith
at-kind f t Unlock = grind arith
at-kind f t MutexTest = grind arith
at-kind f t MutexWait = grind arith
at-kind f t Note = grind arith

pub at-two : (f : Kind → Kind → Bool) → every_two f ≡ true → (i j : Kind) → f i j ≡ true
at-two f t i j = at-kind (f i) (at-kind (λ k. every_kind (f k)) t i) j
