-- The comparison codes of the pair verdict: which comparison the five cases ask for, by the kinds alone, and what each code compares of two actions.
-- Assumes nothing: these are definitions.
use Rattle.std.specs.Prelude.{ℕ, Bool, true, false, ◌&&◌, ◌||◌, cond, List, eqb}
use Rattle.table.specs.declared.Action.{Action}
use Rattle.table.specs.declared.Kind.{Kind}
use Rattle.table.specs.declared.Kind.TheVariants.{Send, Receive, TestAny, WaitAny, Lock, Unlock, MutexTest, MutexWait, Note}
use Rattle.table.specs.Kinds.{kind_number}
use Rattle.trace.specs.Order.{has}
use Rattle.model.specs.Pair.{any_of}
use Rattle.actions.specs.Fields.{kind_of, target_of, list_of}
use Rattle.dependence.specs.declared.Compared.{Compared}
use Rattle.dependence.specs.declared.Compared.TheVariants.{Never, OneMailbox, ListedReceive, ListedSend, OneMutex, ListedMutex, Always}

-- ---- the rule of the table: which code stands for two kinds

abbrev pub is : Kind → Kind → Bool
is i kind = eqb (kind_number i) (kind_number kind)

-- 1. both Send, or both Receive
abbrev pub both_mail : Kind → Kind → Bool
both_mail i j = (is i Send && is j Send) || (is i Receive && is j Receive)

-- 2. a Test or Wait, which may list Receives, and a Send; or which may list Sends, and a Receive
abbrev pub test_send : Kind → Kind → Bool
test_send i j = (is i TestAny || is i WaitAny) && is j Send

abbrev pub test_receive : Kind → Kind → Bool
test_receive i j = (is i TestAny || is i WaitAny) && is j Receive

-- 3. both Lock
abbrev pub both_lock : Kind → Kind → Bool
both_lock i j = is i Lock && is j Lock

-- 4. a MutexTest or MutexWait, and an Unlock
abbrev pub test_unlock : Kind → Kind → Bool
test_unlock i j = (is i MutexTest || is i MutexWait) && is j Unlock

-- 5. both Note
abbrev pub both_note : Kind → Kind → Bool
both_note i j = is i Note && is j Note

-- in either order
abbrev pub either : (Kind → Kind → Bool) → Kind → Kind → Bool
either f i j = f i j || f j i

-- the code of two kinds, `Never` for those in no case
unfoldable pub code_of : Kind → Kind → Compared
code_of i j =
    cond (both_mail i j) OneMailbox
    (cond (either test_send i j) ListedReceive
    (cond (either test_receive i j) ListedSend (cond (both_lock i j) OneMutex (cond (either test_unlock i j) ListedMutex (cond (both_note i j) Always Never)))))

-- ---- what a code compares, of two actions of which the first has the higher kind, or both the same

-- a code compares actions that the first lists
abbrev pub lists_own : Compared → Bool
lists_own Never = false
lists_own OneMailbox = false
lists_own ListedReceive = true
lists_own ListedSend = true
lists_own OneMutex = false
lists_own ListedMutex = false
lists_own Always = false

-- an action is of this kind, a Send's or a Receive's, on this mailbox
abbrev pub is_on : Kind → ℕ → Action → Bool
is_on kind mailbox x = is (kind_of x) kind && eqb (target_of x) mailbox

-- the first is on m, a mailbox or a mutex, and lists l, and the other is on n; `own` are the actions of the first one's actor
abbrev pub code_compares : Compared → (ℕ → Action) → ℕ → List ℕ → ℕ → Bool
code_compares Never own m l n = false
code_compares OneMailbox own m l n = eqb m n
code_compares ListedReceive own m l n = any_of (λ k. is_on Receive n (own k)) l
code_compares ListedSend own m l n = any_of (λ k. is_on Send n (own k)) l
code_compares OneMutex own m l n = eqb m n
code_compares ListedMutex own m l n = has l n
code_compares Always own m l n = true

abbrev pub comparison : Compared → (ℕ → Action) → Action → Action → Bool
comparison code own x y = code_compares code own (target_of x) (list_of x) (target_of y)
