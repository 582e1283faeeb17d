-- What an action is, besides its cells: its kind, the mailbox or mutex that it is on, and what it lists; and what it posts and looks at, by these.
-- Assumes nothing: these are definitions.
use Rattle.std.specs.Prelude.{ℕ, List, []}
use Rattle.table.specs.declared.Action.{Action}
use Rattle.table.specs.declared.Action.TheVariants.{Set, Add, Lesser, Send, Receive, TestAny, WaitAny, Lock, Unlock, MutexTest, MutexWait, Note}
use Rattle.table.specs.declared.Kind.{Kind}
use Rattle.table.specs.declared.Kind.TheVariants as kind
use Rattle.model.specs.Site.{Port, sends, receives}
use Rattle.model.specs.Views.{Post, silent, mails, joins, leaves, notes, posts, Look, blind, communications, mutexes, looks}

-- its kind
abbrev pub kind_of : Action → Kind
kind_of (Set cell value) = kind.Set
kind_of (Add cell other) = kind.Add
kind_of (Lesser cell other) = kind.Lesser
kind_of (Send mailbox cell) = kind.Send
kind_of (Receive mailbox cell) = kind.Receive
kind_of (TestAny result list) = kind.TestAny
kind_of (WaitAny result list) = kind.WaitAny
kind_of (Lock mutex) = kind.Lock
kind_of (Unlock mutex) = kind.Unlock
kind_of (MutexTest result list) = kind.MutexTest
kind_of (MutexWait result list) = kind.MutexWait
kind_of (Note cell) = kind.Note

-- the mailbox of a Send or a Receive, the mutex of a Lock or an Unlock
abbrev pub target_in : Post → ℕ
target_in silent = 0
target_in (mails p) = p.mailbox
target_in (joins m) = m
target_in (leaves m) = m
target_in notes = 0

abbrev pub target_of : Action → ℕ
target_of x = target_in (posts x)

-- what a Test or a Wait lists: actions of its own actor, or mutexes
abbrev pub list_in : Look → List ℕ
list_in blind = []
list_in (communications l) = l
list_in (mutexes l) = l

abbrev pub list_of : Action → List ℕ
list_of x = list_in (looks x)

-- ---- what an action of a kind posts, on the mailbox or mutex m, and what it looks at, where it lists l

abbrev pub sending : ℕ → Port
sending m = record { mailbox = m; side = sends }

abbrev pub receiving : ℕ → Port
receiving m = record { mailbox = m; side = receives }

abbrev pub post_by : Kind → ℕ → Post
post_by kind.Set m = silent
post_by kind.Add m = silent
post_by kind.Lesser m = silent
post_by kind.Send m = mails (sending m)
post_by kind.Receive m = mails (receiving m)
post_by kind.TestAny m = silent
post_by kind.WaitAny m = silent
post_by kind.Lock m = joins m
post_by kind.Unlock m = leaves m
post_by kind.MutexTest m = silent
post_by kind.MutexWait m = silent
post_by kind.Note m = notes

abbrev pub look_by : Kind → List ℕ → Look
look_by kind.Set l = blind
look_by kind.Add l = blind
look_by kind.Lesser l = blind
look_by kind.Send l = blind
look_by kind.Receive l = blind
look_by kind.TestAny l = communications l
look_by kind.WaitAny l = communications l
look_by kind.Lock l = blind
look_by kind.Unlock l = blind
look_by kind.MutexTest l = mutexes l
look_by kind.MutexWait l = mutexes l
look_by kind.Note l = blind
