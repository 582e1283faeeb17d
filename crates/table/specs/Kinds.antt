-- The kinds of action, as document 01's table of kinds and the requests of document 02 have them: what p and q name, and what z and b4 to b7 hold.
-- Assumes nothing.
use Rattle.std.specs.Prelude.{ℕ, List, [], ◌∷◌, get_or}
use Rattle.table.specs.declared.Kind.{Kind}
use Rattle.table.specs.declared.Kind.TheVariants.{Set, Add, Lesser, Send, Receive, TestAny, WaitAny, Lock, Unlock, MutexTest, MutexWait, Note}

-- what p or q names
pub data Field : Type 0 where
  unused cell mailbox mutex : Field

-- what z and b4 to b7 hold: nothing; a value in b4 to b7; a list of z own actions; a list of z mutexes
pub data Rest : Type 0 where
  nothing value actions mutexes : Rest

pub record Form : Type 0 where
  pub p : Field
  pub q : Field
  pub rest : Rest

abbrev pub form : Field → Field → Rest → Form
form p q rest = record { p = p; q = q; rest = rest }

-- a kind's number, which is its action's first byte
abbrev pub kind_number : Kind → ℕ
kind_number Set = 0
kind_number Add = 1
kind_number Lesser = 2
kind_number Send = 3
kind_number Receive = 4
kind_number TestAny = 5
kind_number WaitAny = 6
kind_number Lock = 7
kind_number Unlock = 8
kind_number MutexTest = 9
kind_number MutexWait = 10
kind_number Note = 11

-- the last kind's number
abbrev pub last_kind : ℕ
last_kind = 11

abbrev pub forms : List Form
forms =
    form cell unused value  -- 0 Set
    ∷ form cell cell nothing  -- 1 Add
    ∷ form cell cell nothing  -- 2 Lesser
    ∷ form mailbox cell nothing  -- 3 Send
    ∷ form mailbox cell nothing  -- 4 Receive
    ∷ form cell unused actions  -- 5 TestAny
    ∷ form cell unused actions  -- 6 WaitAny
    ∷ form mutex unused nothing  -- 7 Lock
    ∷ form mutex unused nothing  -- 8 Unlock
    ∷ form cell unused mutexes  -- 9 MutexTest
    ∷ form cell unused mutexes  -- 10 MutexWait
    ∷ form cell unused nothing  -- 11 Note
    ∷ []

abbrev pub form_of : ℕ → Form
form_of kind = get_or forms kind (form unused unused nothing)
