-- What an action does, one line a kind, so that what follows goes by a few cases and not by the kinds: what it posts, what it looks at, whether it
-- waits for what it looks at, the value that it sends or notes, where a value that is picked up goes, the total that it makes, and what it writes.
-- Assumes nothing: these are definitions.
use Rattle.std.specs.Prelude.{ℕ, ◌+◌, min, Bool, true, false, List, ltb, get_or, set, take}
use Rattle.table.specs.declared.Action.{Action}
use Rattle.table.specs.declared.Action.TheVariants.{Set, Add, Lesser, Send, Receive, TestAny, WaitAny, Lock, Unlock, MutexTest, MutexWait, Note}
use Rattle.table.specs.declared.Numbers.{Numbers}
use Rattle.model.specs.Site.{Port, sends, receives}

-- the numbers that a list names, in its order
abbrev pub listed : Numbers → List ℕ
listed l = take l.count l.all

-- what a step changes besides its own record: nothing; it posts to a port; it joins a mutex's queue, or leaves it; it adds to the journal
pub data Post : Type 0 where
  silent : Post
  mails : Port → Post
  joins leaves : (mutex : ℕ) → Post
  notes : Post

-- what a step looks at: nothing; the communications of its own actor's actions; mutexes
pub data Look : Type 0 where
  blind : Look
  communications mutexes : (list : List ℕ) → Look

-- what is written into the actor's own cells: nothing; or into a cell a value, which a given number and the cells make
pub data Write : Type 0 where
  keeps : Write
  puts : (cell : ℕ) (value : (given : ℕ) (cells : List ℕ) → ℕ) → Write

abbrev pub written : Write → (given : ℕ) (cells : List ℕ) → List ℕ
written keeps given cells = cells
written (puts cell value) given cells = set cells cell (value given cells)

pub record View : Type 0 where
  pub post : Post
  pub look : Look
  -- a WaitAny and a MutexWait wait until the look finds something
  pub waiting : Bool
  -- the value that a Send keeps and a Note notes, from its actor's cells; 0 for the others
  pub sent : List ℕ → ℕ
  -- what is written when the value of this communication, the number given, is picked up: it goes into a Receive's cell
  pub picked : Write
  -- the sum that an Add makes of its actor's cells; 0 for the others
  pub total : List ℕ → ℕ
  -- what the step writes; the number given is the place that its look found, or 0
  pub writes : Write

-- a step that computes a cell of the actor's cells; one that adds
abbrev pub computing : (cell : ℕ) → (List ℕ → ℕ) → View
computing cell value =
    record { post = silent; look = blind; waiting = false; sent = λ cells. 0; picked = keeps; total = λ cells. 0; writes = puts cell (λ given cells. value cells) }

abbrev pub adding : (cell : ℕ) → (List ℕ → ℕ) → View
adding cell sum =
    record { post = silent; look = blind; waiting = false; sent = λ cells. 0; picked = keeps; total = sum; writes = puts cell (λ given cells. sum cells) }

-- one that posts: a value, where it has one, and where a value that is picked up goes
abbrev pub posting : Post → (List ℕ → ℕ) → Write → View
posting post sent picked =
    record { post = post; look = blind; waiting = false; sent = sent; picked = picked; total = λ cells. 0; writes = keeps }

-- one that looks, and waits or not: the place goes into its result cell
abbrev pub looking : (result : ℕ) → Look → (waiting : Bool) → View
looking result look waiting =
    record { post = silent; look = look; waiting = waiting; sent = λ cells. 0; picked = keeps; total = λ cells. 0; writes = puts result (λ place cells. place) }

abbrev pub sending : ℕ → Post
sending mailbox = mails (record { mailbox = mailbox; side = sends })

abbrev pub receiving : ℕ → Post
receiving mailbox = mails (record { mailbox = mailbox; side = receives })

-- what a cell holds
abbrev pub in_cell : (cell : ℕ) (cells : List ℕ) → ℕ
in_cell cell cells = get_or cells cell 0

abbrev pub view_of : Action → View
view_of (Set cell value) = computing cell (λ cells. value)
view_of (Add cell other) = adding cell (λ cells. in_cell cell cells + in_cell other cells)
view_of (Lesser cell other) = computing cell (λ cells. min (in_cell cell cells) (in_cell other cells))
view_of (Send mailbox cell) = posting (sending mailbox) (in_cell cell) keeps
view_of (Receive mailbox cell) = posting (receiving mailbox) (λ cells. 0) (puts cell (λ value cells. value))
view_of (TestAny result list) = looking result (communications (listed list)) false
view_of (WaitAny result list) = looking result (communications (listed list)) true
view_of (Lock mutex) = posting (joins mutex) (λ cells. 0) keeps
view_of (Unlock mutex) = posting (leaves mutex) (λ cells. 0) keeps
view_of (MutexTest result list) = looking result (mutexes (listed list)) false
view_of (MutexWait result list) = looking result (mutexes (listed list)) true
view_of (Note cell) = posting notes (in_cell cell) keeps

abbrev pub posts : Action → Post
posts x = (view_of x).post

abbrev pub looks : Action → Look
looks x = (view_of x).look

abbrev pub waits : Action → Bool
waits x = (view_of x).waiting

abbrev pub sent : Action → List ℕ → ℕ
sent x = (view_of x).sent

abbrev pub pick_up : Action → (value : ℕ) (cells : List ℕ) → List ℕ
pick_up x = written (view_of x).picked

abbrev pub total : Action → List ℕ → ℕ
total x = (view_of x).total

-- the largest number that a cell holds; a total that would pass it runs over
abbrev pub largest : ℕ
largest = 4294967295

abbrev pub runs_over : Action → List ℕ → Bool
runs_over x cells = ltb largest (total x cells)
