-- What holds of every state that an accepted schedule reaches, from a fresh site or from any other state that has it: one record, `Reached`, which
-- every ready step keeps (`proofs/Reached.antt`). A report that is read back has to say just this.
-- Assumes nothing: these are definitions.
use Rattle.std.specs.Prelude.{ℕ, ◌≤◌, ◌<◌, ◌≡◌, ◌⊎◌, ◌↔◌, Bool, true, false, List, [], ◌∷◌, map, replicate}
use Rattle.table.specs.Format.{actors_of, count_of}
use Rattle.table.specs.Promise.{is_communication}
use Rattle.trace.specs.Machine.{Name}
use Rattle.trace.specs.Order.{mem, Distinct, has}
use Rattle.model.specs.Site.{receives, Port, opposite, Comm, unposted, pending, done, Mail, Entry, Queued, Site}
use Rattle.model.specs.Views.{Post, mails, notes, posts}
use Rattle.model.specs.Step.{action_at}
use Rattle.model.specs.Ready.{how_many}
use Rattle.model.specs.Pair.{is_join, post_at}

abbrev pub is_posted : Comm → Bool
is_posted unposted = false
is_posted (pending value) = true
is_posted (done partner value) = true

abbrev pub is_pending : Comm → Bool
is_pending unposted = false
is_pending (pending value) = true
is_pending (done partner value) = false

-- of a mailbox's two ports one is empty
abbrev pub OneSided : (Port → List Name) → Type 0
OneSided w = (R : Port) → (w R ≡ []) ⊎ (w (opposite R) ≡ [])

-- no actor is named twice
abbrev pub Once : List ℕ → Type 0
Once [] = Unit {0}
Once (a ∷ q) = (has q a ≡ false) × Once q

-- the actors in a mutex's queue
abbrev pub actors_in : List Queued → List ℕ
actors_in q = map (λ x. x.actor) q

-- each depth in a queue is at least 1, and at most what is given for its actor
abbrev pub DepthsWithin : (most : ℕ → ℕ) → List Queued → Type 0
DepthsWithin most [] = Unit {0}
DepthsWithin most (x ∷ q) = (1 ≤ x.depth) × (x.depth ≤ most x.actor) × DepthsWithin most q

-- the number of an actor's Locks of a mutex below its position, Lock being the action that joins one
abbrev pub locks_below : List ℕ → Site → (mutex actor : ℕ) → ℕ
locks_below table s m a = how_many (λ k. is_join (post_at table a k) m) (s.actor a).position 0

-- the names in a journal
abbrev pub noted_in : List Entry → List Name
noted_in journal = map (λ e. e.step) journal

-- the mail, where `post_of` says what each step posts
pub record MailRight (post_of : Name → Post) (m : Mail) : Type 0 where
  -- a pending Receive has value 0
  pub receive-zero : (x : Name) (mailbox value : ℕ) → post_of x ≡ mails (record { mailbox = mailbox; side = receives })
      → m.comm x ≡ pending value → value ≡ 0
  -- a done step's partner is done and names it back, with one value; it is of the opposite kind on the same mailbox
  pub partner-done : (x y : Name) (value : ℕ) → m.comm x ≡ done y value → m.comm y ≡ done x value
  pub partner-opposite : (x y : Name) (value : ℕ) (p : Port) → m.comm x ≡ done y value → post_of x ≡ mails p → post_of y ≡ mails (opposite p)
  -- a port's queue holds the pending steps that post there and no foreign entry, each of them once; a mailbox's queue is of one kind only
  pub pending-queued : (p : Port) (x : Name) → (mem x (m.waiting p) ≡ true) ↔ ((is_pending (m.comm x) ≡ true) × (post_of x ≡ mails p))
  pub pending-once : (p : Port) → Distinct (m.waiting p)
  pub one-sided : OneSided m.waiting

pub record Reached (table : List ℕ) (s : Site) : Type 0 where
  -- no position exceeds the action count; an actor that the table lacks has not stepped, and its cells are 0
  pub position-most : (a : ℕ) → (s.actor a).position ≤ count_of table a
  pub absent-still : (a : ℕ) → actors_of table ≤ a → (s.actor a).position ≡ 0
  pub absent-cells : (a : ℕ) → actors_of table ≤ a → (s.actor a).cells ≡ replicate 8 0
  -- each Send or Receive below the position is pending or done, and every other action is unposted
  pub posted-below : (x : Name)
      → (is_posted (s.mail.comm x) ≡ true) ↔ ((is_communication (action_at table x) ≡ true) × (x.position < (s.actor x.actor).position))
  -- the communications and the mailboxes are right, each action posting what the table says
  pub mail : MailRight (λ x. posts (action_at table x)) s.mail
  -- a mutex's queue names an actor at most once, with a depth from 1 to the number of its Locks of that mutex below its position
  pub queued-once : (m : ℕ) → Once (actors_in (s.queue m))
  pub queued-depths : (m : ℕ) → DepthsWithin (locks_below table s m) (s.queue m)
  -- the journal names each Note below its actor's position once, and nothing else
  pub noted-below : (x : Name)
      → (mem x (noted_in s.journal) ≡ true) ↔ ((posts (action_at table x) ≡ notes) × (x.position < (s.actor x.actor).position))
  pub noted-once : Distinct (noted_in s.journal)
