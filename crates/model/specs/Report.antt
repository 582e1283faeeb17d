-- The state report, as bytes.
-- Assumes nothing: these are definitions.
use Rattle.std.specs.Prelude.{ℕ, zero, suc, ◌/◌, ◌%◌, List, [], ◌∷◌, ◌++◌, length, get_or, replicate}
use Rattle.table.specs.Format.{actors_of, mailboxes_of, mutexes_of, count_of}
use Rattle.trace.specs.Machine.{Name}
use Rattle.model.specs.Site.{Actor, sends, receives, Comm, unposted, pending, done, Entry, Queued, Site, name}

-- 16 and 32 bits, the lowest byte first
abbrev pub word : ℕ → List ℕ
word x = x % 256 ∷ x / 256 % 256 ∷ []

abbrev pub long : ℕ → List ℕ
long x = x % 256 ∷ x / 256 % 256 ∷ x / 65536 % 256 ∷ x / 16777216 % 256 ∷ []

-- the parts `f k`, `f (k + 1)`, .., `n` of them, in order
abbrev pub parts : (ℕ → List ℕ) → ℕ → ℕ → List ℕ
parts f zero k = []
parts f (suc n) k = f k ++ parts f n (suc k)

-- per actor the position, one byte, and eight cells, four each
abbrev pub actor_bytes : Actor → List ℕ
actor_bytes r = r.position ∷ parts (λ c. long (get_or r.cells c 0)) 8 0

-- per action eight bytes: 0 unposted, 1 pending or 2 done; the partner's actor and action; 0; the value
abbrev pub comm_bytes : Comm → List ℕ
comm_bytes unposted = replicate 8 0
comm_bytes (pending value) = 1 ∷ 0 ∷ 0 ∷ 0 ∷ long value
comm_bytes (done partner value) = 2 ∷ partner.actor ∷ partner.position ∷ 0 ∷ long value

-- step names, two bytes each
abbrev pub name_bytes : List Name → List ℕ
name_bytes [] = []
name_bytes (x ∷ l) = x.actor ∷ x.position ∷ name_bytes l

-- the queue's length, 16 bits, and its step names
abbrev pub box_bytes : List Name → List ℕ
box_bytes l = word (length l) ++ name_bytes l

-- the entries of a mutex's queue, two bytes each: the actor and its depth
abbrev pub queued_bytes : List Queued → List ℕ
queued_bytes [] = []
queued_bytes (x ∷ l) = x.actor ∷ x.depth ∷ queued_bytes l

-- the queue's length, one byte, and its entries
abbrev pub mutex_bytes : List Queued → List ℕ
mutex_bytes l = length l ∷ queued_bytes l

-- the journal's entries, six bytes each: the step's actor and action, and the value
abbrev pub entry_bytes : List Entry → List ℕ
entry_bytes [] = []
entry_bytes (x ∷ l) = (x.step.actor ∷ x.step.position ∷ long x.value) ++ entry_bytes l

-- the number of entries, 16 bits, and the entries
abbrev pub journal_bytes : List Entry → List ℕ
journal_bytes l = word (length l) ++ entry_bytes l

module _ (table : List ℕ) (s : Site) where
  -- a mailbox's queue, oldest first: what is pending on the side that is not empty
  abbrev pub box_queue : ℕ → List Name
  box_queue m = s.mail.waiting (record { mailbox = m; side = sends }) ++ s.mail.waiting (record { mailbox = m; side = receives })

  abbrev pub actors_part : List ℕ
  actors_part = parts (λ a. actor_bytes (s.actor a)) (actors_of table) 0

  abbrev pub actions_part : List ℕ
  actions_part = parts (λ a. parts (λ k. comm_bytes (s.mail.comm (name a k))) (count_of table a) 0) (actors_of table) 0

  abbrev pub boxes_part : List ℕ
  boxes_part = parts (λ m. box_bytes (box_queue m)) (mailboxes_of table) 0

  abbrev pub mutexes_part : List ℕ
  mutexes_part = parts (λ m. mutex_bytes (s.queue m)) (mutexes_of table) 0

  -- "state report": the actors, the actions of each, the mailboxes, the mutexes, the journal
  unfoldable pub report : List ℕ
  report = actors_part ++ (actions_part ++ (boxes_part ++ (mutexes_part ++ journal_bytes s.journal)))
