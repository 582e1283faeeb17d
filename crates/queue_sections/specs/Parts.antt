-- What the writers of mailboxes and mutexes promise.
-- Assumes nothing: these are definitions.
use Rattle.std.specs.Prelude.{ℕ, ◌+◌, ◌/◌, ◌%◌, List, [], ◌∷◌, ◌++◌, map, get_or}
use Rattle.trace.specs.Machine.{Name}
use Rattle.model.specs.Site.{sends, receives}
use Rattle.model.specs.Report.{parts, name_bytes, box_bytes, mutex_bytes}
use Rattle.state.specs.State.{pending_in, waiting_of, queues_of}
use Rattle.names.specs.InByte.{name_of}

-- the step name i places behind a place of a log; those pending at a port; a mailbox's queue, which is what is pending at its two ports; the first
-- n mailboxes
abbrev pub name_at : (log : List ℕ) → ℕ → ℕ → List ℕ
name_at log from i = get_or log (from + i) 0 / 32 ∷ get_or log (from + i) 0 % 32 ∷ []

abbrev pub port_bytes : (log ends : List ℕ) → ℕ → List ℕ
port_bytes log ends port = name_bytes (map name_of (pending_in log ends port))

abbrev pub queue_of : (log ends : List ℕ) → ℕ → List Name
queue_of log ends m =
    waiting_of log ends (record { mailbox = m; side = sends }) ++ waiting_of log ends (record { mailbox = m; side = receives })

abbrev pub boxes_bytes : (log ends : List ℕ) → ℕ → List ℕ
boxes_bytes log ends n = parts (λ m. box_bytes (queue_of log ends m)) n 0

-- the entry i places behind a place of the mutexes' queues; the first n mutexes
abbrev pub entry_at : (queues : List ℕ) → ℕ → ℕ → List ℕ
entry_at queues from i = get_or queues (from + i) 0 % 8 ∷ (get_or queues (from + i) 0 / 8 + 1) ∷ []

abbrev pub mutexes_bytes : (queues : List ℕ) → ℕ → List ℕ
mutexes_bytes queues n = parts (λ m. mutex_bytes (queues_of queues m)) n 0
