-- A mutex's bytes are its queue's length and its entries.
-- Assumes nothing.
use mathlib.Core.Path.{◌≡◌, ◌∙◌, ap, sym}
use mathlib.Core.List.{List, [], ◌∷◌, ◌++◌}
use Prim.Native.Nat.{ℕ, ◌+◌, ◌*◌, ◌<◌}
use native.Mathlib.Omega.{arith}
use Rattle.model.specs.Report.{parts, queued_bytes, mutex_bytes}
use Rattle.state.specs.State.{queues_of}
use Rattle.state.specs.Rooms.{size_in, QueueRoom}
use Rattle.state.proofs.Queued.{queue-length}
use Rattle.queue_sections.specs.Parts.{entry_at}
use Rattle.queue_sections.proofs.Lists.{entries_at}

-- the entries that are written, of a queue of n
abbrev pub written_of : (queues : List ℕ) → ℕ → ℕ → List ℕ
written_of queues m n = parts (entry_at queues (9 * m + 1)) n 0

pub mutex-split : (queues : List ℕ) → QueueRoom queues → (m : ℕ) → m < 8
    → (size_in queues m ∷ []) ++ written_of queues m (size_in queues m) ≡ mutex_bytes (queues_of queues m)
mutex-split queues r m known =
    ap (λ (l : List ℕ). size_in queues m ∷ l) (entries_at queues (9 * m + 1) (size_in queues m) (omega (arith, r.long, r.bounded m)))
    ∙ ap (λ (n : ℕ). n ∷ queued_bytes (queues_of queues m)) (sym (queue-length queues m r known))
