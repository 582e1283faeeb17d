-- Who owns a mutex: nobody where its queue is empty, or else the actor of the queue's first entry.
-- Assumes nothing.
use Prim.Native.Nat.{ℕ, suc, ◌+◌, ◌-◌, ◌*◌, ◌%◌, ◌<◌}
use native.Mathlib.Omega.{arith}
use mathlib.Core.Path.{◌≡◌, ◌∙◌, ap, sym}
use mathlib.Core.Bool.{false}
use mathlib.Core.List.{List, map}
use lib.Dec.{eqb}
use lib.ListN.{length, get_or, take, drop}
use lib.Seq.{drop-cons}
use Rattle.model.specs.Mutex.{owns}
use Rattle.state.specs.State.{queued_of, queues_of}
use Rattle.state.specs.Rooms.{size_in, QueueRoom}

pub owner-none : (queues : List ℕ) (m a : ℕ) → size_in queues m ≡ 0 → false ≡ owns (queues_of queues m) a
owner-none queues m a e = sym (ap (λ (n : ℕ). owns (map queued_of (take n (drop (9 * m + 1) queues))) a) e)

pub owner-first : (queues : List ℕ) (m a : ℕ) → QueueRoom queues → m < 8 → (size_in queues m ≡ 0 → ⊥)
    → eqb a (get_or queues (9 * m + 1) 0 % 8) ≡ owns (queues_of queues m) a
owner-first queues m a room known some =
    let more : size_in queues m ≡ suc (size_in queues m - 1) = omega arith in
    let inside : 9 * m + 1 < length queues = omega arith in
    sym
    (ap (λ (n : ℕ). owns (map queued_of (take n (drop (9 * m + 1) queues))) a) more
    ∙ ap (λ (l : List ℕ). owns (map queued_of (take (suc (size_in queues m - 1)) l)) a) (drop-cons queues (9 * m + 1) 0 inside))
