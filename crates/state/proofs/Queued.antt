-- A mutex's queue is as long as its first byte says.
-- Assumes nothing.
use Prim.Native.Nat.{ℕ, ◌+◌, ◌*◌, ◌<◌, ◌≤◌}
use native.Mathlib.Omega.{arith}
use mathlib.Core.Path.{◌≡◌, ◌∙◌}
use mathlib.Core.List.{List}
use lib.ListN.{length, drop, length-drop, length-map}
use lib.Seq.{length-take-le}
use Rattle.state.specs.State.{queued_of, entries_in, queues_of}
use Rattle.state.specs.Rooms.{size_in, QueueRoom}

pub entries-length : (queues : List ℕ) (m : ℕ) → QueueRoom queues → m < 8 → length (entries_in queues m) ≡ size_in queues m
entries-length queues m room known =
    let long : length queues ≡ 72 = room.long in
    let short : size_in queues m ≤ 8 = room.bounded m in
    let inside : size_in queues m ≤ length (drop (9 * m + 1) queues) = rw length-drop (omega arith) in
    length-take-le (size_in queues m) (drop (9 * m + 1) queues) inside

pub queue-length : (queues : List ℕ) (m : ℕ) → QueueRoom queues → m < 8 → length (queues_of queues m) ≡ size_in queues m
queue-length queues m room known = length-map (entries_in queues m) queued_of ∙ entries-length queues m room known
