-- `queue_sections::mutex_part` meets its contract: the length, then the entries. Assumes nothing.
use mathlib.Core.Path.{◌≡◌, sym, subst}
use mathlib.Core.List.{List, [], ◌∷◌, ◌++◌}
use Prim.Native.Nat.{ℕ, ◌<◌, ◌≤◌}
use native.Mathlib.Omega.{arith}
use lib.ListN.{length}
use Rattle.model.specs.Report.{mutex_bytes}
use Rattle.state.specs.State.{queues_of}
use Rattle.state.specs.Rooms.{size_in, QueueRoom}
use Rattle.writing.specs.Written.{Wrote}
use Rattle.writing.proofs.Written.{rest}
use Rattle.writing.proofs.Sections.{Begun, first-section, left-room, last-wrote}
use Rattle.queue_sections.proofs.Mutexes.{written_of, mutex-split}
use Rattle.queue_sections.proofs.mutex_part.Goals as goal

-- the length is written
sized : {queues : List ℕ} (e : List ℕ) (m : ℕ) → QueueRoom queues → m < 8 → length (mutex_bytes (queues_of queues m)) ≤ length e → {b : List ℕ} {at : ℕ}
    → Wrote e (size_in queues m ∷ []) b at
    → Begun (mutex_bytes (queues_of queues m)) e b at (written_of queues m (size_in queues m))
sized {queues} e m room known fits {b} {at} w =
    let left : List ℕ = written_of queues m (size_in queues m) in
    let whole : (size_in queues m ∷ []) ++ left ≡ mutex_bytes (queues_of queues m) = mutex-split queues room m known in
    subst (λ (l : List ℕ). Begun l e b at left) whole
    (first-section (size_in queues m ∷ []) left (subst (λ (l : List ℕ). length l ≤ length e) (sym whole) fits) w)

pub entries-requires : goal.entries-requires
entries-requires c =
    let t = c.put-at in
    let n = c.from.ensures in (
      omega (arith, c.requires.0, c.args.queues.now.room.bounded c.args.m, n),
      subst (λ (k : ℕ). length (written_of c.args.queues.now.bytes c.args.m k) ≤ length (rest t.result t.new.buf)) (sym n) (left-room (sized c.args.buf.now c.args.m c.args.queues.now.room c.requires.0 c.requires.1 c.put-at.ensures)),
    )

pub returns : goal.returns
returns c =
    let t = c.put-at in
    let e = c.entries in
    last-wrote (sized c.args.buf.now c.args.m c.args.queues.now.room c.requires.0 c.requires.1 c.put-at.ensures) (subst (λ (k : ℕ). Wrote (rest t.result t.new.buf) (written_of c.args.queues.now.bytes c.args.m k) e.new.buf e.result) c.from.ensures e.ensures)
