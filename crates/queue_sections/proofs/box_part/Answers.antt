-- `queue_sections::box_part` meets its contract: the length, then the steps of each port. Assumes nothing.
use mathlib.Core.Path.{◌≡◌, sym, subst}
use mathlib.Core.List.{List, ◌++◌}
use Prim.Native.Nat.{ℕ, ◌+◌, ◌*◌, ◌<◌, ◌≤◌}
use native.Mathlib.Omega.{arith}
use lib.ListN.{length}
use Rattle.model.specs.Report.{word, box_bytes}
use Rattle.state.specs.Rooms.{LogRoom}
use Rattle.writing.specs.Written.{Wrote}
use Rattle.queue_sections.specs.Parts.{port_bytes, queue_of}
use Rattle.writing.proofs.Sections.{Begun, first-section, left-room, last-wrote, section-room, next-section}
use Rattle.queue_sections.proofs.Boxes.{count_in, box-split}
use Rattle.queue_sections.proofs.box_part.Goals as goal

-- the length is written
sized : {log ends : List ℕ} (e : List ℕ) (m : ℕ) → LogRoom log ends → m < 8 → length (box_bytes (queue_of log ends m)) ≤ length e → {x y : ℕ}
    → x ≡ count_in log ends (2 * m) → y ≡ count_in log ends (2 * m + 1) → {b : List ℕ} {at : ℕ} → Wrote e (word (x + y)) b at
    → Begun (box_bytes (queue_of log ends m)) e b at (port_bytes log ends (2 * m) ++ port_bytes log ends (2 * m + 1))
sized {log} {ends} e m room known fits {x} {y} sends receives {b} {at} w =
    let left : List ℕ = port_bytes log ends (2 * m) ++ port_bytes log ends (2 * m + 1) in
    let front : List ℕ = word (count_in log ends (2 * m) + count_in log ends (2 * m + 1)) in
    let whole : front ++ left ≡ box_bytes (queue_of log ends m) = box-split log ends room m known in
    let size : x + y ≡ count_in log ends (2 * m) + count_in log ends (2 * m + 1) = rw (sends, receives) in
    subst (λ (l : List ℕ). Begun l e b at left) whole
    (first-section front left (subst (λ (l : List ℕ). length l ≤ length e) (sym whole) fits)
    (subst (λ (n : ℕ). Wrote e (word n) b at) size w))

pub port_part-requires : goal.port_part-requires
port_part-requires c =
    let a = c.args in
    (omega (arith, c.requires.0), section-room (port_bytes a.mail.now.log a.mail.now.ends (2 * a.m)) (port_bytes a.mail.now.log a.mail.now.ends (2 * a.m + 1)) (sized c.args.buf.now c.args.m c.args.mail.now.room.log-room c.requires.0 c.requires.1 c.waiting-sends.ensures c.waiting.ensures c.short-at.ensures))

pub port_part-requires-2 : goal.port_part-requires-2
port_part-requires-2 c = let a = c.args in (omega (arith, c.requires.0), left-room (next-section (port_bytes a.mail.now.log a.mail.now.ends (2 * a.m)) (port_bytes a.mail.now.log a.mail.now.ends (2 * a.m + 1)) (sized c.args.buf.now c.args.m c.args.mail.now.room.log-room c.requires.0 c.requires.1 c.waiting-sends.ensures c.waiting.ensures c.short-at.ensures) c.port_part.ensures))

pub returns : goal.returns
returns c = let a = c.args in last-wrote (next-section (port_bytes a.mail.now.log a.mail.now.ends (2 * a.m)) (port_bytes a.mail.now.log a.mail.now.ends (2 * a.m + 1)) (sized c.args.buf.now c.args.m c.args.mail.now.room.log-room c.requires.0 c.requires.1 c.waiting-sends.ensures c.waiting.ensures c.short-at.ensures) c.port_part.ensures) c.port_part-2.ensures
