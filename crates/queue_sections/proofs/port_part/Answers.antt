-- `queue_sections::port_part` meets its contract. Assumes nothing.
use mathlib.Core.Path.{subst, sym}
use mathlib.Core.List.{List}
use Prim.Native.Nat.{ℕ, ◌+◌, ◌*◌, ◌≤◌}
use lib.ListN.{length}
use Rattle.model.specs.Report.{parts}
use Rattle.state.specs.Rooms.{head_in}
use Rattle.writing.specs.Written.{Wrote}
use Rattle.queue_sections.specs.Parts.{name_at}
use Rattle.queue_sections.proofs.Boxes.{port-room, port-steps}
use Rattle.queue_sections.proofs.port_part.Goals as goal

-- n steps from the port's head on
abbrev first : (log ends : List ℕ) → ℕ → ℕ → List ℕ
first log ends port n = parts (name_at log (256 * port + head_in ends port)) n 0

pub names-requires : goal.names-requires
names-requires c =
    let from = 256 * c.args.port + head_in c.args.mail.now.ends c.args.port in
    let count = sym c.waiting.ensures in
    let fits = subst (λ (l : List ℕ). length l ≤ length c.args.buf.now) (sym (port-steps c.args.mail.now.log c.args.mail.now.ends c.args.mail.now.room.log-room c.args.port c.requires.0)) c.requires.1 in (
      subst (λ (n : ℕ). from + n ≤ 4096) count (port-room c.args.mail.now.log c.args.mail.now.ends c.args.mail.now.room.log-room c.args.port c.requires.0),
      subst (λ (n : ℕ). length (first c.args.mail.now.log c.args.mail.now.ends c.args.port n) ≤ length c.args.buf.now) count fits,
    )

pub returns : goal.returns
returns c =
    let n = c.names in
    subst (λ (l : List ℕ). Wrote c.args.buf.now l n.new.buf n.result) (port-steps c.args.mail.now.log c.args.mail.now.ends c.args.mail.now.room.log-room c.args.port c.requires.0)
    (subst (λ (k : ℕ). Wrote c.args.buf.now (first c.args.mail.now.log c.args.mail.now.ends c.args.port k) n.new.buf n.result) c.waiting.ensures n.ensures)
