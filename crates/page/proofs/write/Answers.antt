-- `page::write` meets its contract: the page is the lines of the table's actors. Assumes nothing.
use native.Mathlib.Omega.{arith}
use Rattle.model.specs.Page.{page}
use Rattle.state.specs.State.{site_of}
use Rattle.writing.specs.Written.{Wrote}
use Rattle.page.proofs.Laws.{page-lines, page-from}
use Rattle.page.proofs.write.Goals as goal

pub lines-requires : goal.lines-requires
lines-requires c =
    let x = c.args in
    (c.requires.answerable, c.requires.positions, omega (arith, c.actors.ensures), rw c.actors.ensures (rw (page-lines x.table.now x.actors x.site.now) at c.requires.room))

pub returns : goal.returns
returns c =
    let x = c.args in
    let right : Wrote x.buf.now (page x.table.now (site_of x.actors x.site.now)) c.lines.new.buf c.lines.result =
    rw (page-lines x.table.now x.actors x.site.now, ← c.actors.ensures) c.lines.ensures in
    record { held = right; alike = λ log ends journal. rw (page-from x.table.now x.actors x.site.now log ends journal) right }
