-- `lines::refused` meets its contract: `refused ` and the number, then ` at ` and the position. Assumes nothing.
use Rattle.lines.proofs.Wordings.{refused_label, label-length, position-length, wrote-refused}
use mathlib.Core.List.{◌++◌}
use Rattle.model.specs.Text.{decimal}
use Rattle.writing.proofs.Texts.{wrote-room}
use native.Mathlib.Omega.{arith}
use Rattle.lines.proofs.refused.Goals as goal

pub labelled-at-requires : goal.labelled-at-requires
labelled-at-requires c =
    omega (arith, c.requires, label-length c.args.number c.ranges.number.fits)

pub ended-requires : goal.ended-requires
ended-requires c =
    wrote-room c.args.buf.now (refused_label ++ decimal c.args.number) c.labelled-at.ensures _ (omega (arith, c.requires, label-length c.args.number c.ranges.number.fits, position-length c.args.position c.ranges.position.fits))

pub returns : goal.returns
returns c =
    let l = c.labelled-at in
    let p = c.ended in
    let both = wrote-refused c.args.buf.now l.new.buf p.new.buf c.args.number c.args.position l.result p.result c.ranges.number.fits c.ranges.position.fits l.ensures p.ensures in
    record { wrote = both.0; upper_bound = both.1 }
