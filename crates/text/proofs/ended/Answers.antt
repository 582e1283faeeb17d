-- `text::ended` meets its contract: the label and the number, then a line feed. Assumes nothing.
use Rattle.writing.proofs.Texts.{wrote-store}
use Rattle.model.specs.Text.{decimal}
use lib.ListN.{length-append}
use mathlib.Core.List.{[], ◌∷◌, ◌++◌}
use native.Mathlib.Omega.{arith}
use Rattle.text.proofs.ended.Goals as goal

pub returns : goal.returns
returns c =
    let l = c.labelled-at in
    wrote-store c.args.buf.now (c.args.label.now ++ decimal c.args.x) l.new.buf l.result 10 (omega (arith, c.requires, length-append (c.args.label.now ++ decimal c.args.x) (10 ∷ []))) l.ensures
