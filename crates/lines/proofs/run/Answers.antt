-- `lines::run` meets its contract: the steps' lines, then the ending's. Assumes nothing.
use mathlib.Core.Path.{sym, subst}
use mathlib.Core.List.{List, ◌++◌}
use Prim.Native.Nat.{ℕ, ◌+◌, ◌≤◌}
use native.Mathlib.Omega.{arith}
use lib.ListN.{length}
use Rattle.model.specs.Report.{parts}
use Rattle.model.specs.Text.{line}
use Rattle.model.specs.Listing.{end_text}
use Rattle.answers.specs.Answers.{ending_as}
use Rattle.writing.specs.Written.{Wrote}
use Rattle.writing.proofs.Written.{rest, joined, wrote_then}
use Rattle.writing.proofs.Texts.{wrote-room}
use Rattle.lines.specs.FirstSteps.{line_at}
use Rattle.lines.proofs.Wordings.{lines-of, lines-length, last-length}
use Rattle.lines.proofs.run.Goals as goal

pub steps-at-requires : goal.steps-at-requires
steps-at-requires c =
    (c.requires.0, omega (arith, c.requires.1, c.requires.2, lines-length c.args.names.now c.fits-names c.args.count 0))

pub put-requires : goal.put-requires
put-requires c =
    let s = c.steps-at in
    subst (λ (l : List ℕ). length l ≤ length (rest s.result s.new.buf)) (sym c.last.ensures)
    (wrote-room c.args.buf.now (parts (line_at c.args.names.now) c.args.count 0) s.ensures _
    (omega (arith, c.requires.1, c.requires.2, lines-length c.args.names.now c.fits-names c.args.count 0, last-length (ending_as c.args.ending))))

pub returns : goal.returns
returns c =
    let e = c.args.buf.now in
    let s = c.steps-at in
    let l = c.put in
    let end = line (end_text (ending_as c.args.ending)) in
    let last : Wrote (rest s.result s.new.buf) end l.new.buf l.result = subst (λ (t : List ℕ). Wrote (rest s.result s.new.buf) t l.new.buf l.result) c.last.ensures l.ensures in record {
      wrote = subst (λ (t : List ℕ). Wrote e (t ++ end) (joined s.result s.new.buf l.new.buf) (s.result + l.result)) (lines-of c.args.names.now c.args.count c.requires.0)
          (wrote_then e (parts (line_at c.args.names.now) c.args.count 0) s.new.buf end l.new.buf s.result l.result s.ensures last);
      upper_bound = omega (arith, s.ensures.0, last.0, c.requires.1, lines-length c.args.names.now c.fits-names c.args.count 0, last-length (ending_as c.args.ending));
    }
