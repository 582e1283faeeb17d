-- `text::right` meets its contract: a number below 10 is its digit after spaces, any other its tenth in one column fewer and then its
-- last digit. Assumes nothing.
use Prim.Native.Nat.{◌/◌}
use native.Mathlib.Omega.{arith}
use Rattle.model.specs.Text.{decimal, right as right_of}
use Rattle.writing.proofs.Texts.{wrote-below}
use Rattle.text.proofs.Digits.{wrote-small, more-length, wrote-more}
use Rattle.text.proofs.+right.Goals as goal

pub returns-then-x-lt10 : goal.returns-then-x-lt10
returns-then-x-lt10 t c =
    let l = c.saturating_sub-front in
    let w = c.spaces-at in
    wrote-small c.args.columns c.args.x l.result l.ensures c.if-x-lt10.true c.args.buf.now w.new.buf c.digit.result w.result c.digit.ensures c.requires w.ensures

pub right-at-requires : goal.right-at-requires
right-at-requires t c =
    let l = c.saturating_sub-front in
    let big = c.if-x-lt10.false in (
      omega (arith, big),
      omega (arith, c.requires, more-length c.args.columns c.args.x l.result l.ensures big),
    )

pub bounds-buf-at-2 : goal.bounds-buf-at-2
bounds-buf-at-2 t c =
    let l = c.saturating_sub-front in
    wrote-below c.args.buf.now (right_of l.result (decimal (c.args.x / 10))) c.right-at.ensures
    (omega (arith, c.requires, more-length c.args.columns c.args.x l.result l.ensures c.if-x-lt10.false))

pub returns : goal.returns
returns t c =
    let l = c.saturating_sub-front in
    let w = c.right-at in
    wrote-more c.args.columns c.args.x l.result l.ensures c.if-x-lt10.false c.args.buf.now w.new.buf c.digit-2.result w.result c.digit-2.ensures c.requires w.ensures
