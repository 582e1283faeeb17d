-- `Latest::pass` meets its contract: a step is a post to what its p names, or any other.
-- Assumes nothing.
use mathlib.Core.Path.{sym, ◌∙◌}
use Rattle.footprint.proofs.Numbered.{numbers-small, passed-post, unnumbered-post}
use Rattle.footprint.proofs.Latest.pass.Goals as goal

pub post-requires : goal.post-requires
post-requires c =
    numbers-small c.args.table.now c.args.a c.args.k c.kind-kind.ensures c.target.ensures
    (sym c.is_numbered.ensures ∙ c.if-is_numbered.true) c.requires.0 c.requires.1

pub returns-then-is_numbered : goal.returns-then-is_numbered
returns-then-is_numbered c =
    rw c.post.ensures.looks
    (passed-post c.args.table.now c.args.a c.args.k c.kind-kind.ensures c.target.ensures
    (sym c.is_numbered.ensures ∙ c.if-is_numbered.true) c.post.ensures.posts)

pub pass_other-requires : goal.pass_other-requires
pass_other-requires c =
    let other =
    unnumbered-post c.args.table.now c.args.a c.args.k c.kind-kind.ensures
    (sym c.is_numbered.ensures ∙ c.if-is_numbered.false) in
    (c.requires.0, c.requires.1, other)
