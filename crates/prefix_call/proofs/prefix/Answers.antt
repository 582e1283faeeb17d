-- `prefix_call::prefix` meets its contract: the verdict of `same` on as much of both as both have. Assumes nothing.
use Rattle.std.proofs.Common.{◌≡◌, ◌∙◌, ap, ap₂, ℕ, List, min, take, length, arith, rules}
use Rattle.std.proofs.lemmas.List.{take_min}
use Rattle.model.specs.Calls.{comparison_of}
use Rattle.model.specs.Recordings.{prefix_comparison_of}
use Rattle.prefix_call.proofs.prefix.Goals as goal

pub returns : goal.returns
unfolding prefix_comparison_of
returns c =
    let f = c.args.first.now in
    let s = c.args.second.now in
    let least : c.min-both.result ≡ min (length f) (length s) = search rules in
    let other : c.min-both.result ≡ min (length s) (length f) = omega (arith, least) in
    c.same.ensures
    ∙ ap₂ (comparison_of c.args.table.now) (ap (λ (n : ℕ). take n f) other ∙ take_min (length s) f) (ap (λ (n : ℕ). take n s) least ∙ take_min (length f) s)
