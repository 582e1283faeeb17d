-- `actor_sections::actor_part` meets its contract: the position, then the cells. Assumes nothing.
use mathlib.Core.Path.{◌≡◌, subst}
use mathlib.Core.List.{[], ◌∷◌}
use Prim.Native.Nat.{◌+◌, ◌<◌}
use native.Mathlib.Omega.{arith}
use lib.ListN.{length, get_or}
use Rattle.std.proofs.lemmas.List.{get_or_default}
use Rattle.model.specs.Report.{long, parts, actor_bytes}
use Rattle.state.specs.State.{record_of, fresh_actor}
use Rattle.state.specs.declared.Actor.{Actor}
use Rattle.writing.specs.Written.{Wrote}
use Rattle.writing.proofs.Written.{joined, wrote_then}
use Rattle.actor_sections.proofs.actor_part.Goals as goal

pub returns : goal.returns
returns c =
    let e = c.args.buf.now in
    let x = c.index-actors-a in
    let p = c.put-at in
    let q = c.cells_part in
    let inside : c.args.a < length c.args.actors.now = omega arith in
    let r = get_or c.args.actors.now c.args.a x.result in
    let same : r ≡ get_or c.args.actors.now c.args.a fresh_actor = get_or_default c.args.actors.now c.args.a x.result fresh_actor inside in
    subst (λ (r : Actor). Wrote e (actor_bytes (record_of r)) (joined p.result p.new.buf q.new.buf) (p.result + q.result)) same
    (wrote_then e (r.position ∷ []) p.new.buf (parts (λ k. long (get_or r.cells k 0)) 8 0) q.new.buf p.result q.result p.ensures q.ensures)
