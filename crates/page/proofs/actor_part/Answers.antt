-- `page::actor_part` meets its contract: the line of the actor's record and status. Assumes nothing.
use mathlib.Core.Path.{◌≡◌, sym, subst}
use mathlib.Core.List.{List}
use Prim.Native.Nat.{ℕ, ◌<◌, ◌≤◌}
use native.Mathlib.Omega.{arith}
use lib.ListN.{length, get_or}
use Rattle.std.proofs.lemmas.List.{get_or_default}
use Rattle.state.specs.declared.Actor.{Actor}
use Rattle.state.specs.State.{fresh_actor}
use Rattle.writing.specs.Written.{Wrote}
use Rattle.page.specs.Parts.{status_as}
use Rattle.page.proofs.Laws.{line-from}
use Rattle.page.proofs.actor_part.Goals as goal

-- the record taken out of the array
taken : (actors : List Actor) (a : ℕ) (r : Actor) → a < 8 → length actors ≡ 8 → get_or actors a r ≡ get_or actors a fresh_actor
taken actors a r h long = let inside : a < length actors = omega arith in get_or_default actors a r fresh_actor inside

pub actor_line-requires : goal.actor_line-requires
actor_line-requires c =
    let x = c.args in
    let s = c.status_of-status in
    let one : x.a < 8 = omega (arith, c.requires.2, c.requires.0.accepted.actors-most) in
    let same = taken x.actors.now x.a c.index-actors-a.result one c.requires.0.actors-long in (
      one,
      subst (λ (r : Actor). r.position < 256) (sym same) (c.requires.1 x.a),
      subst (λ (l : List ℕ). length l ≤ length x.buf.now) (sym (line-from x.table.now x.actors.now x.site.now x.a _ same (status_as s.result) s.ensures)) c.requires.3,
    )

pub returns : goal.returns
returns c =
    let x = c.args in
    let s = c.status_of-status in
    let l = c.actor_line in
    let one : x.a < 8 = omega (arith, c.requires.2, c.requires.0.accepted.actors-most) in
    let same = taken x.actors.now x.a c.index-actors-a.result one c.requires.0.actors-long in
    subst (λ (t : List ℕ). Wrote x.buf.now t l.new.buf l.result) (line-from x.table.now x.actors.now x.site.now x.a _ same (status_as s.result) s.ensures) l.ensures
