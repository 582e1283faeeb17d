-- `play::turns` meets its contract, by its invariant: the mask where the schedule is made, what is due in a turn of the loop, and the step.
-- Assumes nothing.
use mathlib.Core.Path.{◌≡◌, refl, ◌∙◌, ap, sym, subst}
use Prim.Native.Nat.{◌<◌}
use native.Mathlib.Omega.{arith}
use Rattle.std.specs.Prelude.{Err}
use Rattle.std.proofs.lemmas.List.{get_or_default}
use lib.ListN.{length, get_or, replicate}
use Rattle.table.specs.Format.{actors_of}
use Rattle.model.specs.Step.{waiting, over}
use Rattle.model.specs.Ready.{ready_mask}
use Rattle.state.specs.State.{fresh_actor, step_as}
use Rattle.state.specs.declared.Actor.{Actor}
use Rattle.state.specs.declared.Hold.{Hold}
use Rattle.lead.specs.declared.Lead.{Lead}
use Rattle.lead.specs.declared.Lead.TheVariants.{Made}
use Rattle.policy.specs.declared.Policy.{Policy}
use Rattle.play.specs.Parts.{played_by}
use Rattle.play.proofs.Playing.{reached}
use Rattle.play.proofs.Next.{entries-so-far, entry_absent, entry-finished, entry-untaken, steppable, room-here, playing-next, named-next}
use Rattle.play.proofs.Ends.{playing-start, named_start, played-through}
use Rattle.play.proofs.Masks.{own-there}
use Rattle.play.proofs.Leading.{Leads, Masked, Making, leads-start, leads-next, unmasked, last-in-actors, last-position, opened, own-right, due-end, due-entry}
use Rattle.play.proofs.turns.Goals as goal
use Rattle.play.proofs.turns.Goals.{in-Made+then-was_quiet, in-Made+else-was_quiet, in_default, Joined-lead, In-Made, In-Some, Else-n-a}

-- ---- the mask, where the schedule is made

made-led : (c : In-Made) → Making c.args.table.now (played_by c.args.table.now c.args.lead) c.in-Made.field-0 c.loop-i.mask c.loop-i.last c.loop-i.i c.loop-i.actors c.loop-i.site
made-led c =
    subst
    (λ (lead : Lead). Leads lead c.args.table.now (played_by c.args.table.now c.args.lead) c.loop-i.mask c.loop-i.last c.loop-i.i c.loop-i.actors c.loop-i.site)
    c.in-Made.is c.loop-i.invariant.2

-- the mask of a made schedule
right : (j : Joined-lead) (policy : Policy) → j.loop-i.lead ≡ Made policy → j.match-lead.mask ≡ ready_mask j.args.table.now (reached j.args.table.now (played_by j.args.table.now j.args.lead) j.loop-i.i)
    → Masked j.loop-i.lead j.args.table.now (played_by j.args.table.now j.args.lead) j.loop-i.i j.match-lead.mask
right j policy e m =
    subst (λ (lead : Lead). Masked lead j.args.table.now (played_by j.args.table.now j.args.lead) j.loop-i.i j.match-lead.mask) (sym e) m

masked : (j : Joined-lead) → Masked j.loop-i.lead j.args.table.now (played_by j.args.table.now j.args.lead) j.loop-i.i j.match-lead.mask
masked j =
    let l = j.loop-i in
    let table = j.args.table.now in
    let whole = played_by table j.args.lead in
    let led : (policy : Policy) → l.lead ≡ Made policy → Making table whole policy l.mask l.last l.i l.actors l.site =
    λ policy e. subst (λ (lead : Lead). Leads lead table whole l.mask l.last l.i l.actors l.site) e l.invariant.2 in
    elim j.match-lead.branch [
      | in-Made+then-was_quiet w ↦
          right j w.in-Made.field-0 w.in-Made.is
          (w.mask-is ∙ w.own_bit-mask.ensures.held ∙ own-right l.invariant.0 (led w.in-Made.field-0 w.in-Made.is) _ (get_or_default l.actors l.last _ _ (last-in-actors l.invariant.0 (led w.in-Made.field-0 w.in-Made.is))) (w.was_quiet.ensures w.if-was_quiet.true))
      | in-Made+else-was_quiet w ↦
          right j w.in-Made.field-0 w.in-Made.is
          (w.mask-is ∙ w.ready_mask-mask.ensures.held ∙ ap (ready_mask table) l.invariant.0.site)
      | in_default w ↦ unmasked l.lead table whole l.i j.match-lead.mask w.in_default.not-Made
    ]

-- ---- the actor whose turn it is

due : (d : In-Some) → Masked d.loop-i.lead d.args.table.now (played_by d.args.table.now d.args.lead) d.loop-i.i d.match-lead.mask
    → (d.loop-i.i < length (played_by d.args.table.now d.args.lead)) × (d.in-Some.a ≡ get_or (played_by d.args.table.now d.args.lead) d.loop-i.i 0)
due d right-mask =
    let l = d.loop-i in
    due-entry l.invariant.0 l.mask l.last d.match-lead.mask l.lead d.turn.new.self d.in-Some.a l.invariant.2 right-mask d.in-Some.ensures

-- ---- an entry whose actor the table has

in-table : (e : Else-n-a) → e.in-Some.a < actors_of e.args.table.now
in-table e = omega (arith, e.actors-n.ensures, e.if-n-a.false)

-- its record, as it is read
own-record : (e : Else-n-a) (read : Actor) → get_or e.loop-i.actors e.in-Some.a read ≡ get_or e.loop-i.actors e.in-Some.a fresh_actor
own-record e read =
    let P = e.loop-i.invariant.0 in
    get_or_default e.loop-i.actors e.in-Some.a _ _ (omega (arith, P.actors-long, P.accepted-table.actors-most, in-table e))

-- ---- the answers

pub loop-i-init : goal.loop-i-init
loop-i-init c = (
  playing-start _ _ _ _ c.requires.accepted c.requires.empty (ap (replicate 8) c.fresh-actors.ensures),
  named_start _ _ _ c.requires.names-long,
  leads-start c.args.lead c.args.table.now c.fresh-actors.result c.args.site.now c.requires.accepted c.fresh-actors.ensures,
)

pub was_quiet-requires : goal.was_quiet-requires
was_quiet-requires c =
    let M = made-led (goal.at.was_quiet-requires c).In-Made in
    let P = c.loop-i.invariant.0 in
    (P.accepted-table, M.last-in, last-position P M _ (get_or_default c.loop-i.actors c.loop-i.last _ _ (last-in-actors P M)))

pub own_bit-mask-requires : goal.own_bit-mask-requires
own_bit-mask-requires c =
    let P = c.loop-i.invariant.0 in
    let M = made-led (goal.at.own_bit-mask-requires c).In-Made in (
      record {
        accepted = P.accepted-table;
        actor = M.last-in;
      },
      own-there (opened P M _ (get_or_default c.loop-i.actors c.loop-i.last _ _ (last-in-actors P M)) (c.was_quiet.ensures c.if-was_quiet.true)) M.last-in,
    )

pub returns-in_default-turn : goal.returns-in_default-turn
returns-in_default-turn c =
    let l = c.loop-i in
    played-through l.invariant.0
    (due-end l.invariant.0 l.mask l.last c.match-lead.mask l.lead c.turn.new.self l.invariant.2 (masked (goal.at.returns-in_default-turn c).Joined-lead)
    c.in_default-turn.ensures)
    l.invariant.1

pub returns-then-n-a : goal.returns-then-n-a
returns-then-n-a c =
    let a = goal.at.returns-then-n-a c in
    let here = due a.In-Some (masked a.Joined-lead) in
    entry_absent c.loop-i.invariant.0 here.0 c.in-Some.a here.1 _ refl (omega (arith, here.1, c.actors-n.ensures, c.if-n-a.true))

pub returns-then-actions-k : goal.returns-then-actions-k
returns-then-actions-k c =
    let a = goal.at.returns-then-actions-k c in
    let here = due a.In-Some (masked a.Joined-lead) in
    entry-finished c.loop-i.invariant.0 here.0 c.in-Some.a here.1 _ (own-record a.Else-n-a c.index-actors-a.result) (in-table a.Else-n-a)
    (omega (arith, c.actions.ensures, c.if-actions-k.true))

pub step-requires : goal.step-requires
step-requires c =
    let a = goal.at.step-requires c in
    let here = due a.In-Some (masked a.Joined-lead) in
    steppable c.loop-i.invariant.0 here.0 c.in-Some.a here.1 _ (own-record a.Else-n-a c.index-actors-a.result) (in-table a.Else-n-a) (omega (arith, c.actions.ensures, c.if-actions-k.false))

pub bounds-names-i : goal.bounds-names-i
bounds-names-i c =
    let a = goal.at.bounds-names-i c in
    let here = due a.In-Some (masked a.Joined-lead) in
    room-here c.loop-i.invariant.0 here.0 c.in-Some.a here.1 _ (own-record a.Else-n-a c.index-actors-a.result) (in-table a.Else-n-a) (omega (arith, c.actions.ensures, c.if-actions-k.false))
    c.in-Ok.ensures

pub loop-i-preserved : goal.loop-i-preserved
loop-i-preserved c =
    let a = goal.at.loop-i-preserved c in
    let e = a.Else-n-a in
    let l = c.loop-i in
    let here = due a.In-Some (masked a.Joined-lead) in
    let next = playing-next l.invariant.0 here.0 c.in-Some.a here.1 _ (own-record e c.index-actors-a.result) (in-table e) (omega (arith, c.actions.ensures, c.if-actions-k.false)) c.in-Ok.ensures in (
      next,
      named-next l.invariant.0 here.0 c.in-Some.a here.1 _ (own-record e c.index-actors-a.result) (in-table e) (omega (arith, c.actions.ensures, c.if-actions-k.false)) c.in-Ok.ensures l.invariant.1,
      leads-next l.invariant.0 l.mask l.last c.match-lead.mask l.lead c.turn.new.self c.in-Some.a l.invariant.2 (masked a.Joined-lead) c.in-Some.ensures next,
    )

pub returns-in-Err-Waits : goal.returns-in-Err-Waits
returns-in-Err-Waits c =
    let a = goal.at.returns-in-Err-Waits c in
    let e = a.Else-n-a in
    let here = due a.In-Some (masked a.Joined-lead) in
    entry-untaken c.loop-i.invariant.0 here.0 c.in-Some.a here.1 _ (own-record e c.index-actors-a.result) (in-table e) (omega (arith, c.actions.ensures, c.if-actions-k.false)) waiting
    (sym c.in-Err-Waits.ensures.next-right ∙ ap (λ (hold : Hold). step_as {T = Actor} (Err hold)) c.in-Err-Waits.field-0-is) refl

pub returns-in-Err-Over : goal.returns-in-Err-Over
returns-in-Err-Over c =
    let a = goal.at.returns-in-Err-Over c in
    let e = a.Else-n-a in
    let here = due a.In-Some (masked a.Joined-lead) in
    entry-untaken c.loop-i.invariant.0 here.0 c.in-Some.a here.1 _ (own-record e c.index-actors-a.result) (in-table e) (omega (arith, c.actions.ensures, c.if-actions-k.false)) over
    (sym c.in-Err-Over.ensures.next-right ∙ ap (λ (hold : Hold). step_as {T = Actor} (Err hold)) c.in-Err-Over.field-0-is) refl

-- no turn of the loop comes so far
pub returns : goal.returns
returns c = absurd (omega (arith, c.loop-i-test.false, entries-so-far c.loop-i.invariant.0))
