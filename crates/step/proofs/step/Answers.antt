-- `step::step` meets its contract: in each arm the action is known, its range gives what the callees ask, and what they ensure makes up the
-- model's step of that action.
-- Assumes nothing.
use mathlib.Core.Path.{◌≡◌, refl, ◌∙◌, ap, sym, subst}
use native.Mathlib.Omega.{arith}
use lib.ListN.{get_or, set}
use Rattle.table.specs.Decode.{action_of}
use Rattle.step.specs.Parts.{StepTaken, Picks, SmallPlace}
use Rattle.step.proofs.Taken.{ranged, pickable, small-place, quiet, posted, queued, noted, of-next}
use mathlib.Core.List.{List}
use Prim.Native.Nat.{ℕ, ◌+◌}
use mathlib.Core.Bool.{cond}
use Rattle.table.specs.declared.Action.{Action}
use Rattle.state.specs.declared.Actor.{Actor}
use Rattle.model.specs.Views.{joins, leaves}
use Rattle.mail.specs.Parts.{sends_at, receives_at}
use Rattle.model.specs.Local.{Seen, pick_up_seen, place_seen, is_seen, cells_after}
use Rattle.model.specs.Step.{taken, waiting}
use Rattle.std.proofs.Common.{Result}
use Rattle.state.specs.State.{next_of}
use Rattle.state.specs.declared.arrays.Site.{Site as Arrays}
use Rattle.state.specs.declared.Hold.{Hold}
use Rattle.step.proofs.step.Goals as goal
use Rattle.step.proofs.step.Goals.{in-Set, in-Add+in_ok-adding-in-Add, in-Lesser, in-Send, in-Receive, in-TestAny, in-WaitAny+in_ok-awaited-in-WaitAny, in-Lock, in-Unlock, in-MutexTest, in-MutexWait+in_ok-awaited-in-MutexWait, in-Note}

-- the site where the arms join is what the arm left
joined : {table : List ℕ} {a : ℕ} {x : Action} {r : Actor} {s : Result Actor Hold} {before after left : Arrays} → after ≡ left → next_of table a r ≡ x
    → StepTaken table a x r before left s → StepTaken table a (next_of table a r) r before after s
joined same is t = rw same (of-next _ is t)

-- the record that is handed back, by the one that the arm made of the actor's
handed : (r next : Actor) {made after : Actor} {cells : List ℕ} → (next.position ≡ after.position + 1) × (next.cells ≡ after.cells) → after ≡ made
    → (made.position ≡ r.position) × (made.cells ≡ cells) → (next.position ≡ r.position + 1) × (next.cells ≡ cells)
handed r next {made} {after} n is m =
    let position : after.position ≡ r.position = ap (λ (q : Actor). q.position) is ∙ m.0 in
    (omega (arith, n.0), n.1 ∙ ap (λ (q : Actor). q.cells) is ∙ m.1)

-- a look's place goes into the result cell of the record that has picked up what was found
looked : (own : ℕ → Action) (res : ℕ) (r picked told : Actor) {saw found : Seen} → saw ≡ found
    → (picked.position ≡ r.position) × (picked.cells ≡ pick_up_seen own saw r.cells)
    → (told.position ≡ picked.position) × (told.cells ≡ set picked.cells res (place_seen saw))
    → (told.position ≡ r.position) × (told.cells ≡ set (pick_up_seen own found r.cells) res (place_seen found))
looked own res r picked told {saw} same p t = (
  t.0 ∙ p.0,
  t.1
      ∙ ap (λ (cells : List ℕ). set cells res (place_seen saw)) p.1
      ∙ ap (λ (f : Seen). set (pick_up_seen own f r.cells) res (place_seen f)) same,
)

pub picked-requires : goal.picked-requires
picked-requires c =
    (c.requires.accepted, c.requires.actor, subst (Picks c.args.table.now c.args.a) (sym c.communications-seen.ensures) (pickable c.requires _ _ _ (ranged c.requires _ (sym c.in-TestAny.ensures)).1))

pub told-after-requires : goal.told-after-requires
told-after-requires c =
    let range = ranged c.requires _ (sym c.in-TestAny.ensures) in (
      range.0,
      subst SmallPlace (sym c.communications-seen.ensures) (small-place _ _ _ range.1.most),
    )

pub picked-requires-in-WaitAny : goal.picked-requires-in-WaitAny
picked-requires-in-WaitAny c =
    (c.requires.accepted, c.requires.actor, subst (Picks c.args.table.now c.args.a) (sym c.communications-seen-in-WaitAny.ensures) (pickable c.requires _ _ _ (ranged c.requires _ (sym c.in-WaitAny.ensures)).1))

pub told-after-requires-in-WaitAny : goal.told-after-requires-in-WaitAny
told-after-requires-in-WaitAny c =
    let range = ranged c.requires _ (sym c.in-WaitAny.ensures) in (
      range.0,
      subst SmallPlace (sym c.communications-seen-in-WaitAny.ensures) (small-place _ _ _ range.1.most),
    )

pub told-after-requires-in-MutexTest : goal.told-after-requires-in-MutexTest
told-after-requires-in-MutexTest c =
    let range = ranged c.requires _ (sym c.in-MutexTest.ensures) in
    (range.0, subst SmallPlace (sym c.mutexes.ensures) (small-place _ _ _ range.1.most))

pub told-after-requires-in-MutexWait : goal.told-after-requires-in-MutexWait
told-after-requires-in-MutexWait c =
    let range = ranged c.requires _ (sym c.in-MutexWait.ensures) in
    (range.0, subst SmallPlace (sym c.mutexes-seen.ensures) (small-place _ _ _ range.1.most))

pub returns : goal.returns
unfolding cells_after
returns c =
    elim c.match-action.branch [
      | in-Set w ↦ joined w.site-is (sym w.in-Set.ensures)
          (quiet c.requires _ c.next.result refl refl (handed c.args.r c.next.result c.next.ensures w.after-is w.put-after.ensures))
      | in-Add+in_ok-adding-in-Add w ↦ joined w.site-is (sym w.in-Add.ensures)
          (quiet c.requires _ c.next.result refl w.in_ok-adding-in-Add.ensures (handed c.args.r c.next.result c.next.ensures w.after-is w.add-after.ensures))
      | in-Lesser w ↦ joined w.site-is (sym w.in-Lesser.ensures)
          (quiet c.requires _ c.next.result refl refl (handed c.args.r c.next.result c.next.ensures w.after-is w.lesser-after.ensures))
      | in-Send w ↦ joined w.site-is (sym w.in-Send.ensures)
          (posted c.requires _ c.next.result (sends_at w.in-Send.mailbox) (get_or c.args.r.cells w.in-Send.cell 0) refl refl refl w.send.ensures (handed c.args.r c.next.result c.next.ensures w.after-is (refl, refl)))
      | in-Receive w ↦ joined w.site-is (sym w.in-Receive.ensures)
          (posted c.requires _ c.next.result (receives_at w.in-Receive.mailbox) 0 refl refl refl w.receive.ensures (handed c.args.r c.next.result c.next.ensures w.after-is (refl, refl)))
      | in-TestAny w ↦ joined w.site-is (sym w.in-TestAny.ensures)
          (quiet c.requires _ c.next.result refl refl (handed c.args.r c.next.result c.next.ensures w.after-is
          (looked (action_of c.args.table.now c.args.a) w.in-TestAny.result c.args.r w.picked.result w.told-after.result w.communications-seen.ensures w.picked.ensures w.told-after.ensures)))
      | in-WaitAny+in_ok-awaited-in-WaitAny w ↦ joined w.site-is (sym w.in-WaitAny.ensures)
          (quiet c.requires _ c.next.result refl (w.in_ok-awaited-in-WaitAny.ensures ∙ ap (λ (f : Seen). cond (is_seen f) taken waiting) w.communications-seen-in-WaitAny.ensures)
          (handed c.args.r c.next.result c.next.ensures w.after-is
          (looked (action_of c.args.table.now c.args.a) w.in-WaitAny.result c.args.r w.picked-in-WaitAny.result w.told-after-in-WaitAny.result
          w.communications-seen-in-WaitAny.ensures w.picked-in-WaitAny.ensures w.told-after-in-WaitAny.ensures)))
      | in-Lock w ↦ joined w.site-is (sym w.in-Lock.ensures)
          (queued c.requires _ c.next.result (joins w.in-Lock.mutex) refl refl (λ me v mail. refl) (λ me v entries. refl) w.join.ensures (handed c.args.r c.next.result c.next.ensures w.after-is (refl, refl)))
      | in-Unlock w ↦ joined w.site-is (sym w.in-Unlock.ensures)
          (queued c.requires _ c.next.result (leaves w.in-Unlock.mutex) refl refl (λ me v mail. refl) (λ me v entries. refl) w.leave.ensures (handed c.args.r c.next.result c.next.ensures w.after-is (refl, refl)))
      | in-MutexTest w ↦ joined w.site-is (sym w.in-MutexTest.ensures)
          (quiet c.requires _ c.next.result refl refl (handed c.args.r c.next.result c.next.ensures w.after-is
          (w.told-after-in-MutexTest.ensures.0, w.told-after-in-MutexTest.ensures.1 ∙ ap (λ (f : Seen). set c.args.r.cells w.in-MutexTest.result (place_seen f)) w.mutexes.ensures)))
      | in-MutexWait+in_ok-awaited-in-MutexWait w ↦ joined w.site-is (sym w.in-MutexWait.ensures)
          (quiet c.requires _ c.next.result refl (w.in_ok-awaited-in-MutexWait.ensures ∙ ap (λ (f : Seen). cond (is_seen f) taken waiting) w.mutexes-seen.ensures)
          (handed c.args.r c.next.result c.next.ensures w.after-is
          (w.told-after-in-MutexWait.ensures.0, w.told-after-in-MutexWait.ensures.1 ∙ ap (λ (f : Seen). set c.args.r.cells w.in-MutexWait.result (place_seen f)) w.mutexes-seen.ensures)))
      | in-Note w ↦ joined w.site-is (sym w.in-Note.ensures)
          (noted c.requires w.in-Note.cell c.next.result w.add.ensures (handed c.args.r c.next.result c.next.ensures w.after-is (refl, refl)))
    ]
