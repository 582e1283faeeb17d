-- A schedule in the making: the rest of it is what the rule makes of the state that the turns so far have left. What the end, and one more turn, make of
-- that; who is known to be ready after it.
-- Assumes nothing.
use mathlib.Core.Path.{◌≡◌, refl, ◌∙◌, ap, sym, subst}
use mathlib.Core.Bool.{true}
use mathlib.Core.List.{List, [], ◌∷◌, ◌++◌}
use Prim.Native.Nat.{ℕ, suc, ◌+◌, ◌-◌, ◌<◌, ◌≤◌}
use native.Mathlib.Numerals.{add-one}
use native.Mathlib.Omega.{arith}
use borrow.Author.Tests.{ltb-true}
use lib.ListN.{length, get_or, take, drop, length-drop}
use lib.Seq.{take-suc, drop-cons, length-take-le}
use Rattle.table.specs.Format.{actors_of}
use Rattle.table.specs.Decode.{action_of}
use Rattle.trace.specs.Schedule.{final}
use Rattle.trace.proofs.Run.{inv-final}
use Rattle.model.specs.Site.{Site, initial}
use Rattle.model.specs.Views.{posts}
use Rattle.model.specs.Step.{ready, step}
use Rattle.model.specs.Ready.{bit_of, ready_mask, ready_count}
use Rattle.model.specs.Schedule.{machine}
use Rattle.model.specs.Scheduler.{Rule, schedule_room, turn_of, entries_from, made_from}
use Rattle.model.proofs.Invariant.{inv-initial, own-position}
use Rattle.model.proofs.Checks.{ready-parts}
use Rattle.model.proofs.Laws.{laws}
use Rattle.model.proofs.Reached.{reached-end}
use Rattle.model.proofs.ReadyMask.{bit-one, mask-right}
use Rattle.model.proofs.ReportBound.{actions-most}
use Rattle.model.proofs.ReportBoundSteps.{schedule-taken}
use Rattle.model.proofs.Scheduled.{Chooses, ready-left, turn-ready, entries-turn, entries-end}
use Rattle.state.specs.declared.arrays.Site.{Site as Arrays}
use Rattle.state.specs.State.{journal_of, fresh_actor}
use Rattle.state.specs.declared.Actor.{Actor}
use Rattle.lead.specs.Parts.{Unheard}
use Rattle.readiness.specs.Parts.{Answerable, KnownAlike}
use Rattle.readiness.proofs.Laws.{ready-alike}
use Rattle.play.proofs.Prefix.{final-more}
use Rattle.play.proofs.Playing.{reached, Playing}
use Rattle.play.proofs.Masks.{mask-some, mask-none, OwnOpen}
use Rattle.play.proofs.Quiet.{quiet-ready}

-- what is left of a schedule is what the rule makes of the state after i turns, by what it keeps then
abbrev pub Left : Rule → (table whole : List ℕ) (i kept : ℕ) → Type 0
Left rule table whole i kept = drop i whole ≡ entries_from rule table (schedule_room - i) (reached table whole i) kept

pub left-start : (rule : Rule) (table : List ℕ) (start : ℕ) → Left rule table (made_from rule table start) 0 start
unfolding made_from
left-start rule table start = refl

module _ (rule : Rule) (chooses : Chooses rule) (table whole : List ℕ) (kept : ℕ) {arrays : Arrays} {actors : List Actor} {i mask : ℕ}
    (P : Playing table whole arrays actors i) (rest : Left rule table whole i kept) (masked : mask ≡ ready_mask table (reached table whole i)) where
  abbrev here : Site
  here = reached table whole i

  -- nobody is ready: the schedule ends
  pub at-end : mask ≡ 0 → length whole ≤ i
  at-end z =
      let nothing : drop i whole ≡ [] = rest ∙ entries-end rule chooses table (schedule_room - i) here kept (mask-none table here masked z) in
      omega (arith, length-drop i whole, ap length nothing)

  module _ (some : 0 < mask) (a : ℕ) (turn : a ≡ turn_of rule table here kept) where
    somebody : 0 < ready_count table here
    somebody = mask-some table here masked some

    is-ready : ready table here a ≡ true
    is-ready = rw turn (turn-ready rule chooses table here kept somebody)

    -- so many steps were taken, and there is an action left
    room : i < schedule_room
    room =
        omega (
          arith,
          schedule-taken table initial (take i whole) P.taken,
          length-take-le i whole P.index,
          ready-left table here (reached-end table (take i whole) P.taken) a is-ready,
          actions-most table P.accepted-table,
        )

    -- the turn is the next entry, and the rule makes the others after it
    turns : drop i whole ≡ a ∷ entries_from rule table (schedule_room - (i + 1)) (step table here a) (rule.keeps kept a)
    turns =
        let one : schedule_room - i ≡ suc (schedule_room - (i + 1)) = omega (arith, room) in
        rest ∙ ap (λ (n : ℕ). entries_from rule table n here kept) one
        ∙ entries-turn rule chooses table (schedule_room - (i + 1)) here kept somebody
        ∙ ap (λ (b : ℕ). b ∷ entries_from rule table (schedule_room - (i + 1)) (step table here b) (rule.keeps kept b)) (sym turn)

    pub more : i < length whole
    more = omega (arith, length-drop i whole, ap length turns)

    split : get_or whole i 0 ∷ drop (suc i) whole ≡ a ∷ entries_from rule table (schedule_room - (i + 1)) (step table here a) (rule.keeps kept a)
    split = sym (drop-cons whole i 0 more) ∙ turns

    pub entry : a ≡ get_or whole i 0
    entry = sym (ap (λ (l : List ℕ). get_or l 0 0) split)

    there : reached table whole (i + 1) ≡ step table here a
    there =
        ap (final (machine table) initial)
        (ap (λ (n : ℕ). take n whole) (add-one i) ∙ take-suc whole i 0 more ∙ ap (λ (b : ℕ). take i whole ++ (b ∷ [])) (sym entry))
        ∙ final-more (machine table) initial (take i whole) a

    pub left-next : (kept' : ℕ) → kept' ≡ rule.keeps kept a → Left rule table whole (i + 1) kept'
    left-next kept' k =
        ap (λ (n : ℕ). drop n whole) (add-one i) ∙ ap (drop 1) split
        ∙ ap (λ (s : Site). entries_from rule table (schedule_room - (i + 1)) s (rule.keeps kept a)) (sym there)
        ∙ ap (entries_from rule table (schedule_room - (i + 1)) (reached table whole (i + 1))) (sym k)

    -- who was ready before the step is ready after it, but perhaps its own actor, whatever the logs, their ends and the journal are then
    pub known_next : {arrays' : Arrays} {actors' : List Actor} → Playing table whole arrays' actors' (i + 1)
        → KnownAlike table mask a actors' arrays'
    known_next {arrays'} {actors'} Q j h ne log ends journal =
        let was : ready table here j ≡ true =
        bit-one (ready table here j) (sym ((mask-right table here).bits j) ∙ sym (ap (λ (m : ℕ). bit_of m j) masked) ∙ h) in
        let inv = inv-final (laws table) initial (take i whole) (inv-initial table) P.taken in
        ready-alike table actors' arrays' log ends journal arrays'.mail.log arrays'.mail.ends (journal_of arrays'.journal) j
        ∙ ap (λ (s : Site). ready table s j) (Q.site ∙ there) ∙ (laws table).persist here j a inv ne was is-ready

    -- after a step that nobody waits for, the mask is right but perhaps for its own actor
    pub open_next : {arrays' : Arrays} {actors' : List Actor} → Playing table whole arrays' actors' (i + 1)
        → Unheard (posts (action_of table a ((get_or actors' a fresh_actor).position - 1))) → OwnOpen table (reached table whole (i + 1)) mask a
    open_next {arrays'} {actors'} Q quiet =
        let one_on : (get_or actors' a fresh_actor).position ≡ suc (here.actor a).position =
        ap (λ (s : Site). (s.actor a).position) (Q.site ∙ there) ∙ own-position table here a in
        let its_own : (here.actor a).position ≡ (get_or actors' a fresh_actor).position - 1 = omega arith in
        record {
          before = ready table here;
          was-masked = masked;
          had = is-ready;
          others = λ j ne.
              sym (quiet-ready table here a (subst (λ (k : ℕ). Unheard (posts (action_of table a k))) (sym its_own) quiet) j ne) ∙ ap (λ (s : Site). ready table s j) (sym there);
        }

    pub turn-in-table : a < actors_of table
    turn-in-table = ltb-true a (actors_of table) (ready-parts table here a is-ready).0

-- what a look at every actor may rely on
pub answerable : {table schedule : List ℕ} {arrays : Arrays} {actors : List Actor} {i : ℕ} → Playing table schedule arrays actors i
    → Answerable table actors
answerable P =
    record {
      accepted = P.accepted-table;
      actors-long = P.actors-long;
    }
