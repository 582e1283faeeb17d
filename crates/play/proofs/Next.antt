-- From one entry of a schedule to the next: what a step may rely on, what it leaves, and what an entry that is refused makes of the schedule's checks.
-- Assumes nothing.
use mathlib.Core.Path.{◌≡◌, refl, ◌∙◌, ap, ap₂, sym, subst}
use mathlib.Core.Bool.{Bool, true, false, true≢false}
use mathlib.Core.List.{List, [], ◌∷◌, ◌++◌, map, map-append}
use Prim.Native.Nat.{ℕ, suc, ◌+◌, ◌*◌, ◌<◌, ◌≤◌}
use native.Mathlib.Nat.{zero-add}
use native.Mathlib.Numerals.{add-one}
use native.Mathlib.Omega.{arith}
use borrow.Author.Tests.{lt-ltb, le-ltb}
use lib.Dec.{eqb, ltb}
use Rattle.std.specs.Prelude.{Ok}
use lib.ListN.{length, get_or, take, drop, set, length-set, take-append-drop}
use lib.Seq.{take-suc, drop-cons, take-suc-set, length-take-le}
use Rattle.table.specs.declared.Action.{Action}
use Rattle.table.specs.declared.Action.TheVariants.{Note}
use Rattle.table.specs.Outcome.{Outcome, refused, ◌⨾◌}
use Rattle.table.specs.Format.{actors_of, count_of}
use Rattle.table.specs.Decode.{action_of}
use Rattle.trace.specs.Machine.{Name}
use Rattle.trace.specs.Schedule.{accepted, final, names}
use Rattle.model.specs.Site.{Queued, Site, Actor as Record, upd, name, initial}
use Rattle.model.specs.Views.{looks}
use Rattle.model.specs.Mutex.{join}
use Rattle.model.specs.Depths.{depth_in}
use Rattle.model.specs.Local.{Seen, see, local}
use Rattle.model.specs.Step.{NextStep, taken, waiting, over, is_taken, unfinished, step_of, next_step, next_action, ready, step}
use Rattle.model.specs.Schedule.{machine, RefusalNumbers, check_step, check_from, check_schedule}
use Rattle.model.proofs.Reached.{reached-end}
use Rattle.model.proofs.Journaled.{note-longer}
use Rattle.model.proofs.ReportBound.{entries-room, journal-room}
use Rattle.names.specs.InByte.{name_of}
use Rattle.state.specs.declared.arrays.Site.{Site as Arrays}
use Rattle.state.specs.State.{record_of, records_of, fresh_actor, site_of, next_of, seen_from}
use Rattle.step.specs.Parts.{Steppable, Took, StepTaken}
use Rattle.state.specs.declared.Actor.{Actor}
use Rattle.names.proofs.InByte.{name-byte}
use Rattle.model.proofs.Checks.{parts-ready, checks-after}
use Rattle.play.proofs.Prefix.{accepted-more, final-more, names_more}
use Rattle.play.proofs.Playing.{reached, Playing, Named, records-set, join-most, deeper-most}
use Rattle.journal.proofs.Held.{counts}
use Rattle.look.proofs.Sees.{see-parts, step-parts}

-- what follows a step that is not taken plays no part
step-decides : (n : RefusalNumbers) (t : NextStep) (i : ℕ) (after : Outcome) → is_taken t ≡ false → check_step n t i ≡ (check_step n t i ⨾ after)
step-decides n taken i after h = absurd (true≢false h)
step-decides n waiting i after h = refl
step-decides n over i after h = refl

module _ {table schedule : List ℕ} {arrays : Arrays} {actors : List Actor} {i : ℕ}
    (P : Playing table schedule arrays actors i) where
  abbrev here : Site
  here = site_of actors arrays

  pub entries-so-far : i ≤ 256
  entries-so-far =
      omega (arith, entries-room table P.accepted-table (take i schedule) P.taken, length-take-le i schedule P.index)

  -- the entry's actor and its record, as the code has them
  module _ (more : i < length schedule) (a : ℕ) (entry : a ≡ get_or schedule i 0) (r : Actor) (own : r ≡ get_or actors a fresh_actor) where
    one_more : take (i + 1) schedule ≡ take i schedule ++ (a ∷ [])
    one_more =
        ap (λ (n : ℕ). take n schedule) (add-one i) ∙ take-suc schedule i 0 more ∙ ap (λ (b : ℕ). take i schedule ++ (b ∷ [])) (sym entry)

    -- the record is the one reached
    record-reached : (reached table schedule i).actor a ≡ record_of r
    record-reached = sym (ap (λ (s : Site). s.actor a) P.site) ∙ ap record_of (sym own)

    -- ---- an entry that is refused

    checks-here : (n : RefusalNumbers) → check_schedule n table schedule ≡ check_from n table (reached table schedule i) i (a ∷ drop (suc i) schedule)
    checks-here n =
        ap (check_from n table initial 0) (sym (take-append-drop i schedule)) ∙ checks-after table n initial 0 (take i schedule) (drop i schedule) P.taken
        ∙ ap₂ (check_from n table (reached table schedule i)) (zero-add (length (take i schedule)) ∙ length-take-le i schedule P.index)
        (drop-cons schedule i 0 more ∙ ap (λ (b : ℕ). b ∷ drop (suc i) schedule) (sym entry))

    pub entry_absent : actors_of table ≤ a → (n : RefusalNumbers) → check_schedule n table schedule ≡ refused n.absent i
    entry_absent h n = checks-here n ∙ rw (le-ltb a (actors_of table) h)

    module _ (in_table : a < actors_of table) where
      unfinished-here : (test : Bool) → ltb r.position (count_of table a) ≡ test → unfinished table (reached table schedule i) a ≡ test
      unfinished-here test e = ap (λ (q : Record). ltb q.position (count_of table a)) record-reached ∙ e

      pub entry-finished : count_of table a ≤ r.position → (n : RefusalNumbers) → check_schedule n table schedule ≡ refused n.finished i
      entry-finished h n =
          checks-here n ∙ rw (lt-ltb a (actors_of table) in_table, unfinished-here false (le-ltb r.position (count_of table a) h))

      module _ (left : r.position < count_of table a) where
        abbrev x : Action
        x = next_of table a r

        abbrev held : Actor
        held = get_or actors a fresh_actor

        still : unfinished table (reached table schedule i) a ≡ true
        still = unfinished-here true (lt-ltb r.position (count_of table a) left)

        -- the step's own view decides what the step is
        step-here : next_step table (reached table schedule i) a ≡ step_of table (seen_from r arrays) a x
        step-here =
            sym (ap (λ (s : Site). next_step table s a) P.site)
            ∙ step-parts table here (seen_from held arrays) a (next_of table a held) refl refl refl
            ∙ ap (λ (q : Actor). step_of table (seen_from q arrays) a (next_of table a q)) (sym own)

        -- a step that is not taken is refused by what it is
        pub entry-untaken : (t : NextStep) → step_of table (seen_from r arrays) a x ≡ t → is_taken t ≡ false
            → (n : RefusalNumbers) → check_schedule n table schedule ≡ check_step n t i
        entry-untaken t e not n =
            sym
            (step-decides n t i (check_from n table (step table (reached table schedule i) a) (suc i) (drop (suc i) schedule)) not
            ∙ sym (checks-here n ∙ rw (lt-ltb a (actors_of table) in_table, still, step-here ∙ e)))

        ready-here : step_of table (seen_from r arrays) a x ≡ taken → ready table (reached table schedule i) a ≡ true
        ready-here e = parts-ready table (reached table schedule i) a (lt-ltb a (actors_of table) in_table) still (ap is_taken (step-here ∙ e))

        -- ---- a step

        taken_more : ready table (reached table schedule i) a ≡ true → accepted (machine table) initial (take (i + 1) schedule) ≡ true
        taken_more e = rw one_more (accepted-more (machine table) initial (take i schedule) a P.taken e)

        room-more : ready table (reached table schedule i) a ≡ true → i < 256
        room-more e =
            let all = entries-room table P.accepted-table (take (i + 1) schedule) (taken_more e) in
            let long : length (take (i + 1) schedule) ≡ i + 1 = length-take-le (i + 1) schedule (omega arith) in
            omega arith

        -- a Note is taken, so that the journal with its entry is that of a state that is reached too
        note-more : (cell : ℕ) → x ≡ Note cell → arrays.journal.count < 256
        note-more cell e =
            let now : ready table (reached table schedule i) a ≡ true =
            ready-here (ap (step_of table (seen_from r arrays) a) e) in
            let there : length (reached table schedule (i + 1)).journal ≤ 256 =
            journal-room table P.accepted-table (reached table schedule (i + 1)) (reached-end table (take (i + 1) schedule) (taken_more now)) in
            let one_on : reached table schedule (i + 1) ≡ step table (reached table schedule i) a =
            ap (final (machine table) initial) one_more ∙ final-more (machine table) initial (take i schedule) a in
            let action : next_action table (reached table schedule i) a ≡ Note cell =
            ap (λ (q : Record). action_of table a q.position) record-reached ∙ e in
            omega (
              arith,
              there,
              ap (λ (s : Site). length s.journal) one_on,
              note-longer table (reached table schedule i) a cell action,
              ap (λ (s : Site). length s.journal) P.site,
              counts arrays.journal,
            )

        pub steppable : Steppable table a r arrays
        steppable =
            record {
              accepted = P.accepted-table;
              actor = in_table;
              unfinished = left;
              tail-room = λ e n. let small = room-more (ready-here e) in omega (arith, P.tail-room n);
              join-room = λ m.
                  subst (λ (q : ℕ → List Queued). length (join (q m) a) ≤ 8) (sym (ap (λ (s : Site). s.queue) P.site))
                  (join-most table (reached table schedule i) a P.accepted-table (reached-end table (take i schedule) P.taken) in_table m);
              depth-room = λ m.
                  subst (λ (q : ℕ → List Queued). depth_in (join (q m) a) a ≤ 32) (sym (ap (λ (s : Site). s.queue) P.site))
                  (deeper-most table (reached table schedule i) a P.accepted-table (reached-end table (take i schedule) P.taken) in_table
                  (omega (arith, ap (λ (q : Record). q.position) record-reached)) m);
              note-room = note-more;
            }

        module _ {arrays' : Arrays} {after : Actor}
            (T : StepTaken table a x r arrays arrays' (Ok after)) where
          was-ready : ready table (reached table schedule i) a ≡ true
          was-ready = ready-here (sym T.next-right)

          pub room-here : i < 256
          room-here = room-more was-ready

          in-actors : a < length actors
          in-actors = omega (arith, P.actors-long, P.accepted-table.actors-most)

          -- what the step took of the record in its place
          took : Took table a (next_of table a held) held arrays arrays' after
          took =
              subst
              (λ (q : Actor).
              Took table a (next_of table a q) q arrays arrays' after)
              own T.took

          stepped : site_of (set actors a after) arrays' ≡ step table here a
          unfolding step
          stepped =
              let y : Action = next_of table a held in
              let records : records_of (set actors a after) ≡ upd eqb (records_of actors) a (local (action_of table a) y (see here a (looks y)) (record_of held)) =
              records-set actors a after in-actors
              ∙ ap (upd eqb (records_of actors) a)
              (took.record-next
              ∙ ap (λ (found : Seen). local (action_of table a) y found (record_of held))
              (see-parts (seen_from held arrays) here a (looks y) refl refl)) in
              λ j. record { actor = records j; mail = took.mail-next j; queue = took.queue-next j; journal = took.journal-next j }

          small-position : r.position < 32
          small-position = omega (arith, P.accepted-table.actions-most a in_table)

          pub named-next : {names' : List ℕ} → Named table schedule names' i → Named table schedule (set names' i (32 * a + r.position)) (i + 1)
          named-next {names'} N =
              let in-names : i < length names' = omega (arith, N.names-long, room-here) in
              let written : take (i + 1) (set names' i (32 * a + r.position)) ≡ take i names' ++ ((32 * a + r.position) ∷ []) =
              ap (λ (n : ℕ). take n (set names' i (32 * a + r.position))) (add-one i) ∙ take-suc-set names' i (32 * a + r.position) in-names in
              let named : name_of (32 * a + r.position) ≡ name a ((reached table schedule i).actor a).position =
              name-byte a r.position small-position ∙ ap (λ (q : Record). name a q.position) (sym record-reached) in
              record {
                names-long = simp length-set N.names-long;
                names-right =
                    ap (map name_of) written ∙ map-append name_of (take i names') ((32 * a + r.position) ∷ [])
                    ∙ ap₂ (λ (l : List Name) (y : Name). l ++ (y ∷ [])) N.names-right named
                    ∙ sym (ap (names (machine table) initial) one_more ∙ names_more (machine table) initial (take i schedule) a);
              }

          pub playing-next : Playing table schedule arrays' (set actors a after) (i + 1)
          playing-next =
              record {
                accepted-table = P.accepted-table;
                site =
                    stepped ∙ ap (λ (t : Site). step table t a) P.site
                    ∙ sym (ap (final (machine table) initial) one_more ∙ final-more (machine table) initial (take i schedule) a);
                taken = taken_more was-ready;
                index = omega arith;
                actors-long = simp length-set P.actors-long;
                tail-room = λ n. omega (arith, T.grown n, P.tail-room n);
              }
