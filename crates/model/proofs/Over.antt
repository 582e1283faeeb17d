-- Totals that run over: which steps are refused 21, that they stay so, that exchanged schedules meet them at the same entry, and that no sum wraps.
-- Assumes nothing.
use Prim.Native.Nat.{ℕ, ◌+◌, ◌^◌, ◌<◌}
use native.Mathlib.Nat.{zero-add}
use native.Mathlib.Omega.{arith}
use mathlib.Core.Path.{◌≡◌, refl, sym, ◌∙◌, ap, ap₂, subst}
use mathlib.Core.Logic.{◌⊎◌, inl, inr, ◌↔◌, ◌≢◌}
use mathlib.Core.Bool.{true, false}
use mathlib.Core.List.{List, [], ◌∷◌, ◌++◌}
use borrow.Author.Tests.{ltb-true, lt-ltb}
use lib.Dec.{ltb}
use lib.ListN.{length, get_or, set, take}
use lib.Seq.{get_or-set_same, get_or-set_other}
use Rattle.table.specs.declared.Action.{Action}
use Rattle.table.specs.declared.Action.TheVariants.{Add}
use Rattle.table.specs.Outcome.{Outcome, accepted, refused, ◌⨾◌, number_of}
use Rattle.table.specs.Format.{actors_of, count_of}
use Rattle.table.specs.Read.{read_of}
use Rattle.table.specs.Promise.{InRange}
use Rattle.table.proofs.Checks.{refused-not}
use Rattle.table.proofs.Promise.{promised}
use Rattle.trace.specs.Machine.{Machine}
use Rattle.trace.specs.Schedule.{accepted as all-taken, final}
use Rattle.trace.specs.Chain.{Chain, swap_at, replay}
use Rattle.trace.specs.Order.{has}
use Rattle.trace.proofs.Bools.{which, is_false}
use Rattle.trace.proofs.Run.{final-append, accepted-append, first-ready, rest-accepted}
use Rattle.trace.proofs.Swap.{swap-length}
use Rattle.model.specs.Site.{Actor, Site, name, initial}
use Rattle.model.specs.Views.{looks, total, largest, runs_over}
use Rattle.model.specs.Local.{Seen, see, cells_after}
use Rattle.model.specs.Step.{NextStep, taken, waiting, over, action_at, next_action, unfinished, passes, next_step, ready, step}
use Rattle.model.specs.Ready.{bit, stuck, ReadyAnswer, ready_answer}
use Rattle.model.specs.Schedule.{machine, end_state, RefusalNumbers, first_numbers, second_numbers, check_step, check_entry, check_from, check_schedule}
use Rattle.model.specs.Calls.{gives, refuses, answer, run_of, ready_checks, ready_of, same_checks, comparison_of}
use Rattle.model.specs.Page as Page
use Rattle.model.specs.Demand3.{Accepted, EndsAlike}
use Rattle.model.specs.Over.{cells_at, OverAfter, Unfinished, WouldPass, ShownOver, StillOver, GoOnAlike, PlainSum, EveryOver}
use Rattle.model.proofs.Upd.{not_equal}
use Rattle.model.proofs.Ports.{number-test}
use Rattle.model.proofs.Invariant.{others-record}
use Rattle.model.proofs.NextSteps.{clash, over_runs, total-add}
use Rattle.model.proofs.Checks.{ready-parts, checks-after, taken-checks}
use Rattle.model.proofs.ReportBoundCells.{own-record, eight-end}
use Rattle.model.proofs.ReportBoundValues.{total-small, small-end}
use Rattle.model.proofs.Demand3.{ready-taken, ready-given, bit-ready, demand-3}
use Rattle.model.proofs.SameAnswers.{answer-refused, comparison-refused}
use Rattle.model.proofs.Stuck.{nobody-stuck}

-- ---- an Add that would pass the largest number

-- the cells after an Add
after-add : (own : ℕ → Action) (x : Action) (found : Seen) (cells : List ℕ) (cell other : ℕ) → x ≡ Add cell other
    → cells_after own x found cells ≡ set cells cell (get_or cells cell 0 + get_or cells other 0)
unfolding cells_after
after-add own x found cells cell other e = rw e

-- ---- refusals and lengths

-- the number of an Add that runs over is none of the others
abbrev Other : RefusalNumbers → Type 0
Other n = (n.absent ≢ n.over) × (n.finished ≢ n.over) × (n.waiting ≢ n.over)

first-other : Other first_numbers
first-other = (λ e. omega arith, λ e. omega arith, λ e. omega arith)

second-other : Other second_numbers
second-other = (λ e. omega arith, λ e. omega arith, λ e. omega arith)

replay-length : (ks p : List ℕ) → length (replay ks p) ≡ length p
replay-length [] p = refl
replay-length (k ∷ ks) p = replay-length ks (swap_at k p) ∙ swap-length k p

chain_length : (M : Machine) (s : M.State) (ks p q : List ℕ) → Chain M s ks p q → length q ≡ length p
chain_length M s [] p q c = ap length (sym c)
chain_length M s (k ∷ ks) p q c = chain_length M s ks (swap_at k p) q c.1 ∙ swap-length k p

module _ (table : List ℕ) where
  -- ---- over stays over

  -- whether a step runs over depends on the actor's own record alone
  over_by : (s t : Site) (a : ℕ) → t.actor a ≡ s.actor a → next_step table s a ≡ over → next_step table t a ≡ over
  over_by s t a e h =
      let x : Action = next_action table s a in rw (e, over_runs (runs_over x (s.actor a).cells) (passes table s a x) h)

  over-along : (s : Site) (more : List ℕ) (a : ℕ) → next_step table s a ≡ over → all-taken (machine table) s more ≡ true
      → (has more a ≡ false) × ((final (machine table) s more).actor a ≡ s.actor a)
  over-along s [] a o h = (refl, refl)
  over-along s (b ∷ more) a o h =
      let rb : ready table s b ≡ true = first-ready (machine table) s b more h in
      let ne : a ≢ b = λ e. clash o (ap (next_step table s) e ∙ (ready-parts table s b rb).2) in
      let kept : (step table s b).actor a ≡ s.actor a = others-record table s a b ne in
      let rest = over-along (step table s b) more a (over_by s (step table s b) a kept o) (rest-accepted (machine table) s b more h) in
      (rw (not_equal number-test a b ne) rest.0, rest.1 ∙ kept)

  -- ---- refused as over

  -- an actor of the table that is not finished, and whose next step is over
  abbrev IsOver : Site → ℕ → Type 0
  IsOver s a = (ltb a (actors_of table) ≡ true) × (unfinished table s a ≡ true) × (next_step table s a ≡ over)

  would-pass : (p : List ℕ) (a : ℕ) → IsOver (end_state table p) a ↔ WouldPass table p a
  would-pass p a = (passing, running)
    where
      x : Action
      x = next_action table (end_state table p) a

      passing : IsOver (end_state table p) a → WouldPass table p a
      passing f =
          let out : runs_over x (cells_at table p a) ≡ true = over_runs (runs_over x (cells_at table p a)) (passes table (end_state table p) a x) f.2 in
          let w = total-add x (cells_at table p a) (ltb-true largest (total x (cells_at table p a)) out) in
          (w.0, w.1, (ltb-true a (actors_of table) f.0, ltb-true ((end_state table p).actor a).position (count_of table a) f.1), w.2, w.3)

      running : WouldPass table p a → IsOver (end_state table p) a
      running w =
          let out : runs_over x (cells_at table p a) ≡ true =
          ap (λ (y : Action). runs_over y (cells_at table p a)) w.3 ∙ lt-ltb largest _ w.4 in
          (lt-ltb a (actors_of table) w.2.0, lt-ltb ((end_state table p).actor a).position (count_of table a) w.2.1, rw out)

  -- by numbers of which that of an Add that runs over is none of the others
  module _ (n : RefusalNumbers) (other : Other n) where
    step-over : (t : NextStep) (k : ℕ) → (check_step n t k ⨾ accepted) ≡ refused n.over k → t ≡ over
    step-over taken k e = refused-not (sym e)
    step-over waiting k e = absurd (other.2 (ap number_of e))
    step-over over k e = refl

    entry-over : (s : Site) (a k : ℕ) → (check_entry n table s a k ⨾ accepted) ≡ refused n.over k → IsOver s a
    entry-over s a k e = go (which (ltb a (actors_of table))) (which (unfinished table s a))
      where
        go : (ltb a (actors_of table) ≡ true) ⊎ (ltb a (actors_of table) ≡ false) → (unfinished table s a ≡ true) ⊎ (unfinished table s a ≡ false)
            → IsOver s a
        go (inl p) (inl q) = (p, q, step-over (next_step table s a) k (rw (p, q) at e))
        go (inl p) (inr q) = absurd (other.1 (ap number_of (rw (p, q) at e)))
        go (inr p) q = absurd (other.0 (ap number_of (rw p at e)))

    -- one more entry after an accepted schedule decides
    over-checked : (p : List ℕ) (a : ℕ) → Accepted table p
        → (check_schedule n table (p ++ (a ∷ [])) ≡ refused n.over (length p)) ↔ IsOver (end_state table p) a
    over-checked p a h =
        let last : check_schedule n table (p ++ (a ∷ [])) ≡ (check_entry n table (end_state table p) a (length p) ⨾ accepted) =
        checks-after table n initial 0 p (a ∷ []) h ∙ ap (λ (k : ℕ). check_from n table (end_state table p) k (a ∷ [])) (zero-add (length p)) in
        (λ e. entry-over (end_state table p) a (length p) (sym last ∙ e), λ f. last ∙ rw (f.0, f.1, f.2))

  module _ (read : read_of table ≡ accepted) where
    over-after : (p : List ℕ) (a : ℕ) → Accepted table p → OverAfter table p a ↔ IsOver (end_state table p) a
    unfolding ready_of
    over-after p a h =
        let checks : ready_checks table (p ++ (a ∷ [])) ≡ check_schedule first_numbers table (p ++ (a ∷ [])) = rw read in
        let so = over-checked first_numbers first-other p a h in (
          λ e. so.0 (sym checks ∙ answer-refused (ready_checks table (p ++ (a ∷ []))) (ready_answer table (end_state table (p ++ (a ∷ [])))) 21 (length p) e),
          λ f. ap (λ (c : Outcome). answer c (ready_answer table (end_state table (p ++ (a ∷ []))))) (checks ∙ so.1 f),
        )

    over-exactly : (p : List ℕ) (a : ℕ) → Accepted table p → OverAfter table p a ↔ WouldPass table p a
    over-exactly p a h =
        let so = over-after p a h in let w = would-pass p a in (λ e. w.0 (so.0 e), λ f. so.1 (w.1 f))

    over-second : (first p : List ℕ) (a : ℕ) → Accepted table first → Accepted table p
        → (comparison_of table first (p ++ (a ∷ [])) ≡ refuses 22 (length p)) ↔ WouldPass table p a
    over-second first p a g h =
        let second : List ℕ = p ++ (a ∷ []) in
        let checks : same_checks table first second ≡ check_schedule second_numbers table second = rw (read, taken-checks table first_numbers initial 0 first g) in
        let call = comparison-refused table first second 22 (length p) in
        let so = over-checked second_numbers second-other p a h in
        let w = would-pass p a in
        (λ e. w.0 (so.0 (sym checks ∙ call.0 e)), λ f. call.1 (checks ∙ so.1 (w.1 f)))

    -- ---- as the calls show it

    not-ready : (s : Site) (a : ℕ) → next_step table s a ≡ over → ready table s a ≡ false
    not-ready s a o = is_false (ready table s a) (λ r. clash o (ready-parts table s a r).2)

    shown-over : (p : List ℕ) (a : ℕ) (now : ReadyAnswer) → IsOver (end_state table p) a → ready_of table p ≡ gives now → ShownOver table p a now
    shown-over p a now f g =
        record { bit-zero = bit-ready table read p a now g ∙ ap bit (not-ready (end_state table p) a f.2); status = rw (f.1, f.2) }

    -- nobody is ready where everybody who is not finished is over
    nobody : (p : List ℕ) → Accepted table p → ((a : ℕ) → Unfinished table p a → OverAfter table p a) → (a : ℕ) → ready table (end_state table p) a ≡ false
    nobody p h each a =
        is_false (ready table (end_state table p) a)
        (λ r.
        let parts = ready-parts table (end_state table p) a r in
        let u : Unfinished table p a = (ltb-true a (actors_of table) parts.0, ltb-true ((end_state table p).actor a).position (count_of table a) parts.1) in
        clash ((over-after p a h).0 (each a u)).2 parts.2)

    only-over : (p : List ℕ) (u : ℕ) → Accepted table p → Unfinished table p u → ((a : ℕ) → Unfinished table p a → OverAfter table p a)
        → ready_of table p ≡ gives (record { mask = 0; count = 0; ending = stuck })
    only-over p u h left each =
        ready-given table read p h
        ∙ ap gives
        (nobody-stuck table (end_state table p) (nobody p h each) u (lt-ltb u (actors_of table) left.0)
        (lt-ltb ((end_state table p).actor u).position (count_of table u) left.1))

    -- ---- over for good

    still-over : (p more : List ℕ) (a : ℕ) (later : ReadyAnswer) → OverAfter table p a → ready_of table (p ++ more) ≡ gives later
        → StillOver table p more a later
    still-over p more a later e g =
        let t : Accepted table (p ++ more) = ready-taken table read (p ++ more) later g in
        let parts = accepted-append (machine table) initial p more t in
        let f = (over-after p a parts.0).0 e in
        let along = over-along (end_state table p) more a f.2 parts.1 in
        let end : (end_state table (p ++ more)).actor a ≡ (end_state table p).actor a =
        ap (λ (s : Site). s.actor a) (final-append (machine table) initial p more) ∙ along.1 in
        let o : next_step table (end_state table (p ++ more)) a ≡ over = over_by (end_state table p) (end_state table (p ++ more)) a end f.2 in
        let u : unfinished table (end_state table (p ++ more)) a ≡ true = rw end f.1 in
        record {
          others = along.0;
          over-still = (over-after (p ++ more) a t).1 (f.0, u, o);
          shown-still = shown-over (p ++ more) a later (f.0, u, o) g;
          same_name = ap (λ (r : Actor). name a r.position) end;
          same-action = ap (λ (r : Actor). action_at table (name a r.position)) end;
        }

    -- ---- exchanged schedules

    go-on-alike : (p q rest : List ℕ) → Accepted table p → EndsAlike table p q → length q ≡ length p → GoOnAlike table p q rest
    unfolding ready_of run_of Page.page_of
    go-on-alike p q rest h alike long =
        let checks : (n : RefusalNumbers) → check_schedule n table (q ++ rest) ≡ check_schedule n table (p ++ rest) =
        λ n.
        checks-after table n initial 0 q rest alike.taken ∙ ap₂ (λ (s : Site) (k : ℕ). check_from n table s k rest) alike.ends (ap (λ (k : ℕ). 0 + k) long)
        ∙ sym (checks-after table n initial 0 p rest h) in
        let end : end_state table (q ++ rest) ≡ end_state table (p ++ rest) =
        final-append (machine table) initial q rest ∙ ap (λ (s : Site). final (machine table) s rest) alike.ends
        ∙ sym (final-append (machine table) initial p rest) in
        record {
          checks = checks;
          readies = rw (checks first_numbers, end);
          runs = λ buffer. rw (checks first_numbers, end);
          pages = λ buffer. rw (checks first_numbers, end);
          statuses = λ a. ap (λ (s : Site). Page.status_of table s a) end;
        }

    go-on-exchanged : (chain p q rest : List ℕ) → Accepted table p → Chain (machine table) initial chain p q
        → ((n : ℕ) → GoOnAlike table p (replay (take n chain) p) rest) × GoOnAlike table p q rest
    go-on-exchanged chain p q rest h c =
        let along = (demand-3 table read).chains chain p q h c in (
          λ n. go-on-alike p (replay (take n chain) p) rest h (along.0 n) (replay-length (take n chain) p),
          go-on-alike p q rest h along.1 (chain_length (machine table) initial chain p q c),
        )

    -- ---- sums

    plain-sum : (p : List ℕ) (a cell other : ℕ) → Accepted table (p ++ (a ∷ [])) → next_action table (end_state table p) a ≡ Add cell other
        → PlainSum (cells_at table p a) (cells_at table (p ++ (a ∷ [])) a) cell other
    plain-sum p a cell other h e =
        let s : Site = end_state table p in
        let cells : List ℕ = cells_at table p a in
        let v : ℕ = get_or cells cell 0 + get_or cells other 0 in
        let r : ready table s a ≡ true =
        first-ready (machine table) s a [] (accepted-append (machine table) initial p (a ∷ []) h).1 in
        let parts = ready-parts table s a r in
        let inside : InRange table a (s.actor a).position (Add cell other) =
        subst (InRange table a (s.actor a).position) e
        ((promised table read).in-range a (s.actor a).position (ltb-true a (actors_of table) parts.0) (ltb-true (s.actor a).position (count_of table a) parts.1)) in
        let after : cells_at table (p ++ (a ∷ [])) a ≡ set cells cell v =
        ap (λ (t : Site). (t.actor a).cells) (final-append (machine table) initial p (a ∷ [])) ∙ ap (λ (q : Actor). q.cells) (own-record table s a)
        ∙ after-add (λ k. action_at table (name a k)) (next_action table s a) (see s a (looks (next_action table s a))) cells cell other e in
        let sum : get_or (cells_at table (p ++ (a ∷ [])) a) cell 0 ≡ v =
        ap (λ (l : List ℕ). get_or l cell 0) after ∙ get_or-set_same cells cell v 0 (omega (arith, inside.0, eight-end table p a)) in
        let small : v < 2 ^ 32 = subst (λ (x : Action). total x cells < 2 ^ 32) e (total-small table s a r) in
        record {
          sum = sum;
          fits = omega (arith, sum, small);
          kept = λ c ne. ap (λ (l : List ℕ). get_or l c 0) after ∙ get_or-set_other cells cell c v 0 ne;
        }

pub every-over : EveryOver
every-over table read =
    record {
      exactly = over-exactly table read;
      exactly-second = over-second table read;
      shown = λ p a now e g. shown-over table read p a now ((over-after table read p a (ready-taken table read p now g)).0 e) g;
      only-over = only-over table read;
      never-ready = still-over table read;
      exchanged = go-on-exchanged table read;
      sums = plain-sum table read;
      cells_fit = λ bytes p h a. (small-end table bytes p h).cells a;
    }
