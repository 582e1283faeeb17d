-- What a made schedule is, by whatever rule: accepted, at most as long as the table has actions, with nobody ready at its end, and the same whatever
-- bounds it. Assumed of the rule alone: it chooses an actor that is ready where one is.
-- Assumes nothing else.
use Prim.Native.Nat.{ℕ, zero, suc, ◌+◌, ◌≤◌, ◌<◌}
use native.Mathlib.Omega.{arith}
use mathlib.Core.Path.{◌≡◌, refl, sym, ◌∙◌, ap}
use mathlib.Core.Logic.{◌⊎◌, inl, inr}
use mathlib.Core.Bool.{Bool, true, false, not}
use mathlib.Core.List.{List, [], ◌∷◌}
use lib.Dec.{eqb}
use borrow.Author.Tests.{ltb-true, eqb-true, eqb-false, eq-eqb, ne_eqb}
use Rattle.table.specs.Format.{actors_of}
use Rattle.table.specs.Promise.{WellFormed}
use Rattle.trace.specs.Schedule.{accepted, final}
use Rattle.trace.proofs.Bools.{which, is_false, both}
use Rattle.model.specs.Site.{Site, initial}
use Rattle.model.specs.Step.{unfinished, ready, step}
use Rattle.model.specs.Ready.{how_many, all, ready_count, finished, stuck, ending}
use Rattle.model.specs.Schedule.{machine}
use Rattle.model.specs.Bound.{action_count}
use Rattle.model.specs.Reached.{Reached}
use Rattle.model.specs.Scheduler.{Rule, schedule_room, turn_of, entries_from, made_from}
use Rattle.model.specs.Scheduled.{Scheduled}
use Rattle.model.proofs.Checks.{ready-parts}
use Rattle.model.proofs.Reached.{reached-initial, reached-step}
use Rattle.model.proofs.ReportBoundSteps.{taken, step-taken, schedule-most, entries-most}
use Rattle.model.proofs.ReportBound.{actions-most}

-- ---- counts

pub one-counts : (f : ℕ → Bool) (n k j : ℕ) → k ≤ j → j < k + n → f j ≡ true → 0 < how_many f n k
one-counts f zero k j a b h = absurd (omega arith)
one-counts f (suc n) k j a b h = go (which (eqb j k)) (λ e. one-counts f n (suc k) j e (omega arith) h)
  where
    go : (eqb j k ≡ true) ⊎ (eqb j k ≡ false) → (suc k ≤ j → 0 < how_many f n (suc k)) → 0 < how_many f (suc n) k
    go (inl e) rest = let t : f k ≡ true = ap f (sym (eqb-true j k e)) ∙ h in rw t (omega arith)
    go (inr e) rest = let ne : j ≡ k → ⊥ = eqb-false j k e in omega (arith, rest (omega arith))

pub none-counts : (f : ℕ → Bool) (n k : ℕ) → ((j : ℕ) → f j ≡ false) → how_many f n k ≡ 0
none-counts f zero k h = refl
none-counts f (suc n) k h = rw (h k) (omega (arith, none-counts f n (suc k) h))

module _ (table : List ℕ) (s : Site) where
  pub some-ready : (a : ℕ) → ready table s a ≡ true → 0 < ready_count table s
  some-ready a h =
      one-counts (ready table s) (actors_of table) 0 a (omega arith) (omega (arith, ltb-true a (actors_of table) (ready-parts table s a h).0)) h

  pub nobody-ready : ready_count table s ≡ 0 → (a : ℕ) → ready table s a ≡ false
  nobody-ready z a = is_false (ready table s a) (λ h. omega (arith, some-ready a h))

  pub nobody-counts : ((a : ℕ) → ready table s a ≡ false) → ready_count table s ≡ 0
  nobody-counts h = none-counts (ready table s) (actors_of table) 0 h

  -- where nobody is ready the site is finished or stuck
  pub ended-there : ready_count table s ≡ 0 → (ending table s ≡ finished) ⊎ (ending table s ≡ stuck)
  ended-there z = go (which (all (λ a. not (unfinished table s a)) (actors_of table) 0))
    where
      go : (all (λ a. not (unfinished table s a)) (actors_of table) 0 ≡ true) ⊎ (all (λ a. not (unfinished table s a)) (actors_of table) 0 ≡ false)
          → (ending table s ≡ finished) ⊎ (ending table s ≡ stuck)
      go (inl h) = inl (rw h)
      go (inr h) = inr (rw (h, eq-eqb (ready_count table s) 0 z))

  -- nobody is ready where as many steps were taken as the table has actions
  pub ready-left : Reached table s → (a : ℕ) → ready table s a ≡ true → suc (taken table s) ≤ action_count table
  ready-left r a h = omega (arith, schedule-most table s (a ∷ []) r (both h refl))

-- ---- the rule

-- it chooses an actor that is ready, where one is
abbrev pub Chooses : Rule → Type 0
Chooses rule = (kept : ℕ) (is_ready : ℕ → Bool) (actors : ℕ) → 0 < how_many is_ready actors 0 → is_ready (rule.chooses kept is_ready actors) ≡ true

module _ (rule : Rule) (chooses : Chooses rule) (table : List ℕ) where
  abbrev entries : ℕ → Site → ℕ → List ℕ
  entries = entries_from rule table

  pub turn-ready : (s : Site) (kept : ℕ) → 0 < ready_count table s → ready table s (turn_of rule table s kept) ≡ true
  turn-ready s kept h = chooses kept (ready table s) (actors_of table) h

  -- a turn, where somebody is ready; and the end, where nobody is
  pub entries-turn : (bound : ℕ) (s : Site) (kept : ℕ) → 0 < ready_count table s
      → entries (suc bound) s kept ≡ (turn_of rule table s kept ∷ entries bound (step table s (turn_of rule table s kept)) (rule.keeps kept (turn_of rule table s kept)))
  entries-turn bound s kept h = rw (ne_eqb (ready_count table s) 0 (omega arith))

  pub entries-end : (bound : ℕ) (s : Site) (kept : ℕ) → ready_count table s ≡ 0 → entries bound s kept ≡ []
  entries-end zero s kept z = refl
  entries-end (suc bound) s kept z = rw (eq-eqb (ready_count table s) 0 z)

  pub entries-taken : (bound : ℕ) (s : Site) (kept : ℕ) → accepted (machine table) s (entries bound s kept) ≡ true
  entries-taken zero s kept = refl
  entries-taken (suc bound) s kept = go (which (eqb (ready_count table s) 0)) (entries-taken bound)
    where
      go : (eqb (ready_count table s) 0 ≡ true) ⊎ (eqb (ready_count table s) 0 ≡ false)
          → ((t : Site) (k : ℕ) → accepted (machine table) t (entries bound t k) ≡ true)
          → accepted (machine table) s (entries (suc bound) s kept) ≡ true
      go (inl e) rest = rw e
      go (inr e) rest =
          let ne : ready_count table s ≡ 0 → ⊥ = eqb-false (ready_count table s) 0 e in
          rw e (both (turn-ready s kept (omega arith)) (rest _ _))

  -- the bound leaves room for every action that is left
  abbrev pub Room : (bound : ℕ) → Site → Type 0
  Room bound s = action_count table ≤ bound + taken table s

  pub nobody-left : (s : Site) → Reached table s → Room 0 s → (a : ℕ) → ready table s a ≡ false
  nobody-left s r room a = is_false (ready table s a) (λ h. omega (arith, ready-left table s r a h))

  pub room_next : (bound : ℕ) (s : Site) (a : ℕ) → Room (suc bound) s → ready table s a ≡ true → Room bound (step table s a)
  room_next bound s a room h = omega (arith, step-taken table s a h)

  nobody-after : (bound : ℕ) (s : Site) (kept : ℕ) → Reached table s → Room bound s
      → (a : ℕ) → ready table (final (machine table) s (entries bound s kept)) a ≡ false
  nobody-after zero s kept r room = nobody-left s r room
  nobody-after (suc bound) s kept r room = go (which (eqb (ready_count table s) 0)) (nobody-after bound)
    where
      go : (eqb (ready_count table s) 0 ≡ true) ⊎ (eqb (ready_count table s) 0 ≡ false)
          → ((t : Site) (k : ℕ) → Reached table t → Room bound t → (a : ℕ) → ready table (final (machine table) t (entries bound t k)) a ≡ false)
          → (a : ℕ) → ready table (final (machine table) s (entries (suc bound) s kept)) a ≡ false
      go (inl e) rest = rw e (nobody-ready table s (eqb-true (ready_count table s) 0 e))
      go (inr e) rest =
          let ne : ready_count table s ≡ 0 → ⊥ = eqb-false (ready_count table s) 0 e in
          let h : ready table s (turn_of rule table s kept) ≡ true = turn-ready s kept (omega arith) in
          rw e (rest _ _ (reached-step table s r _ h) (room_next bound s _ room h))

  pub bounds-alike : (bound other : ℕ) (s : Site) (kept : ℕ) → Reached table s → Room bound s → Room other s
      → entries bound s kept ≡ entries other s kept
  bounds-alike zero other s kept r room room' = sym (entries-end other s kept (nobody-counts table s (nobody-left s r room)))
  bounds-alike (suc bound) zero s kept r room room' = entries-end (suc bound) s kept (nobody-counts table s (nobody-left s r room'))
  bounds-alike (suc bound) (suc other) s kept r room room' = go (which (eqb (ready_count table s) 0)) (bounds-alike bound other)
    where
      go : (eqb (ready_count table s) 0 ≡ true) ⊎ (eqb (ready_count table s) 0 ≡ false)
          → ((t : Site) (k : ℕ) → Reached table t → Room bound t → Room other t → entries bound t k ≡ entries other t k)
          → entries (suc bound) s kept ≡ entries (suc other) s kept
      go (inl e) rest = rw e
      go (inr e) rest =
          let ne : ready_count table s ≡ 0 → ⊥ = eqb-false (ready_count table s) 0 e in
          let h : ready table s (turn_of rule table s kept) ≡ true = turn-ready s kept (omega arith) in
          rw e
          (ap (λ (l : List ℕ). turn_of rule table s kept ∷ l)
          (rest _ _ (reached-step table s r _ h) (room_next bound s _ room h) (room_next other s _ room' h)))

  -- from a fresh site
  pub made-room : WellFormed table → Room schedule_room initial
  made-room ok = omega (arith, actions-most table ok)

  pub scheduled : WellFormed table → (start : ℕ) → Scheduled rule table start
  unfolding made_from
  scheduled ok start =
      let took = entries-taken schedule_room initial start in
      record {
        taken = took;
        ended = ended-there table _ (nobody-counts table _ (nobody-after schedule_room initial start (reached-initial table) (made-room ok)));
        most = entries-most table (entries schedule_room initial start) took;
        room = actions-most table ok;
        any-bound = λ bound enough. bounds-alike bound schedule_room initial start (reached-initial table) (omega arith) (made-room ok);
      }
