-- Checks in order: they accept when each does; a schedule's checks accept exactly the schedules that the trace theory calls accepted; after an
-- accepted beginning the rest decides; and the steps of an accepted schedule are in the table.
-- Assumes nothing of the table.
use Prim.Native.Nat.{ℕ, zero, suc, ◌+◌, ◌<◌}
use native.Mathlib.Nat.{add-zero, add-suc, suc-add}
use native.Mathlib.Omega.{arith}
use mathlib.Core.Path.{◌≡◌, refl, sym, ◌∙◌, ap}
use mathlib.Core.Bool.{Bool, true}
use mathlib.Core.List.{List, [], ◌∷◌, ◌++◌}
use lib.Dec.{ltb}
use lib.ListN.{length, get_or}
use Rattle.table.specs.Outcome.{Outcome, accepted, refused, demand, ◌⨾◌}
use Rattle.table.specs.Format.{actors_of}
use Rattle.table.proofs.Checks.{refused-not, then-left, then-right, demand-true}
use Rattle.trace.specs.Schedule.{accepted as all-taken, final, names}
use Rattle.trace.proofs.Bools.{both, and_left, and_right}
use Rattle.trace.proofs.Run.{first-ready, rest-accepted}
use Rattle.model.specs.Site.{Site, name}
use Rattle.model.specs.Step.{NextStep, taken, waiting, over, is_taken, unfinished, next_step, ready, step}
use Rattle.model.specs.Schedule.{machine, RefusalNumbers, check_step, check_entry, check_from}
use Rattle.model.specs.Calls.{gives, answer, in_table}
use Rattle.model.proofs.NextSteps.{is-taken}

-- ---- outcomes

pub then-both : {x y : Outcome} → x ≡ accepted → y ≡ accepted → (x ⨾ y) ≡ accepted
then-both {x} {y} h k = rw h k

pub demand-met : {b : Bool} (n p : ℕ) → b ≡ true → demand b n p ≡ accepted
demand-met n p h = rw h

-- ---- results

pub answer-given : {A : Type 0} (o : Outcome) (a : A) → o ≡ accepted → answer o a ≡ gives a
answer-given o a h = rw h

pub given-accepted : {A : Type 0} (o : Outcome) (a b : A) → answer o a ≡ gives b → o ≡ accepted
given-accepted accepted a b h = refl
given-accepted (refused n p) a b h = let z : ◌≡◌ {A = ℕ} 0 1 = cc in absurd (omega arith)

pub gives-injective : {A : Type 0} {a b : A} → gives a ≡ gives b → a ≡ b
gives-injective h = cc

-- ---- schedules

module _ (table : List ℕ) where
  -- a ready actor is in the table and unfinished, and its next step is taken
  pub ready-parts : (s : Site) (a : ℕ) → ready table s a ≡ true
      → (ltb a (actors_of table) ≡ true) × (unfinished table s a ≡ true) × (next_step table s a ≡ taken)
  unfolding ready
  ready-parts s a h =
      let rest = and_right (ltb a (actors_of table)) _ h in
      (and_left _ _ h, and_left (unfinished table s a) _ rest, is-taken (next_step table s a) (and_right (unfinished table s a) _ rest))

  pub parts-ready : (s : Site) (a : ℕ) → ltb a (actors_of table) ≡ true → unfinished table s a ≡ true → is_taken (next_step table s a) ≡ true
      → ready table s a ≡ true
  unfolding ready
  parts-ready s a h more t = both h (both more t)

  module _ (n : RefusalNumbers) where
    step-fine : (t : NextStep) (k : ℕ) → check_step n t k ≡ accepted → is_taken t ≡ true
    step-fine taken k h = refl
    step-fine waiting k h = refused-not h
    step-fine over k h = refused-not h

    entry_ready : (s : Site) (a k : ℕ) → check_entry n table s a k ≡ accepted → ready table s a ≡ true
    entry_ready s a k h =
        let present : Outcome = demand (ltb a (actors_of table)) n.absent k in
        let more : Outcome = demand (unfinished table s a) n.finished k in
        let rest = then-right present _ h in
        parts-ready s a (demand-true (ltb a (actors_of table)) n.absent k (then-left present _ h))
        (demand-true (unfinished table s a) n.finished k (then-left more _ rest)) (step-fine (next_step table s a) k (then-right more _ rest))

    ready-entry : (s : Site) (a k : ℕ) → ready table s a ≡ true → check_entry n table s a k ≡ accepted
    ready-entry s a k h = let parts = ready-parts s a h in rw (parts.0, parts.1, parts.2)

    pub checks-taken : (s : Site) (k : ℕ) (p : List ℕ) → check_from n table s k p ≡ accepted → all-taken (machine table) s p ≡ true
    checks-taken s k [] h = refl
    checks-taken s k (a ∷ p) h =
        both (entry_ready s a k (then-left (check_entry n table s a k) _ h))
        (checks-taken (step table s a) (suc k) p (then-right (check_entry n table s a k) _ h))

    -- what is accepted so far plays no part in the checks that follow
    pub checks-after : (s : Site) (k : ℕ) (p q : List ℕ) → all-taken (machine table) s p ≡ true
        → check_from n table s k (p ++ q) ≡ check_from n table (final (machine table) s p) (k + length p) q
    checks-after s k [] q h = rw add-zero
    checks-after s k (a ∷ p) q h =
        rw (ready-entry s a k (first-ready (machine table) s a p h))
        (checks-after (step table s a) (suc k) p q (rest-accepted (machine table) s a p h)
        ∙ ap (λ (j : ℕ). check_from n table (final (machine table) (step table s a) p) j q) (suc-add k (length p) ∙ sym (add-suc k (length p))))

    pub taken-checks : (s : Site) (k : ℕ) (p : List ℕ) → all-taken (machine table) s p ≡ true → check_from n table s k p ≡ accepted
    taken-checks s k [] h = refl
    taken-checks s k (a ∷ p) h =
        then-both (ready-entry s a k (first-ready (machine table) s a p h))
        (taken-checks (step table s a) (suc k) p (rest-accepted (machine table) s a p h))

  -- each step of an accepted schedule has a name in the table
  pub steps-in-table : (s : Site) (p : List ℕ) → all-taken (machine table) s p ≡ true → (k : ℕ) → k < length p
      → in_table table (get_or (names (machine table) s p) k (name 0 0)) ≡ true
  steps-in-table s [] h k l = absurd (omega arith)
  steps-in-table s (a ∷ p) h zero l = let r = ready-parts s a (first-ready (machine table) s a p h) in both r.0 r.1
  steps-in-table s (a ∷ p) h (suc k) l = steps-in-table (step table s a) p (rest-accepted (machine table) s a p h) k (omega arith)
