-- Demand 3, of every table that the reader accepts: the trace theory's theorems at the table's machine and a fresh site, carried over to the calls.
-- Assumes nothing.
use Prim.Native.Nat.{ℕ, zero, suc, ◌<◌}
use native.Mathlib.Omega.{arith}
use mathlib.Core.Path.{◌≡◌, refl, sym, ◌∙◌, ap}
use mathlib.Core.Logic.{◌↔◌}
use mathlib.Core.Bool.{Bool, true, false, not, ◌&&◌, cond, true≢false}
use mathlib.Core.List.{List, [], ◌∷◌, ◌++◌}
use lib.ListN.{length, get_or, take}
use borrow.Author.Tests.{not-true}
use Rattle.table.specs.Outcome.{accepted, demand, ◌⨾◌}
use Rattle.table.specs.Read.{read_of}
use Rattle.trace.specs.Machine.{Name}
use Rattle.trace.specs.Schedule.{names}
use Rattle.trace.specs.Chain.{independent_at, Exchange, Chain, Chained, replay}
use Rattle.trace.specs.Same.{equivalent}
use Rattle.trace.specs.Search.{pairs_compared}
use Rattle.trace.specs.Order.{has}
use Rattle.trace.specs.Theorems.{Theorems, KeepsRun}
use Rattle.trace.proofs.Bools.{both, is_false}
use Rattle.trace.proofs.Run.{names-length}
use Rattle.trace.proofs.Theorems.{theorems}
use Rattle.table.proofs.Checks.{then-right}
use Rattle.model.specs.Site.{Site, name, initial}
use Rattle.model.specs.Step.{action_at, next_name, ready}
use Rattle.model.specs.Ready.{bit_of, bit, ReadyAnswer, ready_mask, ready_answer}
use Rattle.model.specs.Pair.{depends}
use Rattle.model.specs.Report.{report}
use Rattle.model.specs.Schedule.{machine, end_state, first_numbers, second_numbers, check_schedule}
use Rattle.model.specs.Calls.{gives, run_of, ready_checks, ready_of, in_table, pair_of, independent, dependent, same_checks, SameVerdict, same, different, Comparison, comparison_of}
use Rattle.model.specs.Demand3.{Accepted, step_name, Says, EndsAlike, StillReady, EveryTable}
use Rattle.model.proofs.Laws.{laws}
use Rattle.model.proofs.Invariant.{inv-initial}
use Rattle.model.proofs.ReadyMask.{bit-one, mask-right}
use Rattle.model.proofs.Checks.{then-both, demand-met, answer-given, given-accepted, gives-injective, checks-taken, taken-checks, steps-in-table}
use Rattle.model.proofs.SameAnswers.{comparison-checked}

-- the trace theory's theorems at a fresh site
pub site-theorems : (table : List ℕ) → Theorems (machine table) initial
site-theorems table = theorems (laws table) initial (inv-initial table)

-- ---- verdicts as tests

judged-independent : (b : Bool) → cond b dependent independent ≡ independent → b ≡ false
judged-independent true h = let z : ◌≡◌ {A = ℕ} 0 1 = cc in absurd (omega arith)
judged-independent false h = refl

pub judged-dependent : (b : Bool) → cond b dependent independent ≡ dependent → b ≡ true
judged-dependent true h = refl
judged-dependent false h = let z : ◌≡◌ {A = ℕ} 0 1 = cc in absurd (omega arith)

judged-same : (b : Bool) → cond b same different ≡ same → b ≡ true
judged-same true h = refl
judged-same false h = let z : ◌≡◌ {A = ℕ} 0 1 = cc in absurd (omega arith)

judged-different : (b : Bool) → cond b same different ≡ different → b ≡ false
judged-different true h = let z : ◌≡◌ {A = ℕ} 0 1 = cc in absurd (omega arith)
judged-different false h = refl

-- an exchange is within the list
independent-inside : (dep : Name → Name → Bool) (k : ℕ) (u : List Name) → independent_at dep k u ≡ true → suc k < length u
independent-inside dep k [] h = absurd (true≢false (sym h))
independent-inside dep zero (x ∷ []) h = absurd (true≢false (sym h))
independent-inside dep zero (x ∷ y ∷ u) h = omega arith
independent-inside dep (suc k) (x ∷ u) h = omega (arith, independent-inside dep k u h)

-- its test is the verdict on the two names
independent-names : (dep : Name → Name → Bool) (d : Name) (k : ℕ) (u : List Name) → suc k < length u
    → independent_at dep k u ≡ not (dep (get_or u k d) (get_or u (suc k) d))
independent-names dep d k [] h = absurd (omega arith)
independent-names dep d zero (x ∷ []) h = absurd (omega arith)
independent-names dep d zero (x ∷ y ∷ u) h = refl
independent-names dep d (suc k) (x ∷ u) h = independent-names dep d k u (omega arith)

module _ (table : List ℕ) (read : read_of table ≡ accepted) where
  -- ---- ends

  ready-checks : (p : List ℕ) → Accepted table p → ready_checks table p ≡ accepted
  ready-checks p h = then-both read (taken-checks table first_numbers initial 0 p h)

  ends-alike : (p q : List ℕ) → Accepted table p → Accepted table q → end_state table q ≡ end_state table p → EndsAlike table p q
  unfolding run_of ready_of
  ends-alike p q hp hq e =
      let checks : check_schedule first_numbers table q ≡ check_schedule first_numbers table p =
      taken-checks table first_numbers initial 0 q hq ∙ sym (taken-checks table first_numbers initial 0 p hp) in
      record { taken = hq; ends = e; journals = ap (λ (s : Site). s.journal) e; reports = ap (report table) e; runs = λ buffer. rw (checks, e); readies = rw (checks, e) }

  along-chains : (chain p q : List ℕ) → Accepted table p → Chain (machine table) initial chain p q
      → ((n : ℕ) → EndsAlike table p (replay (take n chain) p)) × EndsAlike table p q
  along-chains chain p q h c =
      let k : KeepsRun (machine table) initial chain p q = (site-theorems table).chains chain p q h c in
      (λ n. ends-alike p (replay (take n chain) p) h (k.taken n) (k.ends n), ends-alike p q h k.last_taken k.last-ends)

  -- ---- readiness

  pub ready-taken : (p : List ℕ) (now : ReadyAnswer) → ready_of table p ≡ gives now → Accepted table p
  unfolding ready_of
  ready-taken p now h =
      checks-taken table first_numbers initial 0 p
      (then-right (read_of table) _ (given-accepted (ready_checks table p) (ready_answer table (end_state table p)) now h))

  pub ready-given : (p : List ℕ) → Accepted table p → ready_of table p ≡ gives (ready_answer table (end_state table p))
  unfolding ready_of
  ready-given p h = answer-given (ready_checks table p) (ready_answer table (end_state table p)) (ready-checks p h)

  mask-given : (p : List ℕ) (now : ReadyAnswer) → ready_of table p ≡ gives now → ready_mask table (end_state table p) ≡ now.mask
  unfolding ready_of ready_answer
  mask-given p now h =
      let given : ready_of table p ≡ gives (ready_answer table (end_state table p)) =
      answer-given (ready_checks table p) _ (ready-checks p (ready-taken p now h)) in
      ap (λ (r : ReadyAnswer). r.mask) (gives-injective (sym given ∙ h))

  pub bit-ready : (p : List ℕ) (a : ℕ) (now : ReadyAnswer) → ready_of table p ≡ gives now → bit_of now.mask a ≡ bit (ready table (end_state table p) a)
  bit-ready p a now h = ap (λ (m : ℕ). bit_of m a) (sym (mask-given p now h)) ∙ (mask-right table (end_state table p)).bits a

  stays-ready : (p more : List ℕ) (a : ℕ) (now later : ReadyAnswer) → ready_of table p ≡ gives now → bit_of now.mask a ≡ 1 → has more a ≡ false
      → ready_of table (p ++ more) ≡ gives later → StillReady table p more a later
  stays-ready p more a now later hp b others hm =
      let r : ready table (end_state table p) a ≡ true = bit-one (ready table (end_state table p) a) (sym (bit-ready p a now hp) ∙ b) in
      let k = (site-theorems table).readiness p more a r others (ready-taken (p ++ more) later hm) in
      let one_name : next_name table (end_state table (p ++ more)) a ≡ next_name table (end_state table p) a = ap (name a) k.same-action in
      record {
        ready-bit = bit-ready (p ++ more) a later hm ∙ ap bit k.still-ready;
        same_name = one_name;
        same-action = ap (action_at table) one_name;
      }

  -- ---- same

  checks-both : (p q : List ℕ) → Accepted table p → Accepted table q → same_checks table p q ≡ accepted
  checks-both p q hp hq =
      then-both read (then-both (taken-checks table first_numbers initial 0 p hp) (taken-checks table second_numbers initial 0 q hq))

  pub comparison-given : (p q : List ℕ) → Accepted table p → Accepted table q
      → comparison_of table p q
      ≡ gives
      (record {
        verdict = cond (equivalent (machine table) initial p q) same different;
        pairs = pairs_compared (machine table) initial p q;
      })
  comparison-given p q hp hq = comparison-checked table p q (checks-both p q hp hq)

  -- the call says what the test comes to
  pub says-test : (p q : List ℕ) → Accepted table p → Accepted table q → (v : SameVerdict)
      → Says (comparison_of table p q) v ↔ (cond (equivalent (machine table) initial p q) same different ≡ v)
  says-test p q hp hq v = (
    λ s. ap (λ (c : Comparison). c.verdict) (gives-injective (sym (comparison-given p q hp hq) ∙ s.1)),
    λ e. (
      pairs_compared (machine table) initial p q,
      comparison-given p q hp hq ∙ ap (λ (w : SameVerdict). gives (record { verdict = w; pairs = pairs_compared (machine table) initial p q })) e,
    ),
  )

  same-iff : (p q : List ℕ) → Accepted table p → Accepted table q → Says (comparison_of table p q) same ↔ Chained (machine table) initial p q
  same-iff p q hp hq =
      let test : Bool = equivalent (machine table) initial p q in
      let chained = (site-theorems table).same-chained p q hp hq in (
        λ s. chained.0 (judged-same test ((says-test p q hp hq same).0 s)),
        λ c. (says-test p q hp hq same).1 (ap (λ (b : Bool). cond b same different) (chained.1 c)),
      )

  different-iff : (p q : List ℕ) → Accepted table p → Accepted table q
      → Says (comparison_of table p q) different ↔ (¬ Chained (machine table) initial p q)
  different-iff p q hp hq =
      let test : Bool = equivalent (machine table) initial p q in
      let chained = (site-theorems table).same-chained p q hp hq in (
        λ s c. true≢false (sym (chained.1 c) ∙ judged-different test ((says-test p q hp hq different).0 s)),
        λ n. (says-test p q hp hq different).1 (ap (λ (b : Bool). cond b same different) (is_false test (λ t. n (chained.0 t)))),
      )

  -- ---- pair

  pub pair-given : (x y : Name) → in_table table x ≡ true → in_table table y ≡ true → pair_of table x y ≡ gives (cond (depends table x y) dependent independent)
  unfolding pair_of
  pair-given x y hx hy = answer-given (read_of table ⨾ demand (in_table table x && in_table table y) 17 0) _ (then-both read (demand-met 17 0 (both hx hy)))

  exchange-iff : (p : List ℕ) (k : ℕ)
      → Exchange (machine table) initial k p
      ↔ (Accepted table p × (suc k < length p) × (pair_of table (step_name table p k) (step_name table p (suc k)) ≡ gives independent))
  exchange-iff p k = (judged, exchanged)
    where
      x : Name
      x = step_name table p k

      y : Name
      y = step_name table p (suc k)

      long : length (names (machine table) initial p) ≡ length p
      long = names-length (machine table) initial p

      call : Accepted table p → suc k < length p → pair_of table x y ≡ gives (cond (depends table x y) dependent independent)
      call h l = pair-given x y (steps-in-table table initial p h k (omega arith)) (steps-in-table table initial p h (suc k) l)

      test : suc k < length p → independent_at (depends table) k (names (machine table) initial p) ≡ not (depends table x y)
      test l = independent-names (depends table) (name 0 0) k (names (machine table) initial p) (omega (arith, l, long))

      judged : Exchange (machine table) initial k p → Accepted table p × (suc k < length p) × (pair_of table x y ≡ gives independent)
      judged e =
          let l : suc k < length p =
          omega (arith, long, independent-inside (depends table) k (names (machine table) initial p) e.independent) in (
            e.taken,
            l,
            call e.taken l
                ∙ ap (λ (b : Bool). gives (cond b dependent independent)) (not-true (depends table x y) (sym (test l) ∙ e.independent)),
          )

      exchanged : Accepted table p × (suc k < length p) × (pair_of table x y ≡ gives independent) → Exchange (machine table) initial k p
      exchanged f =
          record {
            taken = f.0;
            independent = test f.1 ∙ ap not (judged-independent (depends table x y) (gives-injective (sym (call f.0 f.1) ∙ f.2)));
          }

-- demand 3
pub demand-3 : EveryTable
demand-3 table read =
    record {
      accepts = λ p. (λ h. (ready_answer table (end_state table p), ready-given table read p h), λ r. ready-taken table read p r.0 r.1);
      exchanges = exchange-iff table read;
      chains = along-chains table read;
      readiness = stays-ready table read;
      called_same = same-iff table read;
      called-different = different-iff table read;
    }
