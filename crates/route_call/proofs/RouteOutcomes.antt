-- The right answers of the route call by what comparing the schedules found: refused as there; 19 where they differ; 18 where the buffer is too
-- small; and otherwise the route, written in front.
-- Assumes nothing.
use mathlib.Core.Path.{◌≡◌, refl, ◌∙◌, ap, sym, subst}
use mathlib.Core.Bool.{Bool, true, false, cond}
use mathlib.Core.List.{List, ◌++◌}
use Prim.Native.Nat.{ℕ, ◌*◌, ◌-◌, ◌/◌, ◌<◌, ◌≤◌}
use native.Mathlib.Omega.{arith}
use native.Mathlib.Nat.{mul-le-mul}
use borrow.Author.Tests.{lt-leb, le-leb}
use lib.Dec.{leb}
use lib.ListN.{length, drop}
use Rattle.table.specs.Outcome.{Outcome, accepted, refused, demand}
use Rattle.table.specs.Read.{read_of}
use Rattle.table.proofs.Checks.{then-left, then-right, then-refused, then-accepted}
use Rattle.trace.specs.Same.{equivalent}
use Rattle.trace.specs.Schedule.{accepted as taken}
use Rattle.trace.specs.Route.{route}
use Rattle.trace.proofs.Verdict.{same_parts}
use Rattle.model.specs.Site.{initial}
use Rattle.model.specs.Schedule.{machine, first_numbers, second_numbers, check_schedule}
use Rattle.model.specs.Calls.{Result, gives, refuses, answer, SameVerdict, same as alike, different, same_checks, same_of}
use Rattle.model.specs.Route.{most_exchanges, route_checks, RouteWritten, RightAnswer, RightRoute}
use Rattle.model.specs.ComparisonLaws.{verdict_in}
use Rattle.model.proofs.ComparisonLaws.{verdicts}
use Rattle.model.proofs.Checks.{checks-taken, given-accepted, gives-injective, answer-given}
use Rattle.model.proofs.Demand3.{site-theorems}
use Rattle.model.proofs.Routes.{route-written}
use Rattle.std.proofs.Common.{Result as Either, Ok}
use Rattle.answers.specs.declared.Comparison.{Comparison}
use Rattle.answers.specs.declared.Comparison.TheVariants.{Same, Different}
use Rattle.answers.specs.declared.Refusal.{Refusal}
use Rattle.answers.specs.Answers.{same_result}
use Rattle.comparison.specs.Traces.{ComparedRight}

-- a refused answer is the checks' refusal
refused-checks : {A : Type 0} (o : Outcome) (a : A) (n p : ℕ) → answer o a ≡ refuses n p → o ≡ refused n p
refused-checks accepted a n p h = let z : ◌≡◌ {A = ℕ} 0 1 = cc in absurd (omega arith)
refused-checks (refused number position) a n p h = cc

said_same : (b : Bool) → cond b alike different ≡ alike → b ≡ true
said_same true h = refl
said_same false h = let z : ◌≡◌ {A = ℕ} 0 1 = cc in absurd (omega arith)

said-different : (b : Bool) → cond b alike different ≡ different → b ≡ false
said-different true h = let z : ◌≡◌ {A = ℕ} 0 1 = cc in absurd (omega arith)
said-different false h = refl

-- the most exchanges of schedules with at most 256 entries
pub products-few : (m : ℕ) → m ≤ 256 → m * (m - 1) ≤ 65280
products-few m h = mul-le-mul {n₂ = 256} {m₂ = 255} h (omega arith)

module _ (table first second before after : List ℕ) where
  -- a right answer, where the checks' outcome is known
  right : (o : Outcome) (result : Result ℕ) → route_checks table first second before ≡ o → RightAnswer o table first second before after result
      → RightRoute table first second before after result
  right o result e h = subst (λ (x : Outcome). RightAnswer x table first second before after result) (sym e) h

-- the verdict in the answer is that of the call same
pub verdict-of : {table first second first_bytes second_bytes : List ℕ} {r s : Either Comparison Refusal} → r ≡ s
    → ComparedRight table first second first_bytes second_bytes r → verdict_in (same_result s) ≡ same_of table first second
verdict-of {table} {first} {second} e c =
    ap (λ (a : Either Comparison Refusal). verdict_in (same_result a)) (sym e) ∙ ap verdict_in c.right ∙ verdicts table first second

-- a verdict that is not "same" is "different"
pub told-different : {table first second first_bytes second_bytes : List ℕ} (v : Comparison) → ((pairs : ℕ) → v ≡ Same pairs → ⊥)
    → ComparedRight table first second first_bytes second_bytes (Ok v) → gives different ≡ same_of table first second
told-different (Same pairs) not c = absurd (not pairs refl)
told-different (Different pairs) not c = verdict-of refl c

module _ (table first second : List ℕ) where
  same-accepted : (v : SameVerdict) → gives v ≡ same_of table first second → same_checks table first second ≡ accepted
  unfolding same_of
  same-accepted v h =
      given-accepted (same_checks table first second) (cond (equivalent (machine table) initial first second) alike different) v (sym h)

  verdict-is : (v : SameVerdict) → gives v ≡ same_of table first second → cond (equivalent (machine table) initial first second) alike different ≡ v
  unfolding same_of
  verdict-is v h =
      gives-injective
      (sym (answer-given (same_checks table first second) (cond (equivalent (machine table) initial first second) alike different) (same-accepted v h))
      ∙ sym h)

  pub are-same : gives alike ≡ same_of table first second → equivalent (machine table) initial first second ≡ true
  are-same h = said_same _ (verdict-is alike h)

  differ : gives different ≡ same_of table first second → equivalent (machine table) initial first second ≡ false
  differ h = said-different _ (verdict-is different h)

  pub one-length : gives alike ≡ same_of table first second → length first ≡ length second
  one-length h = (same_parts (machine table) initial first second (are-same h)).lengths

  -- both schedules are accepted
  pub first_taken : (v : SameVerdict) → gives v ≡ same_of table first second → taken (machine table) initial first ≡ true
  first_taken v h =
      checks-taken table first_numbers initial 0 first
      (then-left (check_schedule first_numbers table first) _ (then-right (read_of table) _ (same-accepted v h)))

  pub second-taken : (v : SameVerdict) → gives v ≡ same_of table first second → taken (machine table) initial second ≡ true
  second-taken v h =
      checks-taken table second_numbers initial 0 second
      (then-right (check_schedule first_numbers table first) _ (then-right (read_of table) _ (same-accepted v h)))

  module _ (before : List ℕ) where
    pub route-refused : {n p : ℕ} → refuses n p ≡ same_of table first second → RightRoute table first second before before (refuses n p)
    unfolding same_of
    route-refused {n} {p} h =
        right table first second before before (refused n p) (refuses n p)
        (then-refused (same_checks table first second) _ n p
        (refused-checks (same_checks table first second) (cond (equivalent (machine table) initial first second) alike different) n p (sym h)))
        (refl, refl)

    pub route-different : gives different ≡ same_of table first second → RightRoute table first second before before (refuses 19 0)
    route-different h =
        right table first second before before (refused 19 0) (refuses 19 0)
        (then-accepted (same_checks table first second) _ (same-accepted different h)
        ∙ then-refused (demand (equivalent (machine table) initial first second) 19 0) _ 19 0
        (ap (λ (b : Bool). demand b 19 0) (differ h)))
        (refl, refl)

    room-checks : gives alike ≡ same_of table first second
        → route_checks table first second before ≡ demand (leb (most_exchanges (length first)) (length before)) 18 0
    room-checks h =
        then-accepted (same_checks table first second) _ (same-accepted alike h)
        ∙ then-accepted (demand (equivalent (machine table) initial first second) 19 0) _ (ap (λ (b : Bool). demand b 19 0) (are-same h))

    pub route-small : gives alike ≡ same_of table first second → length before < most_exchanges (length first)
        → RightRoute table first second before before (refuses 18 0)
    route-small h small =
        right table first second before before (refused 18 0) (refuses 18 0)
        (room-checks h ∙ ap (λ (b : Bool). demand b 18 0) (lt-leb (most_exchanges (length first)) (length before) small))
        (refl, refl)

  -- a route's length fits 32 bits
  pub route-short : gives alike ≡ same_of table first second → length first ≤ 256 → length (route (machine table) initial first second) ≤ 65280
  route-short h m =
      let most : length (route (machine table) initial first second) ≤ length first * (length first - 1) / 2 =
      ((site-theorems table).shortest-route first second (first_taken alike h) (second-taken alike h) (are-same h)).length-bound in
      let few : length first * (length first - 1) ≤ 65280 = products-few (length first) m in
      omega arith

  pub route-given : (before after : List ℕ) (n : ℕ) → gives alike ≡ same_of table first second → most_exchanges (length first) ≤ length before
      → n ≡ length (route (machine table) initial first second)
      → after ≡ route (machine table) initial first second ++ drop (length (route (machine table) initial first second)) before
      → RightRoute table first second before after (gives n)
  route-given before after n h room count lent =
      right table first second before after accepted (gives n) checks
      (length r, ap gives count, subst (λ (a : List ℕ). RouteWritten table first second before a (length r)) (sym lent) (route-written table first second before checks))
    where
      r : List ℕ
      r = route (machine table) initial first second

      checks : route_checks table first second before ≡ accepted
      checks = room-checks before h ∙ ap (λ (b : Bool). demand b 18 0) (le-leb (most_exchanges (length first)) (length before) room)
