-- Two accepted schedules by the names of their steps, kept in bytes: what the verdicts ask of the names, and what they say of the schedules.
-- Assumes nothing.
use Prim.Native.Nat.{ℕ, ◌≤◌, ◌<◌}
use native.Mathlib.Omega.{arith}
use mathlib.Core.Path.{◌≡◌, ◌∙◌, ap, sym, subst}
use mathlib.Core.Logic.{◌⊎◌, inl, inr}
use mathlib.Core.Bool.{Bool, true, false, not, ◌&&◌, cond}
use mathlib.Core.List.{List}
use borrow.Author.Tests.{eq-eqb, ne_eqb}
use lib.ListN.{length, get_or, take, get_or-map}
use lib.Seq.{get_or-take}
use Rattle.table.specs.Promise.{WellFormed}
use Rattle.trace.specs.Machine.{Name}
use Rattle.trace.specs.Schedule.{accepted, names}
use Rattle.trace.specs.Order.{within, Distinct}
use Rattle.trace.specs.Same.{same_steps, equivalent, reorders}
use Rattle.trace.specs.Search.{compared_in, search, opposed, pairs_compared}
use Rattle.trace.specs.Route.{route, route_from}
use Rattle.trace.proofs.Bools.{which}
use Rattle.trace.proofs.Run.{names-distinct, names-length}
use Rattle.trace.proofs.SameChained.{one_way}
use Rattle.trace.proofs.Verdict.{SameParts, same_parts}
use Rattle.model.specs.Site.{name, initial}
use Rattle.model.specs.Pair.{depends}
use Rattle.model.specs.Schedule.{machine}
use Rattle.model.specs.Calls.{in_table, same, different}
use Rattle.model.specs.Route.{most_exchanges}
use Rattle.model.proofs.Laws.{laws}
use Rattle.model.proofs.Invariant.{inv-initial}
use Rattle.model.proofs.Checks.{steps-in-table}
use Rattle.model.proofs.Demand3.{site-theorems}
use Rattle.names.specs.InByte.{name_of}
use Rattle.names.specs.Names.{names_in}
use Rattle.names.specs.Steps.{Stands}
use Rattle.names.proofs.Steps.{in-table}
use Rattle.answers.specs.declared.Comparison.{Comparison}
use Rattle.answers.specs.declared.Comparison.TheVariants.{Different}
use Rattle.answers.specs.Answers.{comparison_as}
use Rattle.equivalence.specs.Compared.{Compared}
use Rattle.equivalence.specs.Judged.{Judges}
use Rattle.routing.specs.Routable.{Routable}
use Rattle.comparison.specs.Traces.{Kept, Verdict}
use Rattle.trace.proofs.OwnOrder.{one-order}

module _ (table schedule bytes : List ℕ) (fine : accepted (machine table) initial schedule ≡ true) (K : Kept table schedule bytes) where
  -- each name kept stands in the table
  stands : (i : ℕ) → i < length schedule → Stands table (name_of (get_or bytes i 0))
  stands i h =
      in-table table (name_of (get_or bytes i 0)) (subst (λ (x : Name). in_table table x ≡ true) named (steps-in-table table initial schedule fine i h))
    where
      named : get_or (names (machine table) initial schedule) i (name 0 0) ≡ name_of (get_or bytes i 0)
      named =
          ap (λ (l : List Name). get_or l i (name 0 0)) (sym K.names-right)
          ∙ get_or-map name_of (take (length schedule) bytes) i 0
          ∙ ap name_of (get_or-take (length schedule) bytes i 0 h)

-- no step name is run twice
once : (table schedule : List ℕ) → accepted (machine table) initial schedule ≡ true → Distinct (names (machine table) initial schedule)
once table schedule fine = names-distinct (laws table) initial schedule (inv-initial table) fine

-- schedules of different lengths are different, and none of their pairs is compared
pub lengths-apart : (table first second : List ℕ) → (length first ≡ length second → ⊥) → Verdict table first second (Different 0)
unfolding equivalent pairs_compared
lengths-apart table first second h = rw (ne_eqb (length first) (length second) h)

module _ (table first second first_bytes second_bytes : List ℕ) (first_fine : accepted (machine table) initial first ≡ true)
    (second-fine : accepted (machine table) initial second ≡ true) (K : Kept table first first_bytes) (J : Kept table second second_bytes)
    (long : length first ≡ length second) where
  second-names : names_in (length first) second_bytes ≡ names (machine table) initial second
  second-names = ap (λ (m : ℕ). names_in m second_bytes) long ∙ J.names-right

  pub comparable : WellFormed table → Compared table first_bytes second_bytes (length first)
  comparable ok =
      record {
        accepted = ok;
        first-long = K.bytes-long;
        second-long = J.bytes-long;
        most = K.entries-most;
        stand = stands table first first_bytes first_fine K;
        first-distinct = rw K.names-right (once table first first_fine);
        second-distinct = rw second-names (once table second second-fine);
        own-order = λ x y e b. rw second-names (one-order (laws table) initial first second (inv-initial table) first_fine second-fine x y e (rw K.names-right at b));
      }

  -- schedules of one length run the same steps where the second has the first's names
  by_names : same_steps (machine table) initial first second ≡ within (names (machine table) initial first) (names (machine table) initial second)
  by_names = go (which (within (names (machine table) initial first) (names (machine table) initial second)))
    where
      go : (within (names (machine table) initial first) (names (machine table) initial second) ≡ true)
          ⊎ (within (names (machine table) initial first) (names (machine table) initial second) ≡ false)
          → same_steps (machine table) initial first second ≡ within (names (machine table) initial first) (names (machine table) initial second)
      go (inl w) =
          let back : within (names (machine table) initial second) (names (machine table) initial first) ≡ true =
          one_way (laws table) initial (inv-initial table) first second first_fine long w in
          rw (eq-eqb (length first) (length second) long, w, back)
      go (inr w) = rw (eq-eqb (length first) (length second) long, w)

  module _ (r : Comparison)
      (judges : Judges (depends table) (names_in (length first) first_bytes) (names_in (length first) second_bytes) r) where
    by-schedules : Judges (depends table) (names (machine table) initial first) (names (machine table) initial second) r
    by-schedules = rw (K.names-right, second-names) at judges

    pub verdict : Verdict table first second r
    unfolding equivalent pairs_compared
    verdict =
        let same_verdict =
        by-schedules.verdict
        ∙ ap (λ (b : Bool). cond (b && not (reorders (depends table) (names (machine table) initial first) (names (machine table) initial second))) same different)
        (sym by_names) in
        let same_number : (comparison_as r).pairs ≡ cond (same_steps (machine table) initial first second) (compared_in (search (opposed (depends table) (names (machine table) initial first) (names (machine table) initial second)) (length first))) 0 =
        by-schedules.counted
        ∙ (λ k.
        cond (sym by_names k)
        (compared_in
        (search (opposed (depends table) (names (machine table) initial first) (names (machine table) initial second))
        (names-length (machine table) initial first k)))
        0) in
        λ k. record { verdict = same_verdict k; pairs = same_number k }

  -- the route by names is the schedules' route
  pub route-names : route_from 0 (names_in (length first) first_bytes) (names_in (length first) second_bytes) ≡ route (machine table) initial first second
  unfolding route
  route-names = rw (K.names-right, second-names)

  pub routable : (buffer : List ℕ) → equivalent (machine table) initial first second ≡ true → most_exchanges (length first) ≤ length buffer
      → Routable first_bytes second_bytes (length first) buffer
  routable buffer alike room =
      let parts : SameParts (machine table) initial first second = same_parts (machine table) initial first second alike in
      let most : length (route (machine table) initial first second) ≤ most_exchanges (length first) =
      ((site-theorems table).shortest-route first second first_fine second-fine alike).length-bound in
      record {
        first-long = K.bytes-long;
        second-long = J.bytes-long;
        most = K.entries-most;
        first-distinct = rw K.names-right (once table first first_fine);
        second-distinct = rw second-names (once table second second-fine);
        in-second = rw (K.names-right, second-names) parts.in-second;
        in-first = rw (K.names-right, second-names) parts.in-first;
        room = rw route-names (omega arith);
      }
