-- The route call's promise can be kept: for every input there is a right answer, the trace theory's route where the checks accept.
-- Assumes nothing.
use Prim.Native.Nat.{ℕ, ◌≤◌}
use native.Mathlib.Omega.{arith}
use mathlib.Core.Path.{◌≡◌, refl, sym, ◌∙◌, subst}
use mathlib.Core.Bool.{true}
use mathlib.Core.List.{List, ◌++◌}
use lib.ListN.{length, drop, length-append, length-drop}
use lib.Seq.{take-append_seam, drop-append_seam}
use borrow.Author.Tests.{leb-true}
use Rattle.table.specs.Outcome.{Outcome, accepted, refused, demand, ◌⨾◌}
use Rattle.table.specs.Read.{read_of}
use Rattle.trace.specs.Same.{equivalent}
use Rattle.trace.specs.Route.{route}
use Rattle.trace.specs.Theorems.{ShortestRoute}
use Rattle.model.specs.Site.{initial}
use Rattle.model.specs.Schedule.{machine, first_numbers, second_numbers, check_schedule}
use Rattle.model.specs.Calls.{Result, gives, refuses, same_checks}
use Rattle.model.specs.Route.{most_exchanges, route_checks, RouteWritten, RightAnswer, RightRoute}
use Rattle.table.proofs.Checks.{then-left, then-right, demand-true}
use Rattle.model.proofs.Checks.{checks-taken}
use Rattle.model.proofs.Demand3.{site-theorems}

module _ (table first second before : List ℕ) where
  -- the buffer with the route in front
  abbrev pub written : List ℕ → List ℕ
  written r = r ++ drop (length r) before

  pub route-written : route_checks table first second before ≡ accepted
      → RouteWritten table first second before (written (route (machine table) initial first second)) (length (route (machine table) initial first second))
  route-written h =
      let r : List ℕ = route (machine table) initial first second in
      let checks : same_checks table first second ≡ accepted = then-left (same_checks table first second) _ h in
      let schedules : (check_schedule first_numbers table first ⨾ check_schedule second_numbers table second) ≡ accepted =
      then-right (read_of table) _ checks in
      let tail = then-right (same_checks table first second) _ h in
      let is_same : equivalent (machine table) initial first second ≡ true = demand-true _ 19 0 (then-left (demand (equivalent (machine table) initial first second) 19 0) _ tail) in
      let room : most_exchanges (length first) ≤ length before =
      leb-true _ _ (demand-true _ 18 0 (then-right (demand (equivalent (machine table) initial first second) 19 0) _ tail)) in
      let found : ShortestRoute (machine table) initial first second =
      (site-theorems table).shortest-route first second
      (checks-taken table first_numbers initial 0 first (then-left (check_schedule first_numbers table first) _ schedules))
      (checks-taken table second_numbers initial 0 second (then-right (check_schedule first_numbers table first) _ schedules))
      is_same in
      let bounded : length r ≤ most_exchanges (length first) = found.length-bound in
      record {
        bounded = bounded;
        size = length-append r (drop (length r) before) ∙ omega (arith, length-drop (length r) before);
        chain = rw (take-append_seam r (drop (length r) before)) found.chain;
        replays = rw (take-append_seam r (drop (length r) before)) found.replays;
        kept = drop-append_seam r (drop (length r) before);
      }

  -- some answer with some buffer is right
  pub right-route : (after : List ℕ) × (result : Result ℕ) × RightRoute table first second before after result
  right-route = go (route_checks table first second before) refl
    where
      right : (o : Outcome) → route_checks table first second before ≡ o → (after : List ℕ) (result : Result ℕ)
          → RightAnswer o table first second before after result → RightRoute table first second before after result
      right o e after result h = subst (λ (x : Outcome). RightAnswer x table first second before after result) (sym e) h

      go : (o : Outcome) → route_checks table first second before ≡ o
          → (after : List ℕ) × (result : Result ℕ) × RightRoute table first second before after result
      go accepted e =
          let r : List ℕ = route (machine table) initial first second in
          (written r, gives (length r), right accepted e (written r) (gives (length r)) (length r, refl, route-written e))
      go (refused n p) e = (before, refuses n p, right (refused n p) e before (refuses n p) (refl, refl))
