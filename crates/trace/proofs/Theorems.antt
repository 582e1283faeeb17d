-- The theorems, of any machine that keeps the laws and any start that keeps the invariant.
-- Assumes nothing.
use Prim.Native.Nat.{ℕ}
use mathlib.Core.Path.{◌≡◌}
use mathlib.Core.Bool.{true}
use mathlib.Core.List.{List}
use lib.ListN.{length}
use Rattle.trace.specs.Machine.{Machine}
use Rattle.trace.specs.Laws.{Laws}
use Rattle.trace.specs.Schedule.{accepted, names}
use Rattle.trace.specs.Inversions.{inversions}
use Rattle.trace.specs.Chain.{Chain}
use Rattle.trace.specs.Same.{equivalent}
use Rattle.trace.specs.Route.{route}
use Rattle.trace.specs.Theorems.{ShortestRoute, Theorems}
use Rattle.trace.proofs.Run.{stays-ready, names-distinct, names-length}
use Rattle.trace.proofs.Keeps.{keeps-run, chain-reaches, chain-linked}
use Rattle.trace.proofs.SameChained.{same_names, route-chain, same-chained}
use Rattle.trace.proofs.Symmetric.{same-symmetric}
use Rattle.trace.proofs.Numbered.{pairs-compared}
use Rattle.trace.proofs.Inversions.{route-length, no-shorter, inversions-bound}

module _ {M : Machine} {Inv : M.State → Type 0} (L : Laws M Inv) (s : M.State) (i : Inv s) where
  route-inversions : (p q : List ℕ) → accepted M s p ≡ true → accepted M s q ≡ true → equivalent M s p q ≡ true
      → length (route M s p q) ≡ inversions (names M s p) (names M s q)
  unfolding route
  route-inversions p q hp hq h = route-length (names M s q) (names M s p) 0 (same_names L s i p q hp hq h)

  -- T4
  pub shortest-route : (p q : List ℕ) → accepted M s p ≡ true → accepted M s q ≡ true → equivalent M s p q ≡ true → ShortestRoute M s p q
  shortest-route p q hp hq h =
      let c : Chain M s (route M s p q) p q = route-chain L s i p q hp hq h in
      let l : length (route M s p q) ≡ inversions (names M s p) (names M s q) = route-inversions p q hp hq h in
      record {
        chain = c;
        replays = chain-reaches M s (route M s p q) p q c;
        length-is = l;
        length-bound = rw (l, ← names-length M s p) (inversions-bound (names M s p) (names M s q));
        shortest = λ ks d. rw l (no-shorter M.dep ks (names M s p) (names M s q) (names-distinct L s q i hq) (chain-linked L s i ks p q d));
      }

  pub theorems : Theorems M s
  theorems =
      record {
        chains = keeps-run L s i;
        readiness = stays-ready L s i;
        same-chained = same-chained L s i;
        shortest-route = shortest-route;
        same-symmetric = same-symmetric L s;
        pairs-compared = pairs-compared M s;
      }
