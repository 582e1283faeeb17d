-- The theorems, as statements about a machine and a start state. `proofs/Theorems.antt` proves them of each machine that keeps the laws and
-- each start that keeps the invariant.
-- Assumes nothing: these are definitions.
use Rattle.std.specs.Prelude.{ℕ, ◌<◌, ◌≤◌, ◌+◌, ◌*◌, ◌-◌, ◌/◌, ◌≡◌, ◌↔◌, true, false, List, ◌++◌, length, take}
use Rattle.trace.specs.Machine.{Machine}
use Rattle.trace.specs.Schedule.{accepted, final, names}
use Rattle.trace.specs.Order.{has}
use Rattle.trace.specs.Inversions.{inversions}
use Rattle.trace.specs.Chain.{Chain, Chained, replay}
use Rattle.trace.specs.Same.{same_steps, equivalent}
use Rattle.trace.specs.Search.{opposed_in, pairs_compared}
use Rattle.trace.specs.Route.{route}

-- a chain from p to q keeps the run: it leads to q, and each schedule along it, after n of its exchanges, is accepted and ends where p ends; so q
pub record KeepsRun (M : Machine) (s : M.State) (ks p q : List ℕ) : Type 0 where
  pub reaches : replay ks p ≡ q
  pub taken : (n : ℕ) → accepted M s (replay (take n ks) p) ≡ true
  pub ends : (n : ℕ) → final M s (replay (take n ks) p) ≡ final M s p
  pub last_taken : accepted M s q ≡ true
  pub last-ends : final M s q ≡ final M s p

-- an actor is ready after the longer schedule as it was after the shorter, with the same action next
pub record StaysReady (M : Machine) (s : M.State) (p more : List ℕ) (a : ℕ) : Type 0 where
  pub still-ready : M.ready (final M s (p ++ more)) a ≡ true
  pub same-action : M.pos (final M s (p ++ more)) a ≡ M.pos (final M s p) a

-- the route is a chain from p to q, with as many exchanges as there are pairs run in opposite orders, and no chain is shorter
pub record ShortestRoute (M : Machine) (s : M.State) (p q : List ℕ) : Type 0 where
  pub chain : Chain M s (route M s p q) p q
  pub replays : replay (route M s p q) p ≡ q
  pub length-is : length (route M s p q) ≡ inversions (names M s p) (names M s q)
  pub length-bound : length (route M s p q) ≤ (length p * (length p - 1)) / 2
  pub shortest : (ks : List ℕ) → Chain M s ks p q → length (route M s p q) ≤ length ks

-- how many pairs the search for an opposed one compares: none where the steps differ; all where the schedules are the same; and where they differ, those
-- up to the first opposed one, by rising later entry, then rising earlier entry, and that one
pub record PairsCompared (M : Machine) (s : M.State) (p q : List ℕ) : Type 0 where
  pub other-steps : same_steps M s p q ≡ false → pairs_compared M s p q ≡ 0
  pub all : equivalent M s p q ≡ true → pairs_compared M s p q ≡ (length p * (length p - 1)) / 2
  pub up_to : (i j : ℕ) → i < j → j < length p → same_steps M s p q ≡ true → opposed_in M s p q i j ≡ true
      → ((l : ℕ) → l < j → (k : ℕ) → k < l → opposed_in M s p q k l ≡ false) → ((k : ℕ) → k < i → opposed_in M s p q k j ≡ false)
      → pairs_compared M s p q ≡ (j * (j - 1)) / 2 + i + 1

pub record Theorems (M : Machine) (s : M.State) : Type 0 where
  -- T1: along any chain from an accepted schedule every schedule is accepted and ends in the same state
  pub chains : (ks p q : List ℕ) → accepted M s p ≡ true → Chain M s ks p q → KeepsRun M s ks p q
  -- T2: what is ready stays ready, with the same action, over any further entries of others with which the longer schedule is accepted too
  pub readiness : (p more : List ℕ) (a : ℕ) → M.ready (final M s p) a ≡ true → has more a ≡ false → accepted M s (p ++ more) ≡ true
      → StaysReady M s p more a
  -- T3: two accepted schedules are the same exactly when a chain leads from the first to the second
  pub same-chained : (p q : List ℕ) → accepted M s p ≡ true → accepted M s q ≡ true → (equivalent M s p q ≡ true) ↔ Chained M s p q
  -- T4: between two accepted schedules that are the same, the route is a shortest chain
  pub shortest-route : (p q : List ℕ) → accepted M s p ≡ true → accepted M s q ≡ true → equivalent M s p q ≡ true → ShortestRoute M s p q
  -- T5: which of two schedules is called the first makes no difference
  pub same-symmetric : (p q : List ℕ) → equivalent M s q p ≡ equivalent M s p q
  -- T6: the number of pairs compared tells the pair that ended the search
  pub pairs-compared : (p q : List ℕ) → PairsCompared M s p q
