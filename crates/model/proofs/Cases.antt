-- Document 01's marked cases (a) to (j) hold of the model: one proof, by computation. Of (h) besides: the route is a chain of exchanges.
-- Assumes nothing.
use Prim.Native.Nat.{ℕ}
use mathlib.Core.Path.{◌≡◌, refl, ap₂}
use mathlib.Core.Bool.{Bool, true, ◌&&◌, false≢true}
use mathlib.Core.List.{List, [], ◌∷◌}
use lib.Dec.{eqb}
use borrow.Author.Tests.{eqb-true}
use Rattle.table.specs.Decode.{decode_as}
use Rattle.table.specs.Read.{read_of}
use Rattle.trace.specs.Machine.{Machine}
use Rattle.trace.specs.Schedule.{accepted, names}
use Rattle.trace.specs.Chain.{swap_at, independent_at, Chain}
use Rattle.trace.specs.Same.{equivalent}
use Rattle.trace.proofs.Bools.{and_left, and_right}
use Rattle.model.specs.Site.{initial}
use Rattle.model.specs.Local.{cells_after}
use Rattle.model.specs.Step.{ready, step}
use Rattle.model.specs.Ready.{ready_answer}
use Rattle.model.specs.Pair.{depends}
use Rattle.model.specs.Report.{report}
use Rattle.model.specs.Schedule.{machine}
use Rattle.model.specs.Calls.{run_of, ready_of, pair_of, same_of, comparison_of}
use Rattle.model.specs.Claims.{AllHold, eq_list, is_chain}
use Rattle.model.specs.Cases.{table_a, cases}

pub cases-hold : AllHold cases
unfolding run_of ready_of pair_of comparison_of same_of read_of decode_as initial ready step cells_after ready_answer depends report equivalent
cases-hold = refl

-- ---- the test for a chain says what it should

pub eq_list-true : (l m : List ℕ) → eq_list l m ≡ true → l ≡ m
eq_list-true [] [] h = refl
eq_list-true [] (y ∷ m) h = absurd (false≢true h)
eq_list-true (x ∷ l) [] h = absurd (false≢true h)
eq_list-true (x ∷ l) (y ∷ m) h =
    ap₂ {C = List ℕ} (λ a r. a ∷ r) (eqb-true x y (and_left (eqb x y) (eq_list l m) h)) (eq_list-true l m (and_right (eqb x y) (eq_list l m) h))

pub is_chain-chain : (M : Machine) (s : M.State) (ks p q : List ℕ) → is_chain M s ks p q ≡ true → Chain M s ks p q
is_chain-chain M s [] p q h = eq_list-true p q h
is_chain-chain M s (k ∷ ks) p q h =
    let taken : Bool = accepted M s p in
    let independent : Bool = independent_at M.dep k (names M s p) in
    let first : (taken && independent) ≡ true = and_left (taken && independent) (is_chain M s ks (swap_at k p) q) h in (
      record { taken = and_left taken independent first; independent = and_right taken independent first },
      is_chain-chain M s ks (swap_at k p) q (and_right (taken && independent) (is_chain M s ks (swap_at k p) q) h),
    )

-- (h): 1, 0 is a chain from 0, 0, 1, 1 to 1, 0, 0, 1
pub route-chain : Chain (machine table_a) initial (1 ∷ 0 ∷ []) (0 ∷ 0 ∷ 1 ∷ 1 ∷ []) (1 ∷ 0 ∷ 0 ∷ 1 ∷ [])
unfolding decode_as initial ready step cells_after depends
route-chain = is_chain-chain (machine table_a) initial (1 ∷ 0 ∷ []) (0 ∷ 0 ∷ 1 ∷ 1 ∷ []) (1 ∷ 0 ∷ 0 ∷ 1 ∷ []) refl
