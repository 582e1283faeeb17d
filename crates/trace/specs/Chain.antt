-- Exchanges and chains of them.
-- An exchange is an adjacent transposition of independent steps, and a chain is a sequence of exchanges.
-- Assumes nothing: these are definitions.
use Rattle.std.specs.Prelude.{ℕ, zero, suc, ◌≡◌, Bool, true, false, not, List, [], ◌∷◌}
use Rattle.trace.specs.Machine.{Machine, Name}
use Rattle.trace.specs.Schedule.{accepted, names}

-- the list with its entries k and k + 1 swapped; a list without an entry k + 1 stays as it is
abbrev pub swap_at : {A : Type 0} → ℕ → List A → List A
swap_at k [] = []
swap_at zero (x ∷ []) = x ∷ []
swap_at zero (x ∷ y ∷ l) = y ∷ x ∷ l
swap_at (suc k) (x ∷ l) = x ∷ swap_at k l

-- the list has entries k and k + 1, and the verdict calls them independent
abbrev pub independent_at : (Name → Name → Bool) → ℕ → List Name → Bool
independent_at dep k [] = false
independent_at dep zero (x ∷ []) = false
independent_at dep zero (x ∷ y ∷ l) = not (dep x y)
independent_at dep (suc k) (x ∷ l) = independent_at dep k l

-- an exchange at k takes an accepted schedule and swaps two neighbouring entries whose step names are independent
pub record Exchange (M : Machine) (s : M.State) (k : ℕ) (p : List ℕ) : Type 0 where
  pub taken : accepted M s p ≡ true
  pub independent : independent_at M.dep k (names M s p) ≡ true

-- a chain from p to q, by its positions: the first exchange works on the schedule given, each later one on what the one before left.
-- A chain of none leads from a schedule to itself
abbrev pub Chain : (M : Machine) → M.State → List ℕ → List ℕ → List ℕ → Type 0
Chain M s [] p q = p ≡ q
Chain M s (k ∷ ks) p q = Exchange M s k p × Chain M s ks (swap_at k p) q

-- some chain leads from p to q
abbrev pub Chained : (M : Machine) → M.State → List ℕ → List ℕ → Type 0
Chained M s p q = (ks : List ℕ) × Chain M s ks p q

-- the schedule that is left when the exchanges at these positions have been made
abbrev pub replay : List ℕ → List ℕ → List ℕ
replay [] p = p
replay (k ∷ ks) p = replay ks (swap_at k p)
