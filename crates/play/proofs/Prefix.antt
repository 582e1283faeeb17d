-- One more entry of a schedule: accepted, the state it leaves and its name.
-- Assumes nothing.
use mathlib.Core.Path.{◌≡◌, refl, ap}
use mathlib.Core.Bool.{true}
use mathlib.Core.List.{List, [], ◌∷◌, ◌++◌}
use Prim.Native.Nat.{ℕ}
use Rattle.trace.specs.Machine.{Machine, Name, name_of}
use Rattle.trace.specs.Schedule.{accepted, final, names}
use Rattle.trace.proofs.Bools.{and_left, and_right}

module _ (M : Machine) where
  pub accepted-more : (s : M.State) (p : List ℕ) (a : ℕ) → accepted M s p ≡ true → M.ready (final M s p) a ≡ true → accepted M s (p ++ (a ∷ [])) ≡ true
  accepted-more s [] a h r = rw r
  accepted-more s (b ∷ p) a h r =
      rw (and_left (M.ready s b) (accepted M (M.step s b) p) h)
      (accepted-more (M.step s b) p a (and_right (M.ready s b) (accepted M (M.step s b) p) h) r)

  pub final-more : (s : M.State) (p : List ℕ) (a : ℕ) → final M s (p ++ (a ∷ [])) ≡ M.step (final M s p) a
  final-more s [] a = refl
  final-more s (b ∷ p) a = final-more (M.step s b) p a

  pub names_more : (s : M.State) (p : List ℕ) (a : ℕ) → names M s (p ++ (a ∷ [])) ≡ names M s p ++ (name_of M (final M s p) a ∷ [])
  names_more s [] a = refl
  names_more s (b ∷ p) a = ap (λ (l : List Name). name_of M s b ∷ l) (names_more (M.step s b) p a)
