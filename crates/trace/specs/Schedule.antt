-- A schedule is a list of actors, each of which takes its next step. What it runs from a start state `s`.
-- Assumes nothing: these are definitions.
use Rattle.std.specs.Prelude.{ℕ, Bool, true, ◌&&◌, List, [], ◌∷◌}
use Rattle.trace.specs.Machine.{Machine, Name, name_of}

module _ (M : Machine) where
  -- accepted: each entry names an actor that is ready in the state that the entries before it left
  abbrev pub accepted : M.State → List ℕ → Bool
  accepted s [] = true
  accepted s (a ∷ p) = M.ready s a && accepted (M.step s a) p

  -- the end state: what the last entry left, and for the empty schedule the start
  abbrev pub final : M.State → List ℕ → M.State
  final s [] = s
  final s (a ∷ p) = final (M.step s a) p

  -- the names of the steps run, in their order
  abbrev pub names : M.State → List ℕ → List Name
  names s [] = []
  names s (a ∷ p) = name_of M s a ∷ names (M.step s a) p
