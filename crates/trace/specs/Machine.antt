-- A machine that steps one actor at a time.
-- Assumes nothing: these are definitions.
use Rattle.std.specs.Prelude.{ℕ, Bool}

-- a step's name: its actor, and the position at which that actor stood (the number of the action that it ran)
pub record Name : Type 0 where
  pub actor : ℕ
  pub position : ℕ

-- a machine: its states, which actors are ready in a state, the state that an actor's step leaves, each actor's position, and the pair verdict,
-- which says of two step names whether they are dependent
pub record Machine : Type 1 where
  pub State : Type 0
  pub ready : State → ℕ → Bool
  pub step : State → ℕ → State
  pub pos : State → ℕ → ℕ
  pub dep : Name → Name → Bool

-- the name of the step that an actor would take next
abbrev pub name_of : (M : Machine) → M.State → ℕ → Name
name_of M s a = record { actor = a; position = M.pos s a }
