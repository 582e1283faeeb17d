-- The laws that the theory asks of a machine.
-- Assumes nothing: these are definitions.
use Rattle.std.specs.Prelude.{ℕ, ◌<◌, ◌≡◌, ◌≢◌, true, false}
use Rattle.trace.specs.Machine.{Machine, Name, name_of}

-- the laws, of the states that an invariant holds in
pub record Laws (M : Machine) (Inv : M.State → Type 0) : Type 0 where
  -- a ready step keeps the invariant
  pub inv-step : (s : M.State) (a : ℕ) → Inv s → M.ready s a ≡ true → Inv (M.step s a)
  -- a ready step raises its actor's own position
  pub pos-own : (s : M.State) (a : ℕ) → Inv s → M.ready s a ≡ true → M.pos s a < M.pos (M.step s a) a
  -- it leaves the others' positions as they are
  pub pos-other : (s : M.State) (a b : ℕ) → Inv s → a ≢ b → M.ready s b ≡ true → M.pos (M.step s b) a ≡ M.pos s a
  -- readiness lasts: an actor that is ready is ready after another's step
  pub persist : (s : M.State) (a b : ℕ) → Inv s → a ≢ b → M.ready s a ≡ true → M.ready s b ≡ true → M.ready (M.step s b) a ≡ true
  -- dependence is symmetric
  pub dep-sym : (x y : Name) → M.dep x y ≡ M.dep y x
  -- two steps of one actor are dependent
  pub dep-own : (x y : Name) → x.actor ≡ y.actor → M.dep x y ≡ true
  -- the diamond: of two independent steps run one after the other, the second was ready before the first, and both orders end in one state
  pub diamond : (s : M.State) (a b : ℕ) → Inv s → a ≢ b → M.ready s a ≡ true → M.ready (M.step s a) b ≡ true
      → M.dep (name_of M s a) (name_of M s b) ≡ false
      → (M.ready s b ≡ true) × (M.step (M.step s a) b ≡ M.step (M.step s b) a)
