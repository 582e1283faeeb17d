-- The outcome of a check: accepted, or document 01's refusal number with its position; and how checks follow one another.
-- Assumes nothing.
use Rattle.std.specs.Prelude.{ℕ, zero, suc, Bool, true, false}

pub data Outcome : Type 0 where
  accepted : Outcome
  refused : (number position : ℕ) → Outcome

-- the condition holds, or the refusal `number` at `position`
abbrev pub demand : Bool → ℕ → ℕ → Outcome
demand true number position = accepted
demand false number position = refused number position

-- the first check, and the second where the first accepts
infixr 30 ◌⨾◌
abbrev pub ◌⨾◌ : Outcome → Outcome → Outcome
accepted ⨾ after = after
refused number position ⨾ after = refused number position

-- the checks `f k`, `f (k + 1)`, .., `n` of them: the first refusal decides
abbrev pub each : (ℕ → Outcome) → ℕ → ℕ → Outcome
each f zero k = accepted
each f (suc n) k = f k ⨾ each f n (suc k)

-- a refusal's number and its position; 0 and 0 where accepted
abbrev pub number_of : Outcome → ℕ
number_of accepted = 0
number_of (refused number position) = number

abbrev pub position_of : Outcome → ℕ
position_of accepted = 0
position_of (refused number position) = position
