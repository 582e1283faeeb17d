-- The record after one step, by plain facts.
-- Assumes nothing.
use mathlib.Core.Path.{◌≡◌, ◌∙◌}
use Prim.Native.Nat.{ℕ, suc, ◌+◌}
use native.Mathlib.Numerals.{add-one}
use Rattle.table.specs.declared.Action.{Action}
use Rattle.model.specs.Local.{Seen, cells_after, local}
use Rattle.state.specs.State.{record_of}
use Rattle.state.specs.declared.Actor.{Actor}

-- the record after a step
pub record-after : (own : ℕ → Action) (x : Action) (found : Seen) (r next : Actor) → next.position ≡ r.position + 1
    → next.cells ≡ cells_after own x found r.cells → record_of next ≡ local own x found (record_of r)
record-after own x found r next p q =
    let position : next.position ≡ suc r.position = p ∙ add-one r.position in λ i. record { position = position i; cells = q i }
