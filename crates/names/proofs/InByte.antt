-- The byte of a step's name stands for it.
-- Assumes nothing.
use Prim.Native.Nat.{ℕ, ◌+◌, ◌*◌, ◌/◌, ◌%◌, ◌<◌}
use native.Mathlib.Omega.{arith}
use mathlib.Core.Path.{◌≡◌}
use Rattle.model.specs.Site.{name}
use Rattle.names.specs.InByte.{name_of}

pub name-byte : (a k : ℕ) → k < 32 → name_of (32 * a + k) ≡ name a k
name-byte a k h =
    let actor : (32 * a + k) / 32 ≡ a = omega arith in
    let action : (32 * a + k) % 32 ≡ k = omega arith in
    λ i. record { actor = actor i; position = action i }
