-- The bytes after a list are 0 exactly when b4 to b7 as one number lie under a power of 256.
-- Assumes nothing.
use mathlib.Core.Path.{◌≡◌, ap}
use mathlib.Core.List.{List}
use Prim.Native.Nat.{ℕ, zero, suc, ◌+◌, ◌*◌, ◌%◌, ◌^◌, ◌<◌, ◌≤◌}
use native.Mathlib.Omega.{arith}
use lib.Dec.{eqb, ltb}
use Rattle.std.proofs.lemmas.Bool.Decides.{nat_tests}
use Rattle.table.specs.Outcome.{Outcome, accepted, demand, ◌⨾◌}
use Rattle.table.specs.Format.{byte_at, listed_at, value_at}
use Rattle.table.specs.Read.{blanks}

-- of four bytes that make a number v
module _ (p v w x y z : ℕ) (e : v ≡ w + 256 * x + 65536 * y + 16777216 * z) (w-byte : w < 256) (x-byte : x < 256) (y-byte : y < 256)
    (z-byte : z < 256) where
  abbrev none : ℕ → Outcome
  none n = demand (eqb n 0) 9 p

  from-none : demand (ltb v 1) 9 p ≡ (none w ⨾ none x ⨾ none y ⨾ none z ⨾ accepted)
  from-none = grind (arith, nat_tests)

  from-one : demand (ltb v 256) 9 p ≡ (none x ⨾ none y ⨾ none z ⨾ accepted)
  from-one = grind (arith, nat_tests)

  from-two : demand (ltb v 65536) 9 p ≡ (none y ⨾ none z ⨾ accepted)
  from-two = grind (arith, nat_tests)

  from-three : demand (ltb v 16777216) 9 p ≡ (none z ⨾ accepted)
  from-three = grind (arith, nat_tests)

  from-four : demand (ltb v 4294967296) 9 p ≡ accepted
  from-four = grind (arith, nat_tests)

module _ (b : List ℕ) (at : ℕ) (small : (i : ℕ) → byte_at b i < 256) where
  value-bytes : value_at b at ≡ listed_at b at 0 + 256 * listed_at b at 1 + 65536 * listed_at b at 2 + 16777216 * listed_at b at 3
  value-bytes =
      let first : at + 4 ≡ at + 4 + 0 = omega arith in
      let last : at + 4 + 2 + 1 ≡ at + 4 + 3 = omega arith in
      omega (arith, ap (byte_at b) first, ap (byte_at b) last)

  pub blank-size : (from : ℕ) → from ≤ 4 → demand (ltb (value_at b at) (1 * 2 ^ (8 * from) % 18446744073709551616)) 9 at ≡ blanks b at from
  blank-size zero h = from-none at _ _ _ _ _ value-bytes (small _) (small _) (small _) (small _)
  blank-size (suc zero) h = from-one at _ _ _ _ _ value-bytes (small _) (small _) (small _) (small _)
  blank-size (suc (suc zero)) h = from-two at _ _ _ _ _ value-bytes (small _) (small _) (small _) (small _)
  blank-size (suc (suc (suc zero))) h = from-three at _ _ _ _ _ value-bytes (small _) (small _) (small _) (small _)
  blank-size (suc (suc (suc (suc zero)))) h = from-four at _ _ _ _ _ value-bytes (small _) (small _) (small _) (small _)
  blank-size (suc (suc (suc (suc (suc from))))) h = absurd (omega arith)
