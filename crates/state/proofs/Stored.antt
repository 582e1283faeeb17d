-- An element stored behind those before it.
-- Assumes nothing.
use Prim.Native.Nat.{ℕ, ◌+◌, ◌<◌}
use native.Mathlib.Numerals.{add-one}
use native.Mathlib.Omega.{arith}
use mathlib.Core.Path.{◌≡◌}
use mathlib.Core.List.{List, [], ◌∷◌, ◌++◌}
use lib.ListN.{length, take, drop, set, length-drop}
use lib.Seq.{drop-set-add, take-suc-set}

-- an entry stored behind the first k follows them
pub stored : (l : List ℕ) (at k v : ℕ) → at + k < length l → take (k + 1) (drop at (set l (at + k) v)) ≡ take k (drop at l) ++ (v ∷ [])
stored l at k v h =
    let inside : k < length (drop at l) = rw length-drop (omega arith) in
    rw (drop-set-add, add-one) (take-suc-set (drop at l) k v inside)
