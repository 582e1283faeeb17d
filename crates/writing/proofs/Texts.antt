-- One byte more after what was written, and what there is room for.
-- Assumes nothing.
use mathlib.Core.Path.{◌≡◌, ◌∙◌, ap, subst}
use mathlib.Core.List.{List, [], ◌∷◌, ◌++◌}
use Prim.Native.Nat.{ℕ, ◌+◌, ◌-◌, ◌<◌, ◌≤◌}
use native.Mathlib.Nat.{add-zero}
use native.Mathlib.Omega.{arith}
use borrow.Rule.Slice.PartMut.{set_mid_at}
use lib.ListN.{length, set}
use Rattle.writing.specs.Written.{Wrote}
use Rattle.writing.proofs.Written.{rest, joined, rest-room, written-length, wrote_then, wrote_stores}

-- a store just after what was written
pub wrote-store : (e s b : List ℕ) (at x : ℕ) → length s < length e → Wrote e s b at → Wrote e (s ++ (x ∷ [])) (set b at x) (at + 1)
wrote-store e s b at x h w =
    let same : length b ≡ length e = written-length e s b (omega arith) w.1 in
    let one : 1 ≤ length (rest at b) = rest-room at 1 b (omega (arith, w.0)) in
    let stored : Wrote (rest at b) (x ∷ []) (set (rest at b) 0 x) 1 = wrote_stores (x ∷ []) (rest at b) one in
    let place : joined at b (set (rest at b) 0 x) ≡ set b at x = set_mid_at at (length b - at) 0 b x one ∙ ap (λ (j : ℕ). set b j x) (add-zero at) in
    subst (λ (l : List ℕ). Wrote e (s ++ (x ∷ [])) l (at + 1)) place (wrote_then e s b (x ∷ []) (set (rest at b) 0 x) at 1 w stored)

-- ---- after a first text was written

module _ (e s : List ℕ) {b : List ℕ} {at : ℕ} (w : Wrote e s b at) where
  pub wrote-below : length s < length e → at < length b
  wrote-below h =
      let same : length b ≡ length e = written-length e s b (omega arith) w.1 in
      omega (arith, w.0)

  pub wrote-room : (m : ℕ) → length s + m ≤ length e → m ≤ length (rest at b)
  wrote-room m h =
      let same : length b ≡ length e = written-length e s b (omega arith) w.1 in
      rest-room at m b (omega (arith, w.0))
