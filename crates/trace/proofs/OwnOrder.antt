-- Steps of one actor come by rising position in every accepted schedule, so that no two accepted schedules run them in opposite orders.
-- Assumes nothing.
use Prim.Native.Nat.{ℕ, ◌≤◌, ◌<◌}
use native.Mathlib.Omega.{arith}
use mathlib.Core.Path.{◌≡◌, ◌∙◌, ap, sym}
use mathlib.Core.Logic.{◌⊎◌, inl, inr}
use mathlib.Core.Bool.{true, false, false≢true}
use mathlib.Core.List.{List, [], ◌∷◌}
use Rattle.trace.specs.Machine.{Machine, Name, name_of}
use Rattle.trace.specs.Laws.{Laws}
use Rattle.trace.specs.Schedule.{accepted, names}
use Rattle.trace.specs.Order.{mem, before}
use Rattle.trace.proofs.Bools.{is_false}
use Rattle.trace.proofs.Names.{before-cases}
use Rattle.trace.proofs.Run.{first-ready, rest-accepted, name-above}

module _ {M : Machine} {Inv : M.State → Type 0} (L : Laws M Inv) where
  rising : (s : M.State) (p : List ℕ) → Inv s → accepted M s p ≡ true → (x y : Name) → x.actor ≡ y.actor → before x y (names M s p) ≡ true
      → x.position < y.position
  rising s [] i h x y e b = absurd (false≢true b)
  rising s (a ∷ p) i h x y e b =
      go (before-cases x y (name_of M s a) (names M (M.step s a) p) b) (rising (M.step s a) p next (rest-accepted M s a p h) x y e)
    where
      r : M.ready s a ≡ true
      r = first-ready M s a p h

      next : Inv (M.step s a)
      next = L.inv-step s a i r

      go : ((x ≡ name_of M s a) × (mem y (names M (M.step s a) p) ≡ true)) ⊎ (before x y (names M (M.step s a) p) ≡ true)
          → (before x y (names M (M.step s a) p) ≡ true → x.position < y.position) → x.position < y.position
      go (inl f) rest =
          let own : y.actor ≡ a = sym e ∙ ap (λ (z : Name). z.actor) f.0 in
          let here : x.position ≡ M.pos s a = ap (λ (z : Name). z.position) f.0 in
          let up : M.pos s a < M.pos (M.step s a) a = L.pos-own s a i r in
          let above : M.pos (M.step s a) y.actor ≤ y.position = name-above L (M.step s a) p next (rest-accepted M s a p h) y f.1 in
          let later : M.pos (M.step s a) a ≤ y.position = rw own at above in
          omega arith
      go (inr k) rest = rest k

  pub one-order : (s : M.State) (p q : List ℕ) → Inv s → accepted M s p ≡ true → accepted M s q ≡ true → (x y : Name) → x.actor ≡ y.actor
      → before x y (names M s p) ≡ true → before y x (names M s q) ≡ false
  one-order s p q i hp hq x y e b =
      is_false _
      (λ k.
      let up : x.position < y.position = rising s p i hp x y e b in
      let down : y.position < x.position = rising s q i hq y x (sym e) k in
      omega arith)
