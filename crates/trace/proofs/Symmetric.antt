-- The same verdict is symmetric: a dependent pair in opposite orders is one whichever list is looked at first.
-- Assumes nothing.
use Prim.Native.Nat.{ℕ}
use mathlib.Core.Path.{◌≡◌, sym, ◌∙◌}
use mathlib.Core.Logic.{◌⊎◌, inl, inr}
use mathlib.Core.Bool.{Bool, true, false}
use mathlib.Core.List.{List}
use Rattle.trace.specs.Machine.{Machine, Name}
use Rattle.trace.specs.Laws.{Laws}
use Rattle.trace.specs.Schedule.{names}
use Rattle.trace.specs.Same.{equivalent, reorders}
use Rattle.trace.proofs.Bools.{which, contrary, is_false}
use Rattle.trace.proofs.Reorders.{Reordered, reorders-of, reorders-some}
use Rattle.trace.proofs.Verdict.{SameParts, same_parts, parts_same}

turned : (dep : Name → Name → Bool) → ((x y : Name) → dep x y ≡ dep y x) → (u v : List Name) → Reordered dep u v → Reordered dep v u
turned dep dep-sym u v r =
    record { x = r.y; y = r.x; first = r.second; dependent = dep-sym r.y r.x ∙ r.dependent; second = r.first }

module _ {M : Machine} {Inv : M.State → Type 0} (L : Laws M Inv) (s : M.State) where
  same-turned : (p q : List ℕ) → equivalent M s p q ≡ true → equivalent M s q p ≡ true
  same-turned p q h =
      let e : SameParts M s p q = same_parts M s p q h in
      let u : List Name = names M s p in
      let v : List Name = names M s q in
      parts_same M s q p
      (record {
        lengths = sym e.lengths;
        in-second = e.in-first;
        in-first = e.in-second;
        in_order =
            is_false (reorders M.dep v u)
            (λ t. contrary (reorders-of M.dep v u (turned M.dep L.dep-sym v u (reorders-some M.dep u v t))) e.in_order);
      })

  pub same-symmetric : (p q : List ℕ) → equivalent M s q p ≡ equivalent M s p q
  same-symmetric p q = go (which (equivalent M s p q)) (which (equivalent M s q p))
    where
      go : (equivalent M s p q ≡ true) ⊎ (equivalent M s p q ≡ false) → (equivalent M s q p ≡ true) ⊎ (equivalent M s q p ≡ false)
          → equivalent M s q p ≡ equivalent M s p q
      go (inl h) k = same-turned p q h ∙ sym h
      go (inr h) (inl k) = contrary (same-turned q p k) h
      go (inr h) (inr k) = k ∙ sym h
