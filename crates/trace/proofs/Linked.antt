-- Chains seen through their names alone: what a chain keeps of two lists of names.
-- Assumes nothing.
use Prim.Native.Nat.{ℕ}
use mathlib.Core.Path.{◌≡◌, sym, ◌∙◌, ap}
use mathlib.Core.Bool.{Bool, true}
use mathlib.Core.List.{List, [], ◌∷◌, ◌++◌}
use lib.ListN.{length}
use Rattle.trace.specs.Machine.{Name}
use Rattle.trace.specs.Order.{mem, before}
use Rattle.trace.specs.Chain.{swap_at, independent_at}
use Rattle.trace.proofs.Swap.{swap-mem, swap-length, swap-before}

-- swaps at these positions, each of two independent names, lead from u to v
abbrev pub Linked : (Name → Name → Bool) → List ℕ → List Name → List Name → Type 0
Linked dep [] u v = u ≡ v
Linked dep (k ∷ ks) u v = (independent_at dep k u ≡ true) × Linked dep ks (swap_at k u) v

module _ (dep : Name → Name → Bool) where
  pub linked-append : (ks ls : List ℕ) (u v w : List Name) → Linked dep ks u v → Linked dep ls v w → Linked dep (ks ++ ls) u w
  linked-append [] ls u v w h g = rw h g
  linked-append (k ∷ ks) ls u v w h g = (h.0, linked-append ks ls (swap_at k u) v w h.1 g)

  pub linked-length : (ks : List ℕ) (u v : List Name) → Linked dep ks u v → length u ≡ length v
  linked-length [] u v h = ap length h
  linked-length (k ∷ ks) u v h = sym (swap-length k u) ∙ linked-length ks (swap_at k u) v h.1

  pub linked-mem : (x : Name) (ks : List ℕ) (u v : List Name) → Linked dep ks u v → mem x u ≡ mem x v
  linked-mem x [] u v h = ap (mem x) h
  linked-mem x (k ∷ ks) u v h = sym (swap-mem x k u) ∙ linked-mem x ks (swap_at k u) v h.1

  pub linked-before : ((x y : Name) → dep x y ≡ dep y x) → (x y : Name) → dep x y ≡ true → (ks : List ℕ) (u v : List Name) → Linked dep ks u v
      → before x y u ≡ before x y v
  linked-before dep-sym x y d [] u v h = ap (before x y) h
  linked-before dep-sym x y d (k ∷ ks) u v h =
      sym (swap-before dep dep-sym x y d k u h.0) ∙ linked-before dep-sym x y d ks (swap_at k u) v h.1
