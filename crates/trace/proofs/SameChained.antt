-- Two accepted schedules are the same exactly when a chain leads from the first to the second, and the route is such a chain.
-- Assumes nothing.
use Prim.Native.Nat.{ℕ}
use mathlib.Core.Path.{◌≡◌, sym, ◌∙◌}
use mathlib.Core.Logic.{◌↔◌}
use mathlib.Core.Bool.{true, false}
use mathlib.Core.List.{List, []}
use lib.ListN.{length}
use Rattle.trace.specs.Machine.{Machine, Name}
use Rattle.trace.specs.Laws.{Laws}
use Rattle.trace.specs.Schedule.{accepted, names}
use Rattle.trace.specs.Order.{before, within}
use Rattle.trace.specs.Chain.{Chain, Chained}
use Rattle.trace.specs.Same.{equivalent}
use Rattle.trace.specs.Route.{route}
use Rattle.trace.proofs.Bools.{contrary, is_false}
use Rattle.trace.proofs.Names.{within-mem, mem-within, before-asym}
use Rattle.trace.proofs.Run.{names-distinct, names-length}
use Rattle.trace.proofs.Linked.{Linked, linked-length, linked-mem, linked-before}
use Rattle.trace.proofs.Keeps.{chain-linked, linked-chain}
use Rattle.trace.proofs.Reorders.{Reordered, reorders-of, reorders-some}
use Rattle.trace.proofs.SameNames.{SameNames, in_both}
use Rattle.trace.proofs.Pull.{route-linked}
use Rattle.trace.proofs.Verdict.{SameParts, same_parts, parts_same}

module _ {M : Machine} {Inv : M.State → Type 0} (L : Laws M Inv) (s : M.State) (i : Inv s) where
  pub same_names : (p q : List ℕ) → accepted M s p ≡ true → accepted M s q ≡ true → equivalent M s p q ≡ true → SameNames (names M s p) (names M s q)
  same_names p q hp hq h =
      let e : SameParts M s p q = same_parts M s p q h in
      record {
        once-first = names-distinct L s p i hp;
        once-second = names-distinct L s q i hq;
        in-second = within-mem (names M s p) (names M s q) e.in-second;
        in-first = within-mem (names M s q) (names M s p) e.in-first;
      }

  -- where two accepted schedules have one length, it is enough to find the first's names in the second
  pub one_way : (p q : List ℕ) → accepted M s p ≡ true → length p ≡ length q → within (names M s p) (names M s q) ≡ true
      → within (names M s q) (names M s p) ≡ true
  one_way p q hp l w =
      mem-within (names M s q) (names M s p)
      (in_both (names M s p) (names M s q) (names-distinct L s p i hp) (names-length M s p ∙ l ∙ sym (names-length M s q))
      (within-mem (names M s p) (names M s q) w))

  pub route-chain : (p q : List ℕ) → accepted M s p ≡ true → accepted M s q ≡ true → equivalent M s p q ≡ true → Chain M s (route M s p q) p q
  unfolding route
  route-chain p q hp hq h =
      linked-chain L s i (route M s p q) p q hp (route-linked M.dep (names M s q) (names M s p) [] (same_names p q hp hq h) in_order)
    where
      in_order : (x y : Name) → before x y (names M s p) ≡ true → before y x (names M s q) ≡ true → M.dep x y ≡ false
      in_order x y f g =
          is_false _
          (λ d. contrary (reorders-of M.dep (names M s q) (names M s p) (record { x = x; y = y; first = f; dependent = d; second = g }))
          (same_parts M s p q h).in_order)

  -- a chain keeps the length, the names and the order of each dependent pair
  chain_same : (p q ks : List ℕ) → accepted M s p ≡ true → Chain M s ks p q → equivalent M s p q ≡ true
  chain_same p q ks hp c =
      parts_same M s p q (record {
        lengths = sym (names-length M s p) ∙ linked-length M.dep ks (names M s p) (names M s q) l ∙ names-length M s q;
        in-second = mem-within (names M s p) (names M s q) (λ x m. sym (linked-mem M.dep x ks (names M s p) (names M s q) l) ∙ m);
        in-first = mem-within (names M s q) (names M s p) (λ x m. linked-mem M.dep x ks (names M s p) (names M s q) l ∙ m);
        in_order = is_false _ (λ r. none (reorders-some M.dep (names M s q) (names M s p) r));
      })
    where
      l : Linked M.dep ks (names M s p) (names M s q)
      l = chain-linked L s i ks p q c

      none : Reordered M.dep (names M s p) (names M s q) → ⊥
      none r =
          let d : M.dep r.y r.x ≡ true = L.dep-sym r.y r.x ∙ r.dependent in
          let kept : before r.y r.x (names M s p) ≡ before r.y r.x (names M s q) =
          linked-before M.dep L.dep-sym r.y r.x d ks (names M s p) (names M s q) l in
          contrary (kept ∙ r.second) (before-asym r.x r.y (names M s p) (names-distinct L s p i hp) r.first)

  -- T3
  pub same-chained : (p q : List ℕ) → accepted M s p ≡ true → accepted M s q ≡ true → (equivalent M s p q ≡ true) ↔ Chained M s p q
  same-chained p q hp hq = (λ h. (route M s p q, route-chain p q hp hq h), λ c. chain_same p q c.0 hp c.1)
