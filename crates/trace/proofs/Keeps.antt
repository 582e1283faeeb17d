-- Whole chains of a machine that keeps the laws: each schedule along one is accepted and ends in the same state; and a chain is a chain of the
-- names run. Assumes nothing.
use Prim.Native.Nat.{ℕ, zero, suc}
use mathlib.Core.Path.{◌≡◌, refl, sym, ◌∙◌, ap, subst}
use mathlib.Core.Bool.{true}
use mathlib.Core.List.{List, [], ◌∷◌, map}
use lib.ListN.{length, take}
use lib.Seq.{take-length}
use Rattle.trace.specs.Machine.{Machine, Name}
use Rattle.trace.specs.Laws.{Laws}
use Rattle.trace.specs.Schedule.{accepted, final, names}
use Rattle.trace.specs.Chain.{swap_at, Exchange, Chain, replay}
use Rattle.trace.specs.Theorems.{KeepsRun}
use Rattle.trace.proofs.Run.{actors}
use Rattle.trace.proofs.Exchanged.{Exchanged, exchanged}
use Rattle.trace.proofs.Linked.{Linked}

pub chain-reaches : (M : Machine) (s : M.State) (ks p q : List ℕ) → Chain M s ks p q → replay ks p ≡ q
chain-reaches M s [] p q c = c
chain-reaches M s (k ∷ ks) p q c = chain-reaches M s ks (swap_at k p) q c.1

module _ {M : Machine} {Inv : M.State → Type 0} (L : Laws M Inv) (s : M.State) (i : Inv s) where
  exchange-keeps : (k : ℕ) (p : List ℕ) → Exchange M s k p → Exchanged M s k p
  exchange-keeps k p e = exchanged L k s p i e.taken e.independent

  along : (n : ℕ) (ks p q : List ℕ) → accepted M s p ≡ true → Chain M s ks p q
      → (accepted M s (replay (take n ks) p) ≡ true) × (final M s (replay (take n ks) p) ≡ final M s p)
  along zero ks p q h c = (h, refl)
  along (suc n) [] p q h c = (h, refl)
  along (suc n) (k ∷ ks) p q h c =
      let e : Exchanged M s k p = exchange-keeps k p c.0 in
      let r = along n ks (swap_at k p) q e.taken c.1 in
      (r.0, r.1 ∙ e.ends)

  -- T1
  pub keeps-run : (ks p q : List ℕ) → accepted M s p ≡ true → Chain M s ks p q → KeepsRun M s ks p q
  keeps-run ks p q h c =
      let r : replay ks p ≡ q = chain-reaches M s ks p q c in
      let whole : replay (take (length ks) ks) p ≡ q = ap (λ (l : List ℕ). replay l p) (take-length ks) ∙ r in
      let last = along (length ks) ks p q h c in
      record {
        reaches = r;
        taken = λ n. (along n ks p q h c).0;
        ends = λ n. (along n ks p q h c).1;
        last_taken = subst (λ (l : List ℕ). accepted M s l ≡ true) whole last.0;
        last-ends = subst (λ (l : List ℕ). final M s l ≡ final M s p) whole last.1;
      }

  pub chain-linked : (ks p q : List ℕ) → Chain M s ks p q → Linked M.dep ks (names M s p) (names M s q)
  chain-linked [] p q c = ap (names M s) c
  chain-linked (k ∷ ks) p q c = (c.0.independent, rw (exchange-keeps k p c.0).named at (chain-linked ks (swap_at k p) q c.1))

  pub linked-chain : (ks p q : List ℕ) → accepted M s p ≡ true → Linked M.dep ks (names M s p) (names M s q) → Chain M s ks p q
  linked-chain [] p q h c = sym (actors M s p) ∙ ap (map (λ (x : Name). x.actor)) c ∙ actors M s q
  linked-chain (k ∷ ks) p q h c =
      let x : Exchange M s k p = record { taken = h; independent = c.0 } in
      let e : Exchanged M s k p = exchange-keeps k p x in
      (x, linked-chain ks (swap_at k p) q e.taken (rw e.named c.1))
