-- One exchange: the schedule that it leaves is accepted, ends in the same state, and runs the same names with those two swapped.
-- The only place where two orders of steps are compared by their states. Assumes nothing.
use Prim.Native.Nat.{ℕ, zero, suc}
use mathlib.Core.Path.{◌≡◌, sym, ap}
use mathlib.Core.Logic.{◌≢◌}
use mathlib.Core.Bool.{true, false, false≢true}
use mathlib.Core.List.{List, [], ◌∷◌}
use borrow.Author.Tests.{not-true}
use Rattle.trace.specs.Machine.{Machine, Name, name_of}
use Rattle.trace.specs.Laws.{Laws}
use Rattle.trace.specs.Schedule.{accepted, final, names}
use Rattle.trace.specs.Chain.{swap_at, independent_at}
use Rattle.trace.proofs.Bools.{contrary, both}
use Rattle.trace.proofs.Run.{first-ready, rest-accepted}

pub record Exchanged (M : Machine) (s : M.State) (k : ℕ) (p : List ℕ) : Type 0 where
  pub taken : accepted M s (swap_at k p) ≡ true
  pub ends : final M s (swap_at k p) ≡ final M s p
  pub named : names M s (swap_at k p) ≡ swap_at k (names M s p)

module _ {M : Machine} {Inv : M.State → Type 0} (L : Laws M Inv) where
  two-swapped : (s : M.State) (a b : ℕ) (p : List ℕ) → Inv s → accepted M s (a ∷ b ∷ p) ≡ true
      → M.dep (name_of M s a) (name_of M (M.step s a) b) ≡ false → Exchanged M s zero (a ∷ b ∷ p)
  two-swapped s a b p i h d =
      let ra : M.ready s a ≡ true = first-ready M s a (b ∷ p) h in
      let rest : accepted M (M.step s a) (b ∷ p) ≡ true = rest-accepted M s a (b ∷ p) h in
      let ne : a ≢ b = λ e. contrary (L.dep-own (name_of M s a) (name_of M (M.step s a) b) e) d in
      let stay-b : M.pos (M.step s a) b ≡ M.pos s b = L.pos-other s b a i (λ e. ne (sym e)) ra in
      let dia = L.diamond s a b i ne ra (first-ready M (M.step s a) b p rest) (rw stay-b at d) in
      let ra' : M.ready (M.step s b) a ≡ true = L.persist s a b i ne ra dia.0 in
      let stay-a : M.pos (M.step s b) a ≡ M.pos s a = L.pos-other s a b i ne dia.0 in
      record {
        taken = both dia.0 (both ra' (rw dia.1 at (rest-accepted M (M.step s a) b p rest)));
        ends = ap (λ (t : M.State). final M t p) (sym dia.1);
        named = rw (stay-b, stay-a, dia.1);
      }

  pub exchanged : (k : ℕ) (s : M.State) (p : List ℕ) → Inv s → accepted M s p ≡ true → independent_at M.dep k (names M s p) ≡ true
      → Exchanged M s k p
  exchanged k s [] i h d = absurd (false≢true d)
  exchanged zero s (a ∷ []) i h d = absurd (false≢true d)
  exchanged zero s (a ∷ b ∷ p) i h d = two-swapped s a b p i h (not-true (M.dep (name_of M s a) (name_of M (M.step s a) b)) d)
  exchanged (suc k) s (a ∷ p) i h d =
      let r : M.ready s a ≡ true = first-ready M s a p h in
      let e = exchanged k (M.step s a) p (L.inv-step s a i r) (rest-accepted M s a p h) d in
      record { taken = both r e.taken; ends = e.ends; named = ap {B = List Name} (λ l. name_of M s a ∷ l) e.named }
