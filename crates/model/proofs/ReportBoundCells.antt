-- Every record of a site keeps eight cells.
-- Assumes nothing.
use Prim.Native.Nat.{ℕ}
use mathlib.Core.Path.{◌≡◌, refl, ◌∙◌}
use mathlib.Core.Logic.{◌⊎◌, inl, inr}
use mathlib.Core.Bool.{true, false}
use mathlib.Core.List.{List, [], ◌∷◌}
use lib.Dec.{eqb}
use borrow.Author.Tests.{eqb-true, eqb-false}
use lib.ListN.{length, length-set}
use Rattle.table.specs.declared.Action.{Action}
use Rattle.trace.specs.Schedule.{final}
use Rattle.trace.proofs.Bools.{which}
use Rattle.model.specs.Site.{Site, name, initial}
use Rattle.model.specs.Views.{Look, blind, communications, mutexes, Write, keeps, puts, written, view_of, looks}
use Rattle.model.specs.Local.{Seen, unseen, seen, see, place_seen, pick_up_seen, picked_up, cells_after, local}
use Rattle.model.specs.Step.{action_at, next_action, step}
use Rattle.model.specs.Schedule.{machine, end_state}
use Rattle.model.proofs.Upd.{upd_same}
use Rattle.model.proofs.Ports.{number-test}
use Rattle.model.proofs.Invariant.{others-record}

-- ---- a local step keeps the number of cells

written-length : (w : Write) (given : ℕ) (cells : List ℕ) → length (written w given cells) ≡ length cells
written-length keeps given cells = refl
written-length (puts cell value) given cells = length-set cells cell _

pub pick_up_seen-length : (own : ℕ → Action) (found : Seen) (cells : List ℕ) → length (pick_up_seen own found cells) ≡ length cells
pick_up_seen-length own unseen cells = refl
pick_up_seen-length own (seen place number value) cells = written-length (view_of (own number)).picked value cells

picked_up-length : (own : ℕ → Action) (look : Look) (found : Seen) (cells : List ℕ) → length (picked_up own look found cells) ≡ length cells
picked_up-length own blind found cells = refl
picked_up-length own (communications l) found cells = pick_up_seen-length own found cells
picked_up-length own (mutexes l) found cells = refl

pub cells_after-length : (own : ℕ → Action) (x : Action) (found : Seen) (cells : List ℕ) → length (cells_after own x found cells) ≡ length cells
unfolding cells_after
cells_after-length own x found cells = written-length (view_of x).writes (place_seen found) _ ∙ picked_up-length own (looks x) found cells

-- ---- and so does every step

abbrev pub EightCells : Site → Type 0
EightCells s = (a : ℕ) → length (s.actor a).cells ≡ 8

pub eight-initial : EightCells initial
unfolding initial
eight-initial a = refl

module _ (table : List ℕ) where
  -- the actor's own record after its step
  pub own-record : (s : Site) (a : ℕ)
      → (step table s a).actor a
      ≡ local (λ k. action_at table (name a k)) (next_action table s a) (see s a (looks (next_action table s a))) (s.actor a)
  unfolding step
  own-record s a = upd_same number-test s.actor a _

  pub eight-step : (s : Site) (a : ℕ) → EightCells s → EightCells (step table s a)
  eight-step s a h b = go (which (eqb b a))
    where
      go : (eqb b a ≡ true) ⊎ (eqb b a ≡ false) → length ((step table s a).actor b).cells ≡ 8
      go (inl e) =
          rw (eqb-true b a e, own-record s a)
          (cells_after-length (λ k. action_at table (name a k)) (next_action table s a) (see s a (looks (next_action table s a))) (s.actor a).cells ∙ h a)
      go (inr e) = rw (others-record table s b a (eqb-false b a e)) (h b)

  pub eight-final : (s : Site) (p : List ℕ) → EightCells s → EightCells (final (machine table) s p)
  eight-final s [] h = h
  eight-final s (a ∷ p) h = eight-final (step table s a) p (eight-step s a h)

  pub eight-end : (p : List ℕ) → EightCells (end_state table p)
  eight-end p = eight-final initial p eight-initial
