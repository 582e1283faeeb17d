-- The footprints of two steps of different actors clash exactly where the pair verdict calls the two dependent.
-- Assumes nothing but the accepted table.
use mathlib.Core.Path.{◌≡◌, sym, ◌∙◌, ap, ap₂}
use mathlib.Core.Logic.{◌≢◌}
use mathlib.Core.Bool.{Bool, ◌||◌, or_comm}
use mathlib.Core.List.{List}
use Prim.Native.Nat.{ℕ}
use borrow.Author.Tests.{ne_eqb}
use Rattle.table.specs.Promise.{WellFormed}
use Rattle.trace.specs.Machine.{Name}
use Rattle.model.specs.Views.{posts, looks}
use Rattle.model.specs.Step.{action_at}
use Rattle.model.specs.Pair.{competes, post_at, sees, depends}
use Rattle.names.specs.Steps.{Stands}
use Rattle.footprint.specs.Resources.{posted, looked, clash}
use Rattle.footprint.proofs.Clash.{share-symmetric, posts-clash, look-clash}
use Rattle.footprint.proofs.Ranges.{small-post, small-look}

module _ (table : List ℕ) (ok : WellFormed table) (x y : Name) (sx : Stands table x) (sy : Stands table y) where
  pub clash-depends : x.actor ≢ y.actor → clash table x y ≡ depends table x y
  unfolding clash depends
  clash-depends apart =
      ap₂ ◌||◌ (posts-clash (posts (action_at table x)) (posts (action_at table y)) (small-post table ok x sx) (small-post table ok y sy))
      (ap₂ ◌||◌
      (share-symmetric (posted table x) (looked table y)
      ∙ look-clash (post_at table y.actor) (looks (action_at table y)) (posts (action_at table x)) (small-look table ok y sy) (small-post table ok x sx))
      (look-clash (post_at table x.actor) (looks (action_at table x)) (posts (action_at table y)) (small-look table ok x sx) (small-post table ok y sy))
      ∙ or_comm (sees table y x) (sees table x y))
      ∙ sym
      (ap (λ (b : Bool). b || (competes (posts (action_at table x)) (posts (action_at table y)) || (sees table x y || sees table y x)))
      (ne_eqb x.actor y.actor apart))
