-- A step is passed by what its action is: a post that others contest, an Unlock, a look, or neither.
-- Assumes nothing but the accepted table.
use Prim.Native.Nat.{ℕ, max}
use native.Mathlib.Omega.{arith}
use mathlib.Core.Path.{◌≡◌, refl, sym, ◌∙◌, ap, subst}
use mathlib.Core.List.{List, [], ◌∷◌}
use lib.ListN.{get_or, set}
use Rattle.table.specs.declared.Action.{Action}
use Rattle.table.specs.Decode.{action_of}
use Rattle.table.specs.Promise.{WellFormed}
use Rattle.model.specs.Site.{name}
use Rattle.model.specs.Views.{Post, Look, blind, posts, looks}
use Rattle.model.specs.Pair.{post_at}
use Rattle.names.specs.Steps.{Stands}
use Rattle.footprint.specs.Resources.{posted_to, contested_by, looked_at, SmallPost}
use Rattle.footprint.specs.Latest.{latest_of, raised, Passed}
use Rattle.footprint.proofs.Ranges.{small-post}

module _ {table : List ℕ} {a k : ℕ} {y : Action} where
  -- ---- what is known of the action

  pub small-post-as : WellFormed table → Stands table (name a k) → action_of table a k ≡ y → SmallPost (posts y)
  small-post-as ok s e = subst (λ (t : Action). SmallPost (posts t)) e (small-post table ok (name a k) s)

  -- ---- the step is passed

  module _ {place : ℕ} {before after : List ℕ} {sights sights' : List ℕ} {met : ℕ} (e : action_of table a k ≡ y) where
    passed-as : (p : Post) (l : Look) → posts y ≡ p → looks y ≡ l
        → met ≡ max (latest_of before (contested_by p)) (max (latest_of sights (posted_to p)) (latest_of before (looked_at (post_at table a) l)))
        → after ≡ raised place (posted_to p) before → sights' ≡ raised place (looked_at (post_at table a) l) sights
        → Passed table (name a k) place before sights after sights' met
    passed-as p l f g m q r =
        let post : posts (action_of table a k) ≡ p = ap posts e ∙ f in
        let look : looks (action_of table a k) ≡ l = ap looks e ∙ g in
        record {
          met =
              m
              ∙ sym
              (λ i.
              max (latest_of before (contested_by (post i)))
              (max (latest_of sights (posted_to (post i))) (latest_of before (looked_at (post_at table a) (look i)))));
          posts-raised = q ∙ sym (ap (λ (x : Post). raised place (posted_to x) before) post);
          looks-raised = r ∙ sym (ap (λ (x : Look). raised place (looked_at (post_at table a) x) sights) look);
        }

  -- it posts
  module _ {place met r : ℕ} {before after sights : List ℕ} (e : action_of table a k ≡ y) (g : looks y ≡ blind) (f : posted_to (posts y) ≡ r ∷ [])
      (raise : after ≡ set before r (max (get_or before r 0) place)) where
    pub passed-contest : contested_by (posts y) ≡ r ∷ [] → met ≡ max (get_or before r 0) (get_or sights r 0)
        → Passed table (name a k) place before sights after sights met
    passed-contest h m =
        passed-as e (posts y) blind refl g
        (m ∙ flat (get_or before r 0) (get_or sights r 0) ∙ sym (λ i. max (latest_of before (h i)) (max (latest_of sights (f i)) 0)))
        (raise ∙ sym (ap (λ (l : List ℕ). raised place l before) f)) refl
      where
        flat : (x z : ℕ) → max x z ≡ max (max x 0) (max (max z 0) 0)
        flat x z = omega arith

    pub passed-release : contested_by (posts y) ≡ [] → met ≡ get_or sights r 0 → Passed table (name a k) place before sights after sights met
    passed-release h m =
        passed-as e (posts y) blind refl g
        (m ∙ flat (get_or sights r 0) ∙ sym (λ i. max (latest_of before (h i)) (max (latest_of sights (f i)) 0)))
        (raise ∙ sym (ap (λ (l : List ℕ). raised place l before) f)) refl
      where
        flat : (z : ℕ) → z ≡ max 0 (max (max z 0) 0)
        flat z = omega arith
