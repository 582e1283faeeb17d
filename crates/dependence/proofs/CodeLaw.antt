-- The pair verdict of two steps of different actors is what the code of their kinds compares, the higher kind first. That the code is the one that
-- the two ask for, and the only one, is one computed test over every two kinds.
-- Assumes nothing.
use Prim.Native.Nat.{ℕ, ◌≤◌}
use mathlib.Core.Path.{◌≡◌, refl, sym, ◌∙◌}
use mathlib.Core.Logic.{◌⊎◌, inl, inr, ◌↔◌}
use mathlib.Core.Bool.{Bool, true, ◌&&◌, ◌||◌, or-false}
use mathlib.Core.List.{List}
use lib.Dec.{ltb}
use borrow.Author.Tests.{le-ltb, ne_eqb}
use Rattle.table.specs.declared.Action.{Action}
use Rattle.table.specs.declared.Kind.{Kind}
use Rattle.table.specs.Kinds.{kind_number}
use Rattle.table.specs.Decode.{action_of}
use Rattle.trace.specs.Machine.{Name}
use Rattle.trace.proofs.Bools.{and_left, and_right, or_cases}
use Rattle.model.specs.Site.{name}
use Rattle.model.specs.Views.{posts, looks}
use Rattle.model.specs.Step.{action_at}
use Rattle.model.specs.Pair.{competes, meets, depends}
use Rattle.model.specs.PairCases.{DependentCase}
use Rattle.model.proofs.PairCases.{pair-cases}
use Rattle.actions.specs.Fields.{kind_of, target_of, list_of, post_by, look_by}
use Rattle.actions.proofs.ByKind.{posts-by, looks-by}
use Rattle.actions.proofs.EveryKind.{every_two, at-two}
use Rattle.dependence.specs.declared.Compared.{Compared}
use Rattle.dependence.specs.declared.Compared.TheVariants.{Never}
use Rattle.dependence.specs.Codes.{code_of, comparison}
use Rattle.dependence.proofs.SameCode.{same_code, same_code-true}
use Rattle.dependence.proofs.Asked.{of_posts, of_look, competing, meeting}

-- ---- the test

-- of the codes that are asked for by the two posts, by the first one's look at the second one's post, and by the second one's look at the first
-- one's post, this is the only one
abbrev only : (code posted looked back : Compared) → Bool
only code posted looked back =
    same_code back Never && ((same_code posted code && same_code looked Never) || (same_code posted Never && same_code looked code))

-- of an action of kind i, on m, that lists l, and one of kind j, on n, that lists r: the first has the lower kind, or their code is the only one
abbrev asked : (m n : ℕ) (l r : List ℕ) → Kind → Kind → Bool
asked m n l r i j =
    ltb (kind_number i) (kind_number j)
    || only (code_of i j) (of_posts (post_by i m) (post_by j n)) (of_look (look_by i l) (post_by j n)) (of_look (look_by j r) (post_by i m))

all_asked : (m n : ℕ) (l r : List ℕ) → every_two (asked m n l r) ≡ true
unfolding code_of
all_asked m n l r = refl

-- ---- what it says of two actions, of which the second has no higher kind

module _ (own other : ℕ → Action) (x y : Action) (order : kind_number (kind_of y) ≤ kind_number (kind_of x)) where
  abbrev code : Compared
  code = code_of (kind_of x) (kind_of y)

  asked-at : only code (of_posts (posts x) (posts y)) (of_look (looks x) (posts y)) (of_look (looks y) (posts x)) ≡ true
  asked-at =
      let test = at-two (asked (target_of x) (target_of y) (list_of x) (list_of y)) (all_asked (target_of x) (target_of y) (list_of x) (list_of y))
      (kind_of x) (kind_of y) in
      (λ t. only code (of_posts (posts-by x t) (posts-by y t)) (of_look (looks-by x t) (posts-by y t)) (of_look (looks-by y t) (posts-by x t)))
      ∙ (rw (le-ltb (kind_number (kind_of x)) (kind_number (kind_of y)) order) at test)

  -- what a code compares, of the two in this order and in the other
  abbrev here : Compared → Bool
  here c = comparison c own x y

  abbrev there : Compared → Bool
  there c = comparison c other y x

  -- where the others are `Never`, that is all that is compared
  compared : (posted looked back : Compared) → only code posted looked back ≡ true → (here posted || (here looked || there back)) ≡ here code
  compared posted looked back t =
      go (or_cases (same_code posted code && same_code looked Never) (same_code posted Never && same_code looked code) (and_right (same_code back Never) _ t))
    where
      none : back ≡ Never
      none = same_code-true back Never (and_left (same_code back Never) _ t)

      go : ((same_code posted code && same_code looked Never) ≡ true) ⊎ ((same_code posted Never && same_code looked code) ≡ true)
          → (here posted || (here looked || there back)) ≡ here code
      go (inl h) =
          rw (none, same_code-true posted code (and_left (same_code posted code) _ h), same_code-true looked Never (and_right (same_code posted code) _ h))
          (or-false (here code))
      go (inr h) =
          rw (none, same_code-true posted Never (and_left (same_code posted Never) _ h), same_code-true looked code (and_right (same_code posted Never) _ h))
          (or-false (here code))

  actions-law : (competes (posts x) (posts y) || (meets (λ k. posts (own k)) (looks x) (posts y) || meets (λ k. posts (other k)) (looks y) (posts x)))
      ≡ comparison code own x y
  actions-law =
      (λ t.
      competing own (list_of x) (posts x) (posts y) t
      || (meeting own (target_of x) (looks x) (posts y) t || meeting other (target_of y) (looks y) (posts x) t))
      ∙ compared (of_posts (posts x) (posts y)) (of_look (looks x) (posts y)) (of_look (looks y) (posts x)) asked-at

-- ---- the law

-- of two steps of different actors, of which the second has no higher kind
module _ (table : List ℕ) (x y : Name) (apart : x.actor ≡ y.actor → ⊥) (order : kind_number (kind_of (action_at table y)) ≤ kind_number (kind_of (action_at table x))) where
  abbrev told_by_code : Bool
  told_by_code = comparison (code_of (kind_of (action_at table x)) (kind_of (action_at table y))) (action_of table x.actor) (action_at table x) (action_at table y)

  pub by_code : depends table x y ≡ told_by_code
  unfolding depends
  by_code =
      rw (ne_eqb x.actor y.actor apart) (actions-law (action_of table x.actor) (action_of table y.actor) (action_at table x) (action_at table y) order)

  -- so what their code compares is exactly the five cases
  pub by-code-cases : (told_by_code ≡ true) ↔ DependentCase table x y
  by-code-cases = (λ t. (pair-cases table x y).0 (by_code ∙ t), λ d. sym by_code ∙ (pair-cases table x y).1 d)

-- the verdict from what was looked up
pub looked-up : (table : List ℕ) (a k b l : ℕ) (x y : Action) (i j : Kind) (code : Compared)
    → x ≡ action_of table a k → y ≡ action_of table b l → i ≡ kind_of x → j ≡ kind_of y → code ≡ code_of i j → (a ≡ b → ⊥) → kind_number j ≤ kind_number i
    → (r : Bool) → r ≡ comparison code (action_of table a) x y → r ≡ depends table (name a k) (name b l)
looked-up table a k b l x y i j code first second row column found apart h r e =
    let order : kind_number (kind_of (action_of table b l)) ≤ kind_number (kind_of (action_of table a k)) = rw (row, column, first, second) at h in
    (rw (found, row, column, first, second) at e) ∙ sym (by_code table (name a k) (name b l) apart order)
