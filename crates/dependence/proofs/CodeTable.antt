-- The table of comparison codes is symmetric and agrees with the five cases: one computed test over its entries.
-- Assumes nothing.
use Prim.Native.Nat.{ℕ}
use mathlib.Core.Path.{◌≡◌, refl}
use mathlib.Core.Bool.{Bool, true, false, ◌&&◌, cond}
use mathlib.Core.List.{List, []}
use lib.ListN.{get_or}
use Rattle.table.specs.declared.Kind.{Kind}
use Rattle.table.specs.Kinds.{kind_number}
use Rattle.trace.proofs.Bools.{and_left, and_right}
use Rattle.actions.proofs.EveryKind.{every_two, at-two}
use Rattle.dependence.specs.declared.Compared.{Compared}
use Rattle.dependence.specs.declared.Compared.TheVariants.{Never}
use Rattle.dependence.specs.Codes.{code_of}
use Rattle.dependence.proofs.SameCode.{same_code, same_code-true}

-- the entry of number m in the row of number n
abbrev entry : List (List Compared) → ℕ → ℕ → Compared
entry codes n m = get_or (get_or codes n []) m Never

-- the test: it is the code of the two kinds, in either order
abbrev agrees : List (List Compared) → Kind → Kind → Bool
agrees codes i j =
    same_code (entry codes (kind_number i) (kind_number j)) (code_of i j) && same_code (entry codes (kind_number i) (kind_number j)) (code_of j i)

abbrev all_agree : List (List Compared) → Bool
all_agree codes = every_two (agrees codes)

-- what a test shows where it passes, so that it may stand where it computes
where-passed : {x y : Compared} (test : Bool) → (test ≡ true → x ≡ y) → x ≡ cond test y x
where-passed true h = h refl
where-passed false h = refl

module _ (i j : Kind) {n m : ℕ} (row : n ≡ kind_number i) (column : m ≡ kind_number j) (codes : List (List Compared)) where
  -- so, in a table that passes the test, the entry of two kinds is their code
  pub straight : entry codes n m ≡ cond (all_agree codes) (code_of i j) (entry codes n m)
  straight = where-passed (all_agree codes) (λ t. rw (row, column) (same_code-true _ _ (and_left _ _ (at-two (agrees codes) t i j))))

  -- and it is the code of the two in the other order
  pub turned : entry codes n m ≡ cond (all_agree codes) (code_of j i) (entry codes n m)
  turned = where-passed (all_agree codes) (λ t. rw (row, column) (same_code-true _ _ (and_right _ _ (at-two (agrees codes) t i j))))
