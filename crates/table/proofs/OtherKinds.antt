-- In an arm for every other kind the action is of none of the kinds that have arms of their own.
-- Assumes nothing.
use Prim.Native.Nat.{ℕ, zero, suc}
use mathlib.Core.Path.{◌≡◌, ap, subst}
use mathlib.Core.Bool.{not, cond}
use mathlib.Core.List.{List, [], ◌∷◌}
use lib.Dec.{T}
use mir.Val.{has_key}
use types.Run.{OneOf, miss}
use denote.Enum.Declared.{tag_of}
use Rattle.table.specs.declared.Action.{Action}
use Rattle.table.specs.Kinds.{last_kind}
use Rattle.table.specs.contracts.Action.{the_type}

-- the numbers from k on, n of them, but for those given; and so of the kinds
abbrev from : (n k : ℕ) → List ℕ → List ℕ
from zero k apart = []
from (suc n) k apart = cond (has_key apart k) (from n (suc k) apart) (k ∷ from n (suc k) apart)

abbrev pub others : (apart : List ℕ) → List ℕ
others apart = from (suc last_kind) 0 apart

-- the kind of x is among the others, and that of y is not
pub other-kind : (apart : List ℕ) {x : Action} → OneOf (others apart) (tag_of the_type x) → (y : Action)
    → T (not (has_key (others apart) (tag_of the_type y))) → x ≡ y → ⊥
other-kind apart among y not-among e =
    miss (others apart) (tag_of the_type y) not-among (subst (OneOf (others apart)) (ap (tag_of the_type) e) among)
