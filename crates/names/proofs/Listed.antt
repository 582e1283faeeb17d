-- What a step of an accepted table lists: it has at most four places, and the actions listed there stand in the table too.
-- Assumes nothing.
use Prim.Native.Nat.{ℕ, zero, suc, ◌<◌, suc-le-suc, zero-le}
use native.Mathlib.Nat.{le_of_suc-le-suc, not-suc-le-zero}
use native.Mathlib.Omega.{arith}
use mathlib.Core.Path.{◌≡◌, refl, ap}
use mathlib.Core.Bool.{Bool, ◌||◌}
use mathlib.Core.List.{List, [], ◌∷◌}
use lib.Dec.{eqb}
use lib.ListN.{length, get_or, take}
use Rattle.table.specs.declared.Numbers.{Numbers}
use Rattle.table.specs.Promise.{Listing, LowerCommunication, number}
use Rattle.trace.specs.Machine.{Name}
use Rattle.trace.specs.Order.{has}
use Rattle.model.specs.Site.{name}
use Rattle.model.specs.Views.{listed}
use Rattle.model.specs.Pair.{any_of}
use Rattle.names.specs.Steps.{Stands, Each}

-- ---- every number that a list names

each-taken : (P : ℕ → Type 0) (c : ℕ) (l : List ℕ) → ((i : ℕ) → i < c → P (get_or l i 0)) → Each P (take c l)
each-taken P zero l h = tt
each-taken P (suc c) [] h = tt
each-taken P (suc c) (k ∷ l) h = (h zero (suc-le-suc zero-le), each-taken P c l (λ i lt. h (suc i) (suc-le-suc lt)))

-- is right, where each place has a right one
pub each-listed : (P : ℕ → Type 0) (l : Numbers) → Listing P l → Each P (listed l)
each-listed P l h = each-taken P l.count l.all h.right

pub each_map : {P Q : ℕ → Type 0} → ((k : ℕ) → P k → Q k) → (l : List ℕ) → Each P l → Each Q l
each_map f [] e = tt
each_map f (k ∷ l) e = (f k e.0, each_map f l e.1)

each_at : (P : ℕ → Type 0) (c i : ℕ) (l : List ℕ) → Each P (take c l) → i < c → i < length l → P (get_or l i 0)
each_at P zero i l e h k = absurd (not-suc-le-zero h)
each_at P (suc c) i [] e h k = absurd (not-suc-le-zero k)
each_at P (suc c) zero (x ∷ l) e h k = e.0
each_at P (suc c) (suc i) (x ∷ l) e h k = each_at P c i l e.1 (le_of_suc-le-suc h) (le_of_suc-le-suc k)

-- so the number at a place that the list has is right
pub listed_at : (P : ℕ → Type 0) (l : Numbers) (i : ℕ) → Each P (listed l) → i < l.count → i < length l.all → P (number l i)
listed_at P l i e h k = each_at P l.count i l.all e h k

-- a list names a number when some number in it is that one
pub has-any : (l : List ℕ) (m : ℕ) → has l m ≡ any_of (eqb m) l
has-any [] m = refl
has-any (n ∷ l) m = ap (λ (b : Bool). eqb m n || b) (has-any l m)

-- ---- listed actions

module _ (table : List ℕ) (x : Name) (s : Stands table x) where
  -- an action that a step lists stands before the step, so the table has it
  listed-stands : (j : ℕ) → LowerCommunication table x.actor x.position j → Stands table (name x.actor j)
  listed-stands j h = (s.0, omega (arith, s.1, h.0))

  pub listed-standing : (l : Numbers) → Listing (LowerCommunication table x.actor x.position) l → Each (λ j. Stands table (name x.actor j)) (listed l)
  listed-standing l h = each_map listed-stands (listed l) (each-listed (LowerCommunication table x.actor x.position) l h)
