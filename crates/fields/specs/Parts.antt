-- What the checks of one action promise one another.
-- Assumes nothing.
use Rattle.std.specs.Prelude.{ℕ, ◌+◌, ◌<◌, ◌≤◌, ◌≡◌, List, [], ◌∷◌, length, get_or, slice_range}
use Rattle.table.specs.Outcome.{accepted}
use Rattle.table.specs.Format.{mailboxes_of, mutexes_of, kind_at, p_at, q_at, z_at, value_at}
use Rattle.table.specs.Kinds.{actions}
use Rattle.table.specs.Read.{list_fits}
use Rattle.fields.specs.declared.Limits.{Limits}
use Rattle.fields.specs.declared.Row.{Row}

-- the most bytes that a table has: 8 actors with 32 actions each
abbrev pub table_most : ℕ
table_most = 2084

-- an action's eight bytes lie within a file that is no longer than a table
abbrev pub Room : List ℕ → ℕ → Type 0
Room b at = (at + 8 ≤ length b) × (length b ≤ table_most)

-- by kind: what p lies under; what q does where the kind has no list, 0 for a list; and what b4 to b7 as one number are at most
abbrev pub row : (p q value : ℕ) → Row
row p q value = record { p = p; q = q; value = value }

abbrev pub rows_of : (mailboxes mutexes : ℕ) → List Row
rows_of m x =
    row 8 1 4294967295
    ∷ row 8 8 0
    ∷ row 8 8 0
    ∷ row m 8 0
    ∷ row m 8 0
    ∷ row 8 0 0
    ∷ row 8 0 0
    ∷ row x 1 0
    ∷ row x 1 0
    ∷ row 8 0 0
    ∷ row 8 0 0
    ∷ row 8 1 0
    ∷ []

abbrev pub row_of : List ℕ → ℕ → Row
row_of b kind = get_or (rows_of (mailboxes_of b) (mutexes_of b)) kind (row 0 0 0)

-- what the checks of a table's actions go by
pub record LimitsOf (b : List ℕ) (limits : Limits) : Type 0 where
  pub mailboxes : limits.mailboxes ≡ mailboxes_of b
  pub mutexes : limits.mutexes ≡ mutexes_of b
  pub rows : limits.rows ≡ rows_of (mailboxes_of b) (mutexes_of b)

-- the numbers that an action lists, from one to four
pub record Listed (b : List ℕ) (at : ℕ) (list : List ℕ) : Type 0 where
  pub sized : list_fits b at actions ≡ accepted
  pub bytes : list ≡ slice_range b (at + 4) (at + 4 + z_at b at)

-- an action without a list that has nothing wrong
pub record Plain (b : List ℕ) (at : ℕ) : Type 0 where
  pub p-under : p_at b at < (row_of b (kind_at b at)).p
  pub q-under : q_at b at < (row_of b (kind_at b at)).q
  pub z-none : z_at b at ≡ 0
  pub value-most : value_at b at ≤ (row_of b (kind_at b at)).value
