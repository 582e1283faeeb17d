-- How many pairs of steps the same verdict compares (document 02, W6): the search through the pairs of entries of the first schedule for one that is
-- dependent and that the second runs in the opposite order.
-- Assumes nothing: these are definitions.
use Rattle.std.specs.Prelude.{ℕ, zero, suc, Bool, true, false, ◌&&◌, cond, List, length, get_or}
use Rattle.trace.specs.Machine.{Machine, Name}
use Rattle.trace.specs.Schedule.{names}
use Rattle.trace.specs.Order.{before}
use Rattle.trace.specs.Same.{same_steps}

-- how a search stands: it is going, with so many pairs compared; or it has ended, with so many, that pair included
pub data Search : Type 0 where
  going ended : (compared : ℕ) → Search

abbrev pub compared_in : Search → ℕ
compared_in (going n) = n
compared_in (ended n) = n

abbrev pub has_ended : Search → Bool
has_ended (going n) = false
has_ended (ended n) = true

-- one pair more is compared, where the search is still going: an opposed one ends it
abbrev pub compare : Bool → Search → Search
compare opposed (going n) = cond opposed (ended (suc n)) (going (suc n))
compare opposed (ended n) = ended n

module _ (opposed : ℕ → ℕ → Bool) where
  -- "then rising i": entry j has been compared with the entries before i, the pair (i − 1, j) last
  abbrev pub search_row : (j i : ℕ) → Search → Search
  search_row j zero s = s
  search_row j (suc i) s = compare (opposed i j) (search_row j i s)

  -- "by rising j": each entry before j has been compared with all before it, the entry j − 1 last
  abbrev pub search : ℕ → Search
  search zero = going 0
  search (suc j) = search_row j j (search j)

-- entry k of a list of step names, of which the list has more than k
abbrev pub unnamed : Name
unnamed = record { actor = 0; position = 0 }

abbrev pub entry : List Name → ℕ → Name
entry u k = get_or u k unnamed

-- entries i and j of the first list are dependent, and the second holds them in the opposite order
abbrev pub opposed : (Name → Name → Bool) → (u v : List Name) → ℕ → ℕ → Bool
opposed dep u v i j = dep (entry u i) (entry u j) && before (entry u j) (entry u i) v

module _ (M : Machine) (s : M.State) (p q : List ℕ) where
  -- the same of the steps that two schedules run
  abbrev pub opposed_in : ℕ → ℕ → Bool
  opposed_in = opposed M.dep (names M s p) (names M s q)

  -- the pairs compared: "0 when lengths differ or the two did not run the same steps"
  unfoldable pub pairs_compared : ℕ
  pairs_compared = cond (same_steps M s p q) (compared_in (search opposed_in (length p))) 0
