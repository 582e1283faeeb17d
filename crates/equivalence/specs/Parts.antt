-- What the functions of the same verdict promise one another.
-- Assumes nothing: these are definitions.
use Rattle.std.specs.Prelude.{ℕ, zero, suc, ◌<◌, ◌≤◌, ◌≡◌, Bool, true, false, ◌&&◌, cond, List, eqb, ltb, length, get_or, Option, Some, None, is_none, MatchOption}
use Rattle.trace.specs.Search.{Search, compared_in, has_ended, search}
use Rattle.model.specs.Pair.{depends}
use Rattle.model.specs.Calls.{same, different}
use Rattle.names.specs.InByte.{name_of}
use Rattle.names.specs.Steps.{Stands}
use Rattle.answers.specs.declared.Comparison.{Comparison}
use Rattle.answers.specs.Answers.{comparison_as}

-- the last of the first m places at which the byte stands
abbrev pub last_in : List ℕ → ℕ → ℕ → Option ℕ
last_in bytes zero b = None
last_in bytes (suc m) b = cond (eqb b (get_or bytes m 0)) (Some m) (last_in bytes m b)

-- by each byte, its place among the first m of the second list
pub record Indexed (second : List ℕ) (m : ℕ) (index : List (Option ℕ)) : Type 0 where
  pub long : length index ≡ 256
  pub at : (b : ℕ) → b < 256 → get_or index b None ≡ last_in second m b

-- a name has no place
abbrev pub absent : (index : List (Option ℕ)) → ℕ → Bool
absent index b = is_none (get_or index b None)

-- the place of step i of the first list
abbrev pub place_of : Option ℕ → ℕ
place_of None = 0
place_of (Some p) = p

abbrev pub place_in : (index : List (Option ℕ)) (first : List ℕ) → ℕ → ℕ
place_in index first i = place_of (get_or index (get_or first i 0) None)

-- the steps i and j of the first list are dependent, and have places in the opposite order
abbrev pub crosses : (table first : List ℕ) → (place : ℕ → ℕ) → (i j : ℕ) → Bool
crosses table first place i j = ltb (place j) (place i) && depends table (name_of (get_or first i 0)) (name_of (get_or first j 0))

-- the search through all pairs of the first m steps
abbrev pub search_of : (table first : List ℕ) → (place : ℕ → ℕ) → ℕ → Search
search_of table first place m = search (crosses table first place) m

-- m steps of the table, each with a place, and those of one actor have rising ones
pub record Placed (table first : List ℕ) (index : List (Option ℕ)) (m : ℕ) : Type 0 where
  pub most : m ≤ 256
  pub stand : (i : ℕ) → i < m → Stands table (name_of (get_or first i 0))
  pub there : (i : ℕ) → i < m → absent index (get_or first i 0) ≡ false
  pub own-order : (i j : ℕ) → i < j → j < m → (name_of (get_or first i 0)).actor ≡ (name_of (get_or first j 0)).actor
      → place_in index first i ≤ place_in index first j

-- the first number below n that passes the test
abbrev pub FirstOf : (ℕ → Bool) → ℕ → Option ℕ → Type 0
FirstOf f n r =
    MatchOption r ((k : ℕ) → k < n → f k ≡ false) (λ i. (i < n) × (f i ≡ true) × ((k : ℕ) → k < i → f k ≡ false))

-- a verdict and its number, as a search has them
pub record Found (s : Search) (r : Comparison) : Type 0 where
  pub verdict : (comparison_as r).verdict ≡ cond (has_ended s) different same
  pub counted : (comparison_as r).pairs ≡ compared_in s
