-- By resource, the latest place among some steps that touch it: `posts` among those that post to it, `looks` among those that look at it. 0 where there
-- is none.
-- Assumes nothing: these are definitions.
use Rattle.std.specs.Prelude.{ℕ, ◌<◌, max, ◌≡◌, ◌≢◌, List, [], ◌∷◌, get_or, set, Option, Some, None}
use Rattle.table.specs.declared.Numbers.{Numbers}
use Rattle.table.specs.Promise.{number}
use Rattle.trace.specs.Machine.{Name}
use Rattle.footprint.specs.Resources.{unlock_group, posted, contested, looked}

-- the latest place of some resources
abbrev pub latest_of : List ℕ → List ℕ → ℕ
latest_of latest [] = 0
latest_of latest (r ∷ l) = max (get_or latest r 0) (latest_of latest l)

-- a step with this place touches them too
abbrev pub raised : ℕ → List ℕ → List ℕ → List ℕ
raised place [] latest = latest
raised place (r ∷ l) latest = raised place l (set latest r (max (get_or latest r 0) place))

-- a post to a resource: the latest place of the looks at it and, unless it is an Unlock, of the posts to it; and its own place among the posts
pub record Posted (kind r place : ℕ) (posts looks posts' : List ℕ) (met : ℕ) : Type 0 where
  pub contested-met : kind ≢ unlock_group → met ≡ max (get_or posts r 0) (get_or looks r 0)
  pub released-met : kind ≡ unlock_group → met ≡ get_or looks r 0
  pub raised-there : posts' ≡ set posts r (max (get_or posts r 0) place)

-- a look at some resources: the latest place of the posts to them, and its own place among the looks
pub record Looked (l : List ℕ) (place : ℕ) (posts looks looks' : List ℕ) (r : ℕ) : Type 0 where
  pub met : r ≡ latest_of posts l
  pub looks-raised : looks' ≡ raised place l looks

-- the resource of a listed number, if it has one; and that this is what a closure gives for each of them
abbrev pub one_of : Option ℕ → List ℕ
one_of None = []
one_of (Some r) = r ∷ []

abbrev pub Gives : (given : ℕ → Option ℕ → Type 0) → (ℕ → List ℕ) → Numbers → Type 0
Gives given f list = (i : ℕ) (r : Option ℕ) → i < list.count → given (number list i) r → one_of r ≡ f (number list i)

module _ (table : List ℕ) (x : Name) where
  -- the latest place of the steps that a step must not change places with
  abbrev pub latest_met : (posts looks : List ℕ) → ℕ
  latest_met posts looks = max (latest_of posts (contested table x)) (max (latest_of looks (posted table x)) (latest_of posts (looked table x)))

  -- a step is passed: its answer, and its own place among the others
  pub record Passed (place : ℕ) (posts looks posts' looks' : List ℕ) (r : ℕ) : Type 0 where
    pub met : r ≡ latest_met posts looks
    pub posts-raised : posts' ≡ raised place (posted table x) posts
    pub looks-raised : looks' ≡ raised place (looked table x) looks
