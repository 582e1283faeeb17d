-- A step's footprint: the resources that it posts to and those that it looks at, as numbers. That two steps of different actors are dependent exactly
-- where their footprints clash is `proofs/ClashDepends`.
-- Assumes nothing: these are definitions.
use Rattle.std.specs.Prelude.{ℕ, ◌+◌, ◌*◌, ◌<◌, Bool, ◌||◌, List, [], ◌∷◌, ◌++◌, eqb}
use Rattle.trace.specs.Machine.{Name}
use Rattle.trace.specs.Order.{has}
use Rattle.model.specs.Site.{Side, sends, receives, Port, opposite}
use Rattle.model.specs.Views.{Post, silent, mails, joins, leaves, notes, posts, Look, blind, communications, mutexes, looks}
use Rattle.model.specs.Step.{action_at}
use Rattle.model.specs.Pair.{any_of, post_at}
use Rattle.names.specs.Steps.{Each}

-- a resource: one of a group's eight, for a mailbox or a mutex
abbrev pub resource : (group number : ℕ) → ℕ
resource group number = 8 * group + number

-- the groups, by the kind that posts to them: the two sides of the mailboxes, the mutexes as locked and as unlocked, and the journal
abbrev pub side_group : Side → ℕ
side_group sends = 3
side_group receives = 4

abbrev pub lock_group : ℕ
lock_group = 7

abbrev pub unlock_group : ℕ
unlock_group = 8

abbrev pub journal_group : ℕ
journal_group = 11

-- whether a kind posts to a mailbox or a mutex, so that its p is the resource's number
abbrev pub numbered : ℕ → Bool
numbered kind = eqb kind 3 || (eqb kind 4 || (eqb kind 7 || eqb kind 8))

abbrev pub port_resource : Port → ℕ
port_resource p = resource (side_group p.side) p.mailbox

-- what a post is on
abbrev pub posted_to : Post → List ℕ
posted_to silent = []
posted_to (mails p) = port_resource p ∷ []
posted_to (joins m) = resource lock_group m ∷ []
posted_to (leaves m) = resource unlock_group m ∷ []
posted_to notes = resource journal_group 0 ∷ []

-- the same, where two posts on it are dependent: all but an Unlock
abbrev pub contested_by : Post → List ℕ
contested_by silent = []
contested_by (mails p) = port_resource p ∷ []
contested_by (joins m) = resource lock_group m ∷ []
contested_by (leaves m) = []
contested_by notes = resource journal_group 0 ∷ []

-- what a listed communication awaits: a post to the other side of its mailbox
abbrev pub awaited_by : Post → List ℕ
awaited_by silent = []
awaited_by (mails p) = port_resource (opposite p) ∷ []
awaited_by (joins m) = []
awaited_by (leaves m) = []
awaited_by notes = []

-- the resources of all numbers in a list
abbrev pub all_of : (ℕ → List ℕ) → List ℕ → List ℕ
all_of f [] = []
all_of f (k ∷ l) = f k ++ all_of f l

-- what a look is at; `own` says what each action of the looking actor posts
abbrev pub looked_at : (ℕ → Post) → Look → List ℕ
looked_at own blind = []
looked_at own (communications l) = all_of (λ k. awaited_by (own k)) l
looked_at own (mutexes l) = all_of (λ m. resource unlock_group m ∷ []) l

-- two lists have a number in common
abbrev pub share : List ℕ → List ℕ → Bool
share l m = any_of (has m) l

-- ---- mailboxes and mutexes below 8, so that no resource leaves its group

abbrev pub SmallPost : Post → Type 0
SmallPost silent = Unit {0}
SmallPost (mails p) = p.mailbox < 8
SmallPost (joins m) = m < 8
SmallPost (leaves m) = m < 8
SmallPost notes = Unit {0}

abbrev pub SmallLook : (ℕ → Post) → Look → Type 0
SmallLook own blind = Unit {0}
SmallLook own (communications l) = Each (λ k. SmallPost (own k)) l
SmallLook own (mutexes l) = Each (λ m. m < 8) l

-- a post to neither a mailbox nor a mutex
abbrev pub Unnumbered : Post → Type 0
Unnumbered silent = Unit {0}
Unnumbered (mails p) = ⊥
Unnumbered (joins m) = ⊥
Unnumbered (leaves m) = ⊥
Unnumbered notes = Unit {0}

-- ---- a step of a table

module _ (table : List ℕ) where
  abbrev pub posted : Name → List ℕ
  posted x = posted_to (posts (action_at table x))

  abbrev pub contested : Name → List ℕ
  contested x = contested_by (posts (action_at table x))

  abbrev pub looked : Name → List ℕ
  looked x = looked_at (post_at table x.actor) (looks (action_at table x))

  -- two steps post to one resource that both contest, or one posts to what the other looks at
  unfoldable pub clash : Name → Name → Bool
  clash x y = share (contested x) (posted y) || (share (posted x) (looked y) || share (looked x) (posted y))
