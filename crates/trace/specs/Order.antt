-- Lists of step names: which names they hold, and in which order.
-- Assumes nothing: these are definitions.
use Rattle.std.specs.Prelude.{ℕ, ◌≡◌, Bool, true, false, ◌&&◌, ◌||◌, List, [], ◌∷◌, eqb}
use Rattle.trace.specs.Machine.{Name}

-- two names are equal when their actors and their positions are
abbrev pub eq_name : Name → Name → Bool
eq_name x y = eqb x.actor y.actor && eqb x.position y.position

-- x is a member of the list
abbrev pub mem : Name → List Name → Bool
mem x [] = false
mem x (y ∷ l) = eq_name x y || mem x l

-- each member of the first is a member of the second
abbrev pub within : List Name → List Name → Bool
within [] v = true
within (x ∷ u) v = mem x v && within u v

-- x stands before y in the list
abbrev pub before : Name → Name → List Name → Bool
before x y [] = false
before x y (z ∷ l) = (eq_name x z && mem y l) || before x y l

-- a list that holds no name twice
abbrev pub Distinct : List Name → Type 0
Distinct [] = Unit {0}
Distinct (x ∷ l) = (mem x l ≡ false) × Distinct l

-- some member passes the test
abbrev pub any : (Name → Bool) → List Name → Bool
any f [] = false
any f (x ∷ l) = f x || any f l

-- an actor has an entry in a schedule
abbrev pub has : List ℕ → ℕ → Bool
has [] a = false
has (b ∷ p) a = eqb a b || has p a
