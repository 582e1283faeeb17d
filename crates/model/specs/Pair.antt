-- The pair verdict: which two steps are dependent, by their names and the table alone. That these are document 01's four cases, the
-- fifth of document 02, and steps of one actor, is stated in `PairCases`.
-- Assumes nothing: these are definitions.
use Rattle.std.specs.Prelude.{ℕ, Bool, true, false, ◌||◌, List, [], ◌∷◌, eqb}
use Rattle.trace.specs.Machine.{Name}
use Rattle.trace.specs.Order.{has}
use Rattle.model.specs.Site.{Port, opposite, eq_port, name}
use Rattle.model.specs.Views.{Post, silent, mails, joins, leaves, notes, posts, Look, blind, communications, mutexes, looks}
use Rattle.model.specs.Step.{action_at}

-- what is posted is a communication on this port
abbrev pub is_mail : Post → Port → Bool
is_mail silent q = false
is_mail (mails p) q = eq_port p q
is_mail (joins m) q = false
is_mail (leaves m) q = false
is_mail notes q = false

abbrev pub is_join : Post → ℕ → Bool
is_join silent n = false
is_join (mails p) n = false
is_join (joins m) n = eqb m n
is_join (leaves m) n = false
is_join notes n = false

abbrev pub is_note : Post → Bool
is_note silent = false
is_note (mails p) = false
is_note (joins m) = false
is_note (leaves m) = false
is_note notes = true

-- two posts compete: both on one side of one mailbox, both join one mutex, or both add to the journal
abbrev pub competes : Post → Post → Bool
competes silent y = false
competes (mails p) y = is_mail y p
competes (joins m) y = is_join y m
competes (leaves m) y = false
competes notes y = is_note y

-- what is posted pairs with posts to this port
abbrev pub answers : Post → Port → Bool
answers x p = is_mail x (opposite p)

-- some number in the list passes the test
abbrev pub any_of : (ℕ → Bool) → List ℕ → Bool
any_of f [] = false
any_of f (k ∷ l) = f k || any_of f l

-- a look meets a post: it lists a communication that the post pairs with, or a mutex that the post leaves. `own` says what each action
-- of the looking actor posts
abbrev pub meets : (ℕ → Post) → Look → Post → Bool
meets own blind y = false
meets own (communications l) silent = false
meets own (communications l) (mails p) = any_of (λ k. answers (own k) p) l
meets own (communications l) (joins m) = false
meets own (communications l) (leaves m) = false
meets own (communications l) notes = false
meets own (mutexes l) silent = false
meets own (mutexes l) (mails p) = false
meets own (mutexes l) (joins m) = false
meets own (mutexes l) (leaves m) = has l m
meets own (mutexes l) notes = false

module _ (table : List ℕ) where
  -- what an action of an actor posts
  abbrev pub post_at : ℕ → ℕ → Post
  post_at a k = posts (action_at table (name a k))

  -- the look of one step meets the post of the other
  abbrev pub sees : Name → Name → Bool
  sees x y = meets (post_at x.actor) (looks (action_at table x)) (posts (action_at table y))

  -- "pair verdict": steps of one actor, posts that compete, or a look that meets the other's post
  unfoldable pub depends : Name → Name → Bool
  depends x y =
      eqb x.actor y.actor || (competes (posts (action_at table x)) (posts (action_at table y)) || (sees x y || sees y x))
