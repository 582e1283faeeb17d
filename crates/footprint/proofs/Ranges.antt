-- What a step of an accepted table looks at stands in the table, and what it posts and looks at has mailboxes and mutexes below 8.
-- Assumes nothing but the accepted table.
use Prim.Native.Nat.{ℕ, ◌<◌}
use native.Mathlib.Omega.{arith}
use mathlib.Core.Path.{◌≡◌, subst}
use mathlib.Core.Logic.{◌⊎◌, inl, inr}
use mathlib.Core.List.{List, [], ◌∷◌, ◌++◌}
use lib.Dec.{lit<}
use Rattle.table.specs.declared.Action.{Action}
use Rattle.table.specs.declared.Action.TheVariants.{TestAny, WaitAny, MutexTest, MutexWait}
use Rattle.table.specs.declared.Numbers.{Numbers}
use Rattle.table.specs.Format.{mutexes_of}
use Rattle.table.specs.Promise.{WellFormed, Listing, InRange}
use Rattle.trace.specs.Machine.{Name}
use Rattle.model.specs.Site.{name, Side, sends, receives, Port, opposite}
use Rattle.model.specs.Views.{Post, silent, mails, joins, leaves, notes, posts, Look, blind, communications, mutexes, looks, listed}
use Rattle.model.specs.Step.{action_at}
use Rattle.model.specs.Pair.{post_at}
use Rattle.model.proofs.ByKind.{Posting, quiet, sends-to, receives-from, locks, unlocks, writes_down, posting, Looking, blindly, testing, mutex-testing, looking}
use Rattle.names.specs.Steps.{Stands, Each}
use Rattle.names.proofs.Listed.{each-listed, each_map, listed-standing}
use Rattle.footprint.specs.Resources.{resource, side_group, unlock_group, port_resource, posted_to, awaited_by, all_of, looked_at, SmallPost, SmallLook, posted, looked}

-- what a look of an actor names stands in the table
abbrev pub LookStands : List ℕ → ℕ → Look → Type 0
LookStands table a blind = Unit {0}
LookStands table a (communications l) = Each (λ k. Stands table (name a k)) l
LookStands table a (mutexes l) = Each (λ m. m < 8) l

module _ (table : List ℕ) (accepted : WellFormed table) where
  post-small : (a k : ℕ) (x : Action) → InRange table a k x → SmallPost (posts x)
  post-small a k x h = go (posting x)
    where
      in-range : {y : Action} → x ≡ y → InRange table a k y
      in-range e = subst (InRange table a k) e h

      go : Posting x → SmallPost (posts x)
      go (quiet q) = rw q.posts-none tt
      go (sends-to m c e) = rw e (omega (arith, (in-range e).0, accepted.mailboxes-most))
      go (receives-from m c e) = rw e (omega (arith, (in-range e).0, accepted.mailboxes-most))
      go (locks m e) = rw e (omega (arith, in-range e, accepted.mutexes-most))
      go (unlocks m e) = rw e (omega (arith, in-range e, accepted.mutexes-most))
      go (writes_down c e) = rw e tt

  pub small-post : (x : Name) → Stands table x → SmallPost (posts (action_at table x))
  small-post x s = post-small x.actor x.position (action_at table x) (accepted.in-range x.actor x.position s.0 s.1)

  mutexes-small : (l : Numbers) → Listing (λ m. m < mutexes_of table) l → Each (λ m. m < 8) (listed l)
  mutexes-small l h = each_map (λ m lt. omega (arith, lt, accepted.mutexes-most)) (listed l) (each-listed (λ m. m < mutexes_of table) l h)

  look-standing : (x : Name) → Stands table x → (t : Action) → InRange table x.actor x.position t → LookStands table x.actor (looks t)
  look-standing x s t h = go (looking t)
    where
      in-range : {y : Action} → t ≡ y → InRange table x.actor x.position y
      in-range e = subst (InRange table x.actor x.position) e h

      tested : (list : Numbers) (result : ℕ) → (t ≡ TestAny result list) ⊎ (t ≡ WaitAny result list) → LookStands table x.actor (looks t)
      tested list result (inl e) = rw e (listed-standing table x s list (in-range e).1)
      tested list result (inr e) = rw e (listed-standing table x s list (in-range e).1)

      mutex-tested : (list : Numbers) (result : ℕ) → (t ≡ MutexTest result list) ⊎ (t ≡ MutexWait result list) → LookStands table x.actor (looks t)
      mutex-tested list result (inl e) = rw e (mutexes-small list (in-range e).1)
      mutex-tested list result (inr e) = rw e (mutexes-small list (in-range e).1)

      go : Looking t → LookStands table x.actor (looks t)
      go (blindly e) = rw e tt
      go (testing list w) = tested list w.0 w.1
      go (mutex-testing list w) = mutex-tested list w.0 w.1

  pub look-stands : (x : Name) → Stands table x → LookStands table x.actor (looks (action_at table x))
  look-stands x s = look-standing x s (action_at table x) (accepted.in-range x.actor x.position s.0 s.1)

  look-small : (a : ℕ) (y : Look) → LookStands table a y → SmallLook (post_at table a) y
  look-small a blind h = tt
  look-small a (communications l) h = each_map (λ j. small-post (name a j)) l h
  look-small a (mutexes l) h = h

  pub small-look : (x : Name) → Stands table x → SmallLook (post_at table x.actor) (looks (action_at table x))
  small-look x s = look-small x.actor (looks (action_at table x)) (look-stands x s)

-- ---- every resource is one of 96

port-few : (p : Port) → p.mailbox < 8 → port_resource p < 96
port-few p h = omega (arith, h, side-few p.side)
  where
    side-few : (d : Side) → side_group d < 5
    side-few sends = lit< tt
    side-few receives = lit< tt

posted-few : (p : Post) → SmallPost p → Each (λ r. r < 96) (posted_to p)
posted-few silent h = tt
posted-few (mails p) h = (port-few p h, tt)
posted-few (joins m) h = (omega (arith, h), tt)
posted-few (leaves m) h = (omega (arith, h), tt)
posted-few notes h = (lit< tt, tt)

awaited-few : (p : Post) → SmallPost p → Each (λ r. r < 96) (awaited_by p)
awaited-few silent h = tt
awaited-few (mails p) h = (port-few (opposite p) h, tt)
awaited-few (joins m) h = tt
awaited-few (leaves m) h = tt
awaited-few notes h = tt

few-joined : (l m : List ℕ) → Each (λ r. r < 96) l → Each (λ r. r < 96) m → Each (λ r. r < 96) (l ++ m)
few-joined [] m e f = f
few-joined (k ∷ l) m e f = (e.0, few-joined l m e.1 f)

all-few : {P : ℕ → Type 0} (f : ℕ → List ℕ) → ((k : ℕ) → P k → Each (λ r. r < 96) (f k)) → (l : List ℕ) → Each P l → Each (λ r. r < 96) (all_of f l)
all-few f one [] e = tt
all-few f one (k ∷ l) e = few-joined (f k) (all_of f l) (one k e.0) (all-few f one l e.1)

looked-few : (own : ℕ → Post) (y : Look) → SmallLook own y → Each (λ r. r < 96) (looked_at own y)
looked-few own blind h = tt
looked-few own (communications l) h = all-few (λ k. awaited_by (own k)) (λ k s. awaited-few (own k) s) l h
looked-few own (mutexes l) h = all-few (λ m. resource unlock_group m ∷ []) (λ m s. (omega (arith, s), tt)) l h

module _ (table : List ℕ) (accepted : WellFormed table) (x : Name) (s : Stands table x) where
  pub posted-fit : Each (λ r. r < 96) (posted table x)
  posted-fit = posted-few (posts (action_at table x)) (small-post table accepted x s)

  pub looked-fit : Each (λ r. r < 96) (looked table x)
  looked-fit = looked-few (post_at table x.actor) (looks (action_at table x)) (small-look table accepted x s)
