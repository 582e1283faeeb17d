-- The pair verdict is exactly the cases of `specs/PairCases.antt`, besides two steps of one actor; so it is symmetric.
-- Assumes nothing of the table.
use Prim.Native.Nat.{ℕ}
use mathlib.Core.Path.{◌≡◌, refl, sym, ◌∙◌, ap}
use mathlib.Core.Logic.{◌⊎◌, inl, inr}
use mathlib.Core.Bool.{Bool, true, false, ◌||◌, false≢true}
use mathlib.Core.List.{List, [], ◌∷◌}
use lib.Dec.{eqb}
use borrow.Author.Tests.{eqb-true, eq-eqb}
use Rattle.table.specs.declared.Action.{Action}
use Rattle.table.specs.declared.Action.TheVariants.{Send, Receive, Lock, Note}
use Rattle.table.specs.declared.Numbers.{Numbers}
use Rattle.trace.specs.Machine.{Name}
use Rattle.trace.specs.Order.{has}
use Rattle.trace.proofs.Bools.{which, contrary, is_false, or_left, or_right, or_cases}
use Rattle.model.specs.Site.{Side, sends, receives, Port, opposite, name}
use Rattle.model.specs.Views.{Post, silent, mails, joins, leaves, notes, posts, communications, mutexes, listed}
use Rattle.model.specs.Step.{action_at}
use Rattle.model.specs.Pair.{is_mail, is_join, is_note, competes, answers, any_of, meets, post_at, sees, depends}
use Rattle.model.specs.PairCases.{TestOrWait, MutexTestOrWait, Case, both_send, both-receive, lists-receive, lists-send, both_lock, lists-mutex, both-note, DependentCase, one-actor, straight, turned, PairCases}
use Rattle.model.proofs.Upd.{test-symmetric}
use Rattle.model.proofs.Ports.{number-test, port-test}
use Rattle.model.proofs.ByKind.{Posting, quiet, sends-to, receives-from, locks, unlocks, writes_down, posting, Looking, blindly, testing, mutex-testing, looking, test-looks, mutex-looks}

-- ---- the action of a post

abbrev side-action : Side → ℕ → ℕ → Action
side-action sends mailbox cell = Send mailbox cell
side-action receives mailbox cell = Receive mailbox cell

-- the action on a port
abbrev on : Port → ℕ → Action
on p cell = side-action p.side p.mailbox cell

mail-action : (x : Action) (p : Port) → Posting x → is_mail (posts x) p ≡ true → (cell : ℕ) × (x ≡ on p cell)
mail-action x p (quiet q) h = absurd (false≢true (rw q.posts-none at h))
mail-action x p (sends-to m c e) h = (c, e ∙ ap (λ (q : Port). on q c) (port-test.equal (record { mailbox = m; side = sends }) p (rw e at h)))
mail-action x p (receives-from m c e) h = (c, e ∙ ap (λ (q : Port). on q c) (port-test.equal (record { mailbox = m; side = receives }) p (rw e at h)))
mail-action x p (locks m e) h = absurd (false≢true (rw e at h))
mail-action x p (unlocks m e) h = absurd (false≢true (rw e at h))
mail-action x p (writes_down c e) h = absurd (false≢true (rw e at h))

pub answers-opposite : (p : Port) → answers (mails (opposite p)) p ≡ true
answers-opposite p = rw (port-test.same (opposite p))

pub join-action : (x : Action) (m : ℕ) → Posting x → is_join (posts x) m ≡ true → x ≡ Lock m
join-action x m (quiet q) h = absurd (false≢true (rw q.posts-none at h))
join-action x m (sends-to n c e) h = absurd (false≢true (rw e at h))
join-action x m (receives-from n c e) h = absurd (false≢true (rw e at h))
join-action x m (locks n e) h = e ∙ ap Lock (eqb-true n m (rw e at h))
join-action x m (unlocks n e) h = absurd (false≢true (rw e at h))
join-action x m (writes_down c e) h = absurd (false≢true (rw e at h))

pub note-action : (x : Action) → Posting x → is_note (posts x) ≡ true → (cell : ℕ) × (x ≡ Note cell)
note-action x (quiet q) h = absurd (false≢true (rw q.posts-none at h))
note-action x (sends-to m c e) h = absurd (false≢true (rw e at h))
note-action x (receives-from m c e) h = absurd (false≢true (rw e at h))
note-action x (locks m e) h = absurd (false≢true (rw e at h))
note-action x (unlocks m e) h = absurd (false≢true (rw e at h))
note-action x (writes_down c e) h = (c, e)

-- ---- some number of a list

any_of-some : (f : ℕ → Bool) (l : List ℕ) → any_of f l ≡ true → (k : ℕ) × (has l k ≡ true) × (f k ≡ true)
any_of-some f [] h = absurd (false≢true h)
any_of-some f (x ∷ l) h = go (or_cases (f x) (any_of f l) h) (any_of-some f l)
  where
    go : (f x ≡ true) ⊎ (any_of f l ≡ true) → (any_of f l ≡ true → (k : ℕ) × (has l k ≡ true) × (f k ≡ true))
        → (k : ℕ) × (has (x ∷ l) k ≡ true) × (f k ≡ true)
    go (inl e) rest = (x, or_left (eqb x x) (has l x) (eq-eqb x x refl), e)
    go (inr e) rest = let r = rest e in (r.0, or_right (eqb r.0 x) (has l r.0) r.1, r.2)

any_of-has : (f : ℕ → Bool) (k : ℕ) (l : List ℕ) → has l k ≡ true → f k ≡ true → any_of f l ≡ true
any_of-has f k [] m h = absurd (false≢true m)
any_of-has f k (x ∷ l) m h = go (or_cases (eqb k x) (has l k) m) (λ n. any_of-has f k l n h)
  where
    go : (eqb k x ≡ true) ⊎ (has l k ≡ true) → (has l k ≡ true → any_of f l ≡ true) → any_of f (x ∷ l) ≡ true
    go (inl e) rest = or_left (f x) (any_of f l) (rw (eqb-true k x e) at h)
    go (inr n) rest = or_right (f x) (any_of f l) (rest n)

-- ---- a pair in a case is dependent

module _ (table : List ℕ) (x y : Name) where
  -- the two posts compete
  abbrev compete : Bool
  compete = competes (posts (action_at table x)) (posts (action_at table y))

  -- a listed communication on the side that the other's post pairs with
  lists-sees : (list : Numbers) (k : ℕ) (p : Port) → TestOrWait (action_at table x) list → has (listed list) k ≡ true
      → post_at table x.actor k ≡ mails (opposite p) → posts (action_at table y) ≡ mails p → sees table x y ≡ true
  lists-sees list k p w m own e =
      rw (test-looks (action_at table x) list w, e)
      (any_of-has (λ j. answers (post_at table x.actor j) p) k (listed list) m (ap (λ (t : Post). answers t p) own ∙ answers-opposite p))

  case-tests : Case table x y → (compete ≡ true) ⊎ (sees table x y ≡ true)
  case-tests (both_send mailbox cell other e f) = inl (rw (e, f, port-test.same (record { mailbox = mailbox; side = sends })))
  case-tests (both-receive mailbox cell other e f) = inl (rw (e, f, port-test.same (record { mailbox = mailbox; side = receives })))
  case-tests (lists-receive list k mailbox cell other w m own e) =
      inr (lists-sees list k (record { mailbox = mailbox; side = sends }) w m (ap posts own) (ap posts e))
  case-tests (lists-send list k mailbox cell other w m own e) =
      inr (lists-sees list k (record { mailbox = mailbox; side = receives }) w m (ap posts own) (ap posts e))
  case-tests (both_lock mutex e f) = inl (rw (e, f) (eq-eqb mutex mutex refl))
  case-tests (lists-mutex list mutex w m e) = inr (rw (mutex-looks (action_at table x) list w, e) m)
  case-tests (both-note cell other e f) = inl (rw (e, f))

-- ---- a dependent pair is in a case

module _ (table : List ℕ) (x y : Name) where
  competing : Posting (action_at table x) → competes (posts (action_at table x)) (posts (action_at table y)) ≡ true → Case table x y
  competing (quiet q) h = absurd (false≢true (rw q.posts-none at h))
  competing (sends-to m c e) h =
      let r = mail-action (action_at table y) (record { mailbox = m; side = sends }) (posting (action_at table y)) (rw e at h) in
      both_send m c r.0 e r.1
  competing (receives-from m c e) h =
      let r = mail-action (action_at table y) (record { mailbox = m; side = receives }) (posting (action_at table y)) (rw e at h) in
      both-receive m c r.0 e r.1
  competing (locks m e) h = both_lock m e (join-action (action_at table y) m (posting (action_at table y)) (rw e at h))
  competing (unlocks m e) h = absurd (false≢true (rw e at h))
  competing (writes_down c e) h =
      let r = note-action (action_at table y) (posting (action_at table y)) (rw e at h) in both-note c r.0 e r.1

  -- a listed communication of x's actor that is on a port
  listed-on : (list : Numbers) (p : Port) → any_of (λ k. is_mail (post_at table x.actor k) p) (listed list) ≡ true
      → (k cell : ℕ) × (has (listed list) k ≡ true) × (action_at table (name x.actor k) ≡ on p cell)
  listed-on list p h =
      let r = any_of-some (λ k. is_mail (post_at table x.actor k) p) (listed list) h in
      let own : Action = action_at table (name x.actor r.0) in
      let c = mail-action own p (posting own) r.2 in
      (r.0, c.0, r.1, c.1)

  tests : (list : Numbers) → TestOrWait (action_at table x) list → Posting (action_at table y)
      → meets (post_at table x.actor) (communications (listed list)) (posts (action_at table y)) ≡ true → Case table x y
  tests list w (quiet q) h = absurd (false≢true (rw q.posts-none at h))
  tests list w (sends-to m c e) h =
      let r = listed-on list (record { mailbox = m; side = receives }) (rw e at h) in lists-receive list r.0 m r.1 c w r.2 r.3 e
  tests list w (receives-from m c e) h =
      let r = listed-on list (record { mailbox = m; side = sends }) (rw e at h) in lists-send list r.0 m r.1 c w r.2 r.3 e
  tests list w (locks m e) h = absurd (false≢true (rw e at h))
  tests list w (unlocks m e) h = absurd (false≢true (rw e at h))
  tests list w (writes_down c e) h = absurd (false≢true (rw e at h))

  mutex-tests : (list : Numbers) → MutexTestOrWait (action_at table x) list → Posting (action_at table y)
      → meets (post_at table x.actor) (mutexes (listed list)) (posts (action_at table y)) ≡ true → Case table x y
  mutex-tests list w (quiet q) h = absurd (false≢true (rw q.posts-none at h))
  mutex-tests list w (sends-to m c e) h = absurd (false≢true (rw e at h))
  mutex-tests list w (receives-from m c e) h = absurd (false≢true (rw e at h))
  mutex-tests list w (locks m e) h = absurd (false≢true (rw e at h))
  mutex-tests list w (unlocks m e) h = lists-mutex list m w (rw e at h) e
  mutex-tests list w (writes_down c e) h = absurd (false≢true (rw e at h))

  seeing : Looking (action_at table x) → sees table x y ≡ true → Case table x y
  seeing (blindly e) h = absurd (false≢true (rw e at h))
  seeing (testing list w) h = tests list w (posting (action_at table y)) (rw (test-looks (action_at table x) list w) at h)
  seeing (mutex-testing list w) h = mutex-tests list w (posting (action_at table y)) (rw (mutex-looks (action_at table x) list w) at h)

competes-symmetric : (p q : Post) → competes p q ≡ competes q p
competes-symmetric silent silent = refl
competes-symmetric silent (mails Q) = refl
competes-symmetric silent (joins n) = refl
competes-symmetric silent (leaves n) = refl
competes-symmetric silent notes = refl
competes-symmetric (mails P) silent = refl
competes-symmetric (mails P) (mails Q) = test-symmetric port-test Q P
competes-symmetric (mails P) (joins n) = refl
competes-symmetric (mails P) (leaves n) = refl
competes-symmetric (mails P) notes = refl
competes-symmetric (joins m) silent = refl
competes-symmetric (joins m) (mails Q) = refl
competes-symmetric (joins m) (joins n) = test-symmetric number-test n m
competes-symmetric (joins m) (leaves n) = refl
competes-symmetric (joins m) notes = refl
competes-symmetric (leaves m) silent = refl
competes-symmetric (leaves m) (mails Q) = refl
competes-symmetric (leaves m) (joins n) = refl
competes-symmetric (leaves m) (leaves n) = refl
competes-symmetric (leaves m) notes = refl
competes-symmetric notes silent = refl
competes-symmetric notes (mails Q) = refl
competes-symmetric notes (joins n) = refl
competes-symmetric notes (leaves n) = refl
competes-symmetric notes notes = refl

pub pair-cases : (table : List ℕ) → PairCases table
unfolding depends
pair-cases table x y = (found, given)
  where
    look : (sees table x y ≡ true) ⊎ (sees table y x ≡ true) → DependentCase table x y
    look (inl h) = straight (seeing table x y (looking (action_at table x)) h)
    look (inr h) = turned (seeing table y x (looking (action_at table y)) h)

    meet : (compete table x y ≡ true) ⊎ ((sees table x y || sees table y x) ≡ true) → DependentCase table x y
    meet (inl h) = straight (competing table x y (posting (action_at table x)) h)
    meet (inr h) = look (or_cases (sees table x y) (sees table y x) h)

    split : (eqb x.actor y.actor ≡ true) ⊎ ((compete table x y || (sees table x y || sees table y x)) ≡ true) → DependentCase table x y
    split (inl h) = one-actor (eqb-true x.actor y.actor h)
    split (inr h) = meet (or_cases (compete table x y) (sees table x y || sees table y x) h)

    found : depends table x y ≡ true → DependentCase table x y
    found h = split (or_cases (eqb x.actor y.actor) (compete table x y || (sees table x y || sees table y x)) h)

    tested : (compete table x y ≡ true) ⊎ ((sees table x y || sees table y x) ≡ true) → depends table x y ≡ true
    tested (inl h) = or_right (eqb x.actor y.actor) _ (or_left (compete table x y) _ h)
    tested (inr h) = or_right (eqb x.actor y.actor) _ (or_right (compete table x y) _ h)

    from : (compete table x y ≡ true) ⊎ (sees table x y ≡ true) → depends table x y ≡ true
    from (inl h) = tested (inl h)
    from (inr h) = tested (inr (or_left (sees table x y) (sees table y x) h))

    from-turned : (compete table y x ≡ true) ⊎ (sees table y x ≡ true) → depends table x y ≡ true
    from-turned (inl h) = tested (inl (competes-symmetric (posts (action_at table x)) (posts (action_at table y)) ∙ h))
    from-turned (inr h) = tested (inr (or_right (sees table x y) (sees table y x) h))

    given : DependentCase table x y → depends table x y ≡ true
    given (one-actor e) = or_left (eqb x.actor y.actor) _ (eq-eqb x.actor y.actor e)
    given (straight c) = from (case-tests table x y c)
    given (turned c) = from-turned (case-tests table y x c)

-- ---- hence two laws of the verdict

pub depends-own : (table : List ℕ) (x y : Name) → x.actor ≡ y.actor → depends table x y ≡ true
depends-own table x y e = (pair-cases table x y).1 (one-actor e)

turn : (table : List ℕ) (x y : Name) → DependentCase table x y → DependentCase table y x
turn table x y (one-actor e) = one-actor (sym e)
turn table x y (straight c) = turned c
turn table x y (turned c) = straight c

pub depends-symmetric : (table : List ℕ) (x y : Name) → depends table x y ≡ depends table y x
depends-symmetric table x y = go (which (depends table x y))
  where
    other_way : (z t : Name) → depends table z t ≡ true → depends table t z ≡ true
    other_way z t h = (pair-cases table t z).1 (turn table z t ((pair-cases table z t).0 h))

    go : (depends table x y ≡ true) ⊎ (depends table x y ≡ false) → depends table x y ≡ depends table y x
    go (inl t) = t ∙ sym (other_way x y t)
    go (inr f) = f ∙ sym (is_false (depends table y x) (λ t. contrary (other_way y x t) f))
