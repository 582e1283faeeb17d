-- Posts contest a resource exactly where they compete, and a look is at a resource of a post exactly where it meets the post.
-- Assumes only that mailboxes and mutexes are below 8.
use Prim.Native.Nat.{ℕ, ◌<◌}
use mathlib.Core.Path.{◌≡◌, refl, sym, ◌∙◌, ap, ap₂}
use mathlib.Core.Bool.{Bool, false, ◌||◌}
use mathlib.Core.List.{List, [], ◌∷◌, ◌++◌}
use lib.Dec.{eqb, lit<}
use Rattle.trace.specs.Order.{has}
use Rattle.trace.proofs.Bools.{or-regroup, or-crosswise}
use Rattle.model.specs.Site.{Side, sends, receives, Port, opposite}
use Rattle.model.specs.Views.{Post, silent, mails, joins, leaves, notes, Look, blind, communications, mutexes}
use Rattle.model.specs.Pair.{competes, answers, any_of, meets}
use Rattle.model.proofs.Upd.{test-symmetric}
use Rattle.model.proofs.Ports.{number-test, port-test}
use Rattle.names.specs.Steps.{Each}
use Rattle.names.proofs.Listed.{has-any}
use Rattle.footprint.specs.Resources.{resource, side_group, lock_group, journal_group, unlock_group, port_resource, posted_to, contested_by, awaited_by, all_of, looked_at, share, SmallPost, SmallLook}
use Rattle.footprint.proofs.Groups.{single-test, ports-test, port-other, other-port, opposite-test}

-- ---- no side's group is a mutex's or the journal's

lock-apart : (d : Side) → eqb (side_group d) lock_group ≡ false
lock-apart sends = refl
lock-apart receives = refl

unlock-apart : (d : Side) → eqb (side_group d) unlock_group ≡ false
unlock-apart sends = refl
unlock-apart receives = refl

journal-apart : (d : Side) → eqb (side_group d) journal_group ≡ false
journal-apart sends = refl
journal-apart receives = refl

apart-lock : (d : Side) → eqb lock_group (side_group d) ≡ false
apart-lock sends = refl
apart-lock receives = refl

apart-unlock : (d : Side) → eqb unlock_group (side_group d) ≡ false
apart-unlock sends = refl
apart-unlock receives = refl

apart-journal : (d : Side) → eqb journal_group (side_group d) ≡ false
apart-journal sends = refl
apart-journal receives = refl

none-shared : (l : List ℕ) → share l [] ≡ false
none-shared [] = refl
none-shared (r ∷ l) = none-shared l

any-either : (f g : ℕ → Bool) (l : List ℕ) → any_of (λ r. f r || g r) l ≡ (any_of f l || any_of g l)
any-either f g [] = refl
any-either f g (r ∷ l) = ap (λ (b : Bool). (f r || g r) || b) (any-either f g l) ∙ or-crosswise (f r) (g r) (any_of f l) (any_of g l)

pub share-symmetric : (l m : List ℕ) → share l m ≡ share m l
share-symmetric [] m = sym (none-shared m)
share-symmetric (r ∷ l) m =
    ap₂ ◌||◌ (has-any m r ∙ any-turned m) (share-symmetric l m) ∙ sym (any-either (λ s. eqb s r) (has l) m)
  where
    any-turned : (m : List ℕ) → any_of (eqb r) m ≡ any_of (λ s. eqb s r) m
    any-turned [] = refl
    any-turned (s ∷ m) = ap₂ ◌||◌ (test-symmetric number-test r s) (any-turned m)

-- ---- two posts

pub posts-clash : (p q : Post) → SmallPost p → SmallPost q → share (contested_by p) (posted_to q) ≡ competes p q
posts-clash silent q h k = refl
posts-clash (mails p) silent h k = refl
posts-clash (mails p) (mails q) h k = ports-test p q h k ∙ test-symmetric port-test p q
posts-clash (mails p) (joins n) h k = port-other lock_group lock-apart p n h k
posts-clash (mails p) (leaves n) h k = port-other unlock_group unlock-apart p n h k
posts-clash (mails p) notes h k = port-other journal_group journal-apart p 0 h (lit< tt)
posts-clash (joins m) silent h k = refl
posts-clash (joins m) (mails q) h k = other-port lock_group apart-lock m q h k
posts-clash (joins m) (joins n) h k = single-test lock_group m lock_group n h k ∙ test-symmetric number-test m n
posts-clash (joins m) (leaves n) h k = single-test lock_group m unlock_group n h k
posts-clash (joins m) notes h k = single-test lock_group m journal_group 0 h (lit< tt)
posts-clash (leaves m) q h k = refl
posts-clash notes silent h k = refl
posts-clash notes (mails q) h k = other-port journal_group apart-journal 0 q (lit< tt) k
posts-clash notes (joins n) h k = single-test journal_group 0 lock_group n (lit< tt) k
posts-clash notes (leaves n) h k = single-test journal_group 0 unlock_group n (lit< tt) k
posts-clash notes notes h k = refl

-- ---- a look and a post

share-joined : (l l' m : List ℕ) → share (l ++ l') m ≡ (share l m || share l' m)
share-joined [] l' m = refl
share-joined (r ∷ l) l' m = ap (λ (b : Bool). has m r || b) (share-joined l l' m) ∙ or-regroup (has m r) (share l m) (share l' m)

-- the resources of a list are shared where those of some number in it are
all_share : {P : ℕ → Type 0} (f : ℕ → List ℕ) (g : ℕ → Bool) (m : List ℕ) → ((k : ℕ) → P k → share (f k) m ≡ g k)
    → (l : List ℕ) → Each P l → share (all_of f l) m ≡ any_of g l
all_share f g m one [] e = refl
all_share f g m one (k ∷ l) e = share-joined (f k) (all_of f l) m ∙ ap₂ ◌||◌ (one k e.0) (all_share f g m one l e.1)

never : (l : List ℕ) → any_of (λ k. false) l ≡ false
never [] = refl
never (k ∷ l) = never l

none-share : {P : ℕ → Type 0} (f : ℕ → List ℕ) (m : List ℕ) → ((k : ℕ) → P k → share (f k) m ≡ false)
    → (l : List ℕ) → Each P l → share (all_of f l) m ≡ false
none-share f m one l e = all_share f (λ k. false) m one l e ∙ never l

awaits-port : (r : Post) (q : Port) → q.mailbox < 8 → SmallPost r → share (awaited_by r) (port_resource q ∷ []) ≡ answers r q
awaits-port silent q k h = refl
awaits-port (mails r) q k h = ports-test (opposite r) q h k ∙ opposite-test r q
awaits-port (joins m) q k h = refl
awaits-port (leaves m) q k h = refl
awaits-port notes q k h = refl

awaits-other : (g : ℕ) → ((d : Side) → eqb (side_group d) g ≡ false) → (n : ℕ) → n < 8 → (r : Post) → SmallPost r
    → share (awaited_by r) (resource g n ∷ []) ≡ false
awaits-other g apart n k silent h = refl
awaits-other g apart n k (mails r) h = port-other g apart (opposite r) n h k
awaits-other g apart n k (joins m) h = refl
awaits-other g apart n k (leaves m) h = refl
awaits-other g apart n k notes h = refl

pub look-clash : (own : ℕ → Post) (x : Look) (q : Post) → SmallLook own x → SmallPost q → share (looked_at own x) (posted_to q) ≡ meets own x q
look-clash own blind q e k = refl
look-clash own (communications l) silent e k = none-shared (looked_at own (communications l))
look-clash own (communications l) (mails q) e k =
    all_share (λ j. awaited_by (own j)) (λ j. answers (own j) q) (port_resource q ∷ []) (λ j h. awaits-port (own j) q k h) l e
look-clash own (communications l) (joins n) e k =
    none-share (λ j. awaited_by (own j)) (resource lock_group n ∷ []) (λ j h. awaits-other lock_group lock-apart n k (own j) h) l e
look-clash own (communications l) (leaves n) e k =
    none-share (λ j. awaited_by (own j)) (resource unlock_group n ∷ []) (λ j h. awaits-other unlock_group unlock-apart n k (own j) h) l e
look-clash own (communications l) notes e k =
    none-share (λ j. awaited_by (own j)) (resource journal_group 0 ∷ []) (λ j h. awaits-other journal_group journal-apart 0 (lit< tt) (own j) h) l e
look-clash own (mutexes l) silent e k = none-shared (looked_at own (mutexes l))
look-clash own (mutexes l) (mails q) e k =
    none-share (λ m. resource unlock_group m ∷ []) (port_resource q ∷ []) (λ m h. other-port unlock_group apart-unlock m q h k) l e
look-clash own (mutexes l) (joins n) e k =
    none-share (λ m. resource unlock_group m ∷ []) (resource lock_group n ∷ []) (λ m h. single-test unlock_group m lock_group n h k) l e
look-clash own (mutexes l) (leaves n) e k =
    all_share (λ m. resource unlock_group m ∷ []) (eqb n) (resource unlock_group n ∷ [])
    (λ m h. single-test unlock_group m unlock_group n h k ∙ test-symmetric number-test m n) l e
    ∙ sym (has-any l n)
look-clash own (mutexes l) notes e k =
    none-share (λ m. resource unlock_group m ∷ []) (resource journal_group 0 ∷ []) (λ m h. single-test unlock_group m journal_group 0 h (lit< tt)) l e
