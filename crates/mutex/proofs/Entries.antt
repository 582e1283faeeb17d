-- Lock and Unlock of the model on a queue whose entries are bytes, by the place of the actor's entry.
-- Assumes nothing.
use Rattle.std.proofs.Common.{◌≡◌, refl, sym, ◌∙◌, ap, ℕ, zero, suc, ◌+◌, ◌-◌, ◌/◌, ◌%◌, ◌<◌, ◌≤◌, Bool, true, false, ◌⊎◌, inl, inr, List, [], ◌∷◌, ◌++◌, map, eqb, ltb, length, get_or, set, take, drop, Some, None, arith}
use Rattle.std.specs.List.{position, position_or_len}
use Rattle.std.proofs.lemmas.List.Quantifiers.{position-Some}
use Rattle.std.proofs.lemmas.List.Sums.{fails_before_first}
use borrow.Author.Tests.{eqb-true, ltb-false}
use native.Mathlib.Nat.{le_of_suc-le-suc}
use Prim.Native.Nat.{suc-le-suc}
use Rattle.trace.proofs.Bools.{which}
use Rattle.model.specs.Site.{Queued}
use Rattle.model.specs.Mutex.{join, standing, leave}
use Rattle.model.specs.Depths.{depth_in}
use Rattle.model.proofs.QueuedDepths.{join-own}
use Rattle.state.specs.State.{queued_of}

-- the queue that the bytes hold
abbrev queue_of : List ℕ → List Queued
queue_of l = map queued_of l

-- whether an entry is an actor's
abbrev pub is_of : ℕ → ℕ → Bool
is_of a b = eqb a (b % 8)

-- an actor's entry stands at i, the first that is its
pub record QueuedAt (l : List ℕ) (a i : ℕ) : Type 0 where
  pub inside : i < length l
  pub own : is_of a (get_or l i 0) ≡ true
  pub before : (k : ℕ) → k < i → is_of a (get_or l k 0) ≡ false

-- no entry is the actor's
pub record Absent (l : List ℕ) (a : ℕ) : Type 0 where
  pub each : (k : ℕ) → k < length l → is_of a (get_or l k 0) ≡ false

-- what a search for the actor's entry tells
pub queued-at : (l : List ℕ) (a i : ℕ) → Some i ≡ position (is_of a) l → QueuedAt l a i
queued-at l a i e =
    let at : (i < length l) × (is_of a (get_or l i 0) ≡ true) × ((k : ℕ) → k < i → is_of a (get_or l k 0) ≡ false) = position-Some (is_of a) l i 0 (sym e) in
    record { inside = at.0; own = at.1; before = at.2 }

pub absent : (l : List ℕ) (a : ℕ) → None ≡ position (is_of a) l → Absent l a
absent l a e = record { each = go (which (ltb (position_or_len (is_of a) l) (length l))) }
  where
    go : (ltb (position_or_len (is_of a) l) (length l) ≡ true) ⊎ (ltb (position_or_len (is_of a) l) (length l) ≡ false) → (k : ℕ) → k < length l
        → is_of a (get_or l k 0) ≡ false
    go (inl t) k h = let some : None ≡ Some (position_or_len (is_of a) l) = rw t at e in cc
    go (inr f) k h = fails_before_first (is_of a) l k 0 (omega (arith, ltb-false _ _ f))

-- the same behind the first entry
later : {b : ℕ} {l : List ℕ} {a i : ℕ} → QueuedAt (b ∷ l) a (suc i) → QueuedAt l a i
later q = record { inside = le_of_suc-le-suc q.inside; own = q.own; before = λ k h. q.before (suc k) (suc-le-suc h) }

absent-later : {b : ℕ} {l : List ℕ} {a : ℕ} → Absent (b ∷ l) a → Absent l a
absent-later n = record { each = λ k h. n.each (suc k) (suc-le-suc h) }

entry : (a b d : ℕ) → a ≡ b % 8 → d ≡ b / 8 + 1 → record { actor = a; depth = d } ≡ queued_of b
entry a b d who deep i = record { actor = who i; depth = deep i }

-- an actor that is not queued joins the end
pub join-new : (l : List ℕ) (a : ℕ) → a < 8 → Absent l a → join (queue_of l) a ≡ queue_of (l ++ (a ∷ []))
join-new [] a small n = ap {B = List Queued} (λ x. x ∷ []) (entry a a 1 (omega arith) (omega arith))
join-new (b ∷ l) a small n =
    rw (n.each 0 (omega arith)) (ap {B = List Queued} (λ r. queued_of b ∷ r) (join-new l a small (absent-later n)))

-- one that is not queued leaves nothing
pub leave_none : (l : List ℕ) (a : ℕ) → Absent l a → leave (queue_of l) a ≡ queue_of l
leave_none [] a n = refl
leave_none (b ∷ l) a n = rw (n.each 0 (omega arith)) (ap {B = List Queued} (λ r. queued_of b ∷ r) (leave_none l a (absent-later n)))

-- one that is queued: a Lock adds 8 to its byte
pub join-deeper : (l : List ℕ) (a i : ℕ) → QueuedAt l a i → join (queue_of l) a ≡ queue_of (set l i (get_or l i 0 + 8))
join-deeper [] a i q = absurd (omega arith)
join-deeper (b ∷ l) a zero q =
    let same-actor : a ≡ b % 8 = eqb-true a (b % 8) q.own in
    rw q.own (ap {B = List Queued} (λ x. x ∷ queue_of l) (entry a (b + 8) (suc (b / 8 + 1)) (omega arith) (omega arith)))
join-deeper (b ∷ l) a (suc i) q =
    rw (q.before 0 (omega arith)) (ap {B = List Queued} (λ r. queued_of b ∷ r) (join-deeper l a i (later q)))

-- an Unlock takes 8 off, where there are
pub leave-shallower : (l : List ℕ) (a i : ℕ) → QueuedAt l a i → 8 ≤ get_or l i 0 → leave (queue_of l) a ≡ queue_of (set l i (get_or l i 0 - 8))
leave-shallower [] a i q deep = absurd (omega arith)
leave-shallower (b ∷ l) a zero q deep =
    let same-actor : a ≡ b % 8 = eqb-true a (b % 8) q.own in
    rw q.own
    (one_less (b / 8 + 1 - 1) (omega arith) (queue_of l)
    ∙ ap {B = List Queued} (λ x. x ∷ queue_of l) (entry a (b - 8) (b / 8 + 1 - 1) (omega arith) (omega arith)))
  where
    one_less : (d : ℕ) → d ≡ suc (d - 1) → (r : List Queued) → standing a d r ≡ record { actor = a; depth = d } ∷ r
    one_less d up r = ap (λ (k : ℕ). standing a k r) up ∙ ap {B = List Queued} (λ (k : ℕ). record { actor = a; depth = k } ∷ r) (sym up)
leave-shallower (b ∷ l) a (suc i) q deep =
    rw (q.before 0 (omega arith)) (ap {B = List Queued} (λ r. queued_of b ∷ r) (leave-shallower l a i (later q) deep))

-- where there are none the entry goes
pub leave-last : (l : List ℕ) (a i : ℕ) → QueuedAt l a i → get_or l i 0 < 8 → leave (queue_of l) a ≡ queue_of (take i l ++ drop (suc i) l)
leave-last [] a i q few = absurd (omega arith)
leave-last (b ∷ l) a zero q few =
    let gone : b / 8 + 1 - 1 ≡ 0 = omega arith in
    rw q.own (ap (λ (d : ℕ). standing a d (queue_of l)) gone)
leave-last (b ∷ l) a (suc i) q few =
    rw (q.before 0 (omega arith)) (ap {B = List Queued} (λ r. queued_of b ∷ r) (leave-last l a i (later q) few))

-- the byte is the actor's depth
found-depth : (l : List ℕ) (a i : ℕ) → QueuedAt l a i → depth_in (queue_of l) a ≡ get_or l i 0 / 8 + 1
found-depth [] a i q = absurd (omega arith)
found-depth (b ∷ l) a zero q = rw q.own
found-depth (b ∷ l) a (suc i) q = rw (q.before 0 (omega arith)) (found-depth l a i (later q))

-- where the depth after a Lock is at most 32, there is room for 8 more
pub deeper-room : (l : List ℕ) (a i : ℕ) → QueuedAt l a i → depth_in (join (queue_of l) a) a ≤ 32 → get_or l i 0 + 8 < 256
deeper-room l a i q most = omega (arith, join-own (queue_of l) a, found-depth l a i q)
