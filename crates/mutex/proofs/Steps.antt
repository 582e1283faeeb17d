-- Lock and Unlock in the arrays: the model's queues after the step, in which the queues' room is kept.
-- Assumes nothing.
use Prim.Native.Nat.{ℕ, suc, ◌+◌, ◌-◌, ◌*◌, ◌<◌, ◌≤◌}
use native.Mathlib.Omega.{arith}
use mathlib.Core.Path.{◌≡◌, ◌∙◌, ap, ap₂, sym, subst}
use mathlib.Core.List.{List, [], ◌∷◌, ◌++◌, map}
use lib.Dec.{eqb}
use lib.ListN.{length, get_or, take, drop, set, length-set, length-append, length-map}
use lib.Seq.{get_or-set_same, get_or-set_other, get_or-take, get_or-drop, take-take, take-add, drop-drop, take-set-le, take-set-lt, drop-set-lt, drop-set-add}
use Rattle.std.proofs.Common.{Some, None}
use Rattle.std.specs.List.{position, copy_within}
use Rattle.std.proofs.lemmas.List.{drop-take}
use Rattle.model.specs.Site.{Queued, upd}
use Rattle.model.specs.Mutex.{join, leave}
use Rattle.model.specs.Depths.{depth_in}
use Rattle.state.specs.State.{queued_of, entries_in, queues_of}
use Rattle.state.specs.Rooms.{size_in, QueueRoom}
use Rattle.state.proofs.Stored.{stored}
use Rattle.model.proofs.Upd.{upd-self}
use Rattle.model.proofs.Ports.{number-test}
use Rattle.state.proofs.Queued.{entries-length}
use Rattle.mutex.proofs.Queues.{part-before, part-behind, elem-before, changed, room-kept}
use Rattle.mutex.proofs.Entries.{is_of, QueuedAt, Absent, queued-at, absent, join-new, join-deeper, leave_none, leave-shallower, leave-last, deeper-room}
use Rattle.mutex.proofs.Moved.{MovedUp, moved-up}

-- the queues are the model's with queue m changed, and have room
abbrev pub Becomes : (queues after : List ℕ) → ℕ → List Queued → Type 0
Becomes queues after m q = (queues_of after ≡ upd eqb (queues_of queues) m q) × QueueRoom after

module _ (queues : List ℕ) (m a : ℕ) (room : QueueRoom queues) (known : m < 8) where
  abbrev at : ℕ
  at = 9 * m + 1

  -- a length and entries are stored in the mutex's nine bytes
  becomes : (after : List ℕ) (n : ℕ) (l : List ℕ) → length after ≡ 72 → n ≤ 8 → take (9 * m) after ≡ take (9 * m) queues
      → drop (9 * m + 9) after ≡ drop (9 * m + 9) queues → take n (drop at after) ≡ l → Becomes queues (set after (9 * m) n) m (map queued_of l)
  becomes after n l long short before behind is =
      let first : take (9 * m) (set after (9 * m) n) ≡ take (9 * m) queues = take-set-le (9 * m) after (9 * m) n (omega arith) ∙ before in
      let last : drop (9 * m + 9) (set after (9 * m) n) ≡ drop (9 * m + 9) queues =
      drop-set-lt (9 * m + 9) after (9 * m) n (omega arith) ∙ behind in
      let size : size_in (set after (9 * m) n) m ≡ n = get_or-set_same after (9 * m) n 0 (omega arith) in (
        changed queues m room known (set after (9 * m) n) first last n size l (ap (take n) (drop-set-lt at after (9 * m) n (omega arith)) ∙ is),
        room-kept queues m room known (set after (9 * m) n) first last n size (length-set after (9 * m) n ∙ long) short,
      )

  module _ (n : ℕ) (counts : n ≡ size_in queues m) where
    -- the bytes of the queue's entries
    abbrev bytes : List ℕ
    bytes = take n (drop at queues)

    entries-here : bytes ≡ entries_in queues m
    entries-here = ap (λ (k : ℕ). take k (drop at queues)) counts

    bytes-length : length bytes ≡ n
    bytes-length = ap length entries-here ∙ entries-length queues m room known ∙ sym counts

    -- what the model's Lock or Unlock makes of the queue
    after-step : (f : List Queued → ℕ → List Queued) (l : List ℕ) → f (map queued_of bytes) a ≡ map queued_of l → map queued_of l ≡ f (queues_of queues m) a
    after-step f l e = sym e ∙ ap (λ (b : List ℕ). f (map queued_of b) a) entries-here

    -- one entry's byte changes, and all else stays
    rewritten : (i v : ℕ) → i < n → Becomes queues (set queues (at + i) v) m (map queued_of (set bytes i v))
    rewritten i v h =
        let short : n ≤ 8 = omega (arith, room.bounded m) in
        let first : take (9 * m) (set queues (at + i) v) ≡ take (9 * m) queues = take-set-le (9 * m) queues (at + i) v (omega arith) in
        let last : drop (9 * m + 9) (set queues (at + i) v) ≡ drop (9 * m + 9) queues = drop-set-lt (9 * m + 9) queues (at + i) v (omega arith) in
        let size : size_in (set queues (at + i) v) m ≡ n = get_or-set_other queues (at + i) (9 * m) v 0 (omega arith) ∙ sym counts in (
          changed queues m room known (set queues (at + i) v) first last n size (set bytes i v)
              (ap (take n) (drop-set-add at queues i v) ∙ take-set-lt n (drop at queues) i v h),
          room-kept queues m room known (set queues (at + i) v) first last n size (length-set queues (at + i) v ∙ room.long) short,
        )

    -- the part that the code searches
    searched : take (at + n - at) (drop at queues) ≡ bytes
    searched = let e : at + n - at ≡ n = omega arith in ap (λ (k : ℕ). take k (drop at queues)) e

    -- ---- an actor that is queued

    module _ (i : ℕ) (place : Some i ≡ position (is_of a) (take (at + n - at) (drop at queues))) where
      here : QueuedAt bytes a i
      here = queued-at bytes a i (place ∙ ap (position (is_of a)) searched)

      queued : i < n
      queued = omega (arith, here.inside, bytes-length)

      -- the entry's byte
      byte : get_or bytes i 0 ≡ get_or queues (at + i) 0
      byte = get_or-take n (drop at queues) i 0 queued ∙ get_or-drop at queues i 0

      pub deeper-fits : depth_in (join (queues_of queues m) a) a ≤ 32 → get_or queues (at + i) 0 + 8 < 256
      deeper-fits most =
          omega (arith, byte, deeper-room bytes a i here (subst (λ (l : List ℕ). depth_in (join (map queued_of l) a) a ≤ 32) (sym entries-here) most))

      pub deepens : Becomes queues (set queues (at + i) (get_or queues (at + i) 0 + 8)) m (join (queues_of queues m) a)
      deepens =
          let v : ℕ = get_or queues (at + i) 0 + 8 in
          subst (Becomes queues (set queues (at + i) v) m)
          (after-step join (set bytes i v) (join-deeper bytes a i here ∙ ap (λ (x : ℕ). map queued_of (set bytes i (x + 8))) byte))
          (rewritten i v queued)

      pub lessens : 8 ≤ get_or queues (at + i) 0 → Becomes queues (set queues (at + i) (get_or queues (at + i) 0 - 8)) m (leave (queues_of queues m) a)
      lessens deep =
          let v : ℕ = get_or queues (at + i) 0 - 8 in
          subst (Becomes queues (set queues (at + i) v) m)
          (after-step leave (set bytes i v)
          (leave-shallower bytes a i here (omega (arith, byte)) ∙ ap (λ (x : ℕ). map queued_of (set bytes i (x - 8))) byte))
          (rewritten i v queued)

      -- the last Lock is undone: the entries before stay, and those behind move up
      pub leaves : get_or queues (at + i) 0 < 8 → (after : List ℕ) → after ≡ copy_within queues (at + i + 1) (at + n) (at + i)
          → Becomes queues (set after (9 * m) (get_or after (9 * m) 0 - 1)) m (leave (queues_of queues m) a)
      leaves last after moves =
          let before_end : i < n = queued in
          let short : n ≤ 8 = omega (arith, room.bounded m) in
          let k : ℕ = at + n - (at + i + 1) in
          let c : MovedUp queues after (at + i) k = subst (λ (l : List ℕ). MovedUp queues l (at + i) k) (sym moves) (moved-up queues (at + i) k (omega (arith, room.long))) in
          let sum : n - 1 ≡ i + k = omega arith in
          let less : n ≡ suc i + k = omega arith in
          let next : at + i + 1 ≡ at + suc i = omega arith in
          let size : get_or after (9 * m) 0 - 1 ≡ n - 1 = omega (arith, elem-before (9 * m) (at + i) queues after (omega arith) c.before) in
          let kept : List ℕ = take i bytes ++ drop (suc i) bytes in
          let front : take i (drop at after) ≡ take i bytes =
          part-before at i (at + i) queues after (omega arith) c.before ∙ sym (take-take i n (drop at queues) (omega arith)) in
          let tail : take k (drop i (drop at after)) ≡ drop (suc i) bytes =
          ap (take k) (drop-drop i at after)
          ∙ c.moved
          ∙ ap (λ (j : ℕ). take k (drop j queues)) next
          ∙ sym (ap (λ (j : ℕ). drop (suc i) (take j (drop at queues))) less ∙ drop-take (suc i) k (drop at queues) ∙ ap (take k) (drop-drop (suc i) at queues)) in
          let is : take (n - 1) (drop at after) ≡ kept =
          ap (λ (j : ℕ). take j (drop at after)) sum ∙ take-add i k (drop at after) ∙ ap₂ (λ (l r : List ℕ). l ++ r) front tail in
          subst (λ (j : ℕ). Becomes queues (set after (9 * m) j) m (leave (queues_of queues m) a)) (sym size)
          (subst (Becomes queues (set after (9 * m) (n - 1)) m)
          (after-step leave kept (leave-last bytes a i here (omega (arith, byte))))
          (becomes after (n - 1) kept (c.long ∙ room.long) (omega arith)
          (part-before 0 (9 * m) (at + i) queues after (omega arith) c.before)
          (part-behind (9 * m + 9) (at + i + k) queues after (omega arith) c.behind)
          is))

    -- ---- one that is not

    module _ (place : None ≡ position (is_of a) (take (at + n - at) (drop at queues))) where
      gone : Absent bytes a
      gone = absent bytes a (place ∙ ap (position (is_of a)) searched)

      pub stays : Becomes queues queues m (leave (queues_of queues m) a)
      stays =
          let same : leave (queues_of queues m) a ≡ queues_of queues m =
          sym (after-step leave bytes (leave_none bytes a gone)) ∙ ap (map queued_of) entries-here in
          (sym (upd-self number-test (queues_of queues) m (leave (queues_of queues m) a) (sym same)), room)

      module _ (small : a < 8) (fits : length (join (queues_of queues m) a) ≤ 8) where
        joins-end : map queued_of (bytes ++ (a ∷ [])) ≡ join (queues_of queues m) a
        joins-end = after-step join (bytes ++ (a ∷ [])) (join-new bytes a small gone)

        -- there is room for one more
        pub one_more : n + 1 ≤ 8
        one_more =
            omega (arith, ap length joins-end, length-map (bytes ++ (a ∷ [])) queued_of, length-append bytes (a ∷ []), bytes-length)

        pub enters : let longer = set queues (at + n) a in Becomes queues (set longer (9 * m) (get_or longer (9 * m) 0 + 1)) m (join (queues_of queues m) a)
        enters =
            let more : n + 1 ≤ 8 = one_more in
            let longer : List ℕ = set queues (at + n) a in
            let size : get_or longer (9 * m) 0 + 1 ≡ n + 1 = omega (arith, get_or-set_other queues (at + n) (9 * m) a 0 (omega arith)) in
            subst (λ (j : ℕ). Becomes queues (set longer (9 * m) j) m (join (queues_of queues m) a)) (sym size)
            (subst (Becomes queues (set longer (9 * m) (n + 1)) m) joins-end
            (becomes longer (n + 1) (bytes ++ (a ∷ [])) (length-set queues (at + n) a ∙ room.long) more
            (take-set-le (9 * m) queues (at + n) a (omega arith))
            (drop-set-lt (9 * m + 9) queues (at + n) a (omega arith))
            (stored queues at n a (omega (arith, room.long)))))
