-- The ports' queues: a name appended to a port's log joins the end of its queue, a head that goes one further takes the oldest name away, and the
-- other ports' queues stay as they are.
-- Assumes nothing.
use Prim.Native.Nat.{ℕ, suc, ◌+◌, ◌-◌, ◌*◌, ◌<◌, ◌≤◌}
use native.Mathlib.Omega.{arith}
use mathlib.Core.Path.{◌≡◌, refl, sym, ◌∙◌, ap}
use mathlib.Core.Logic.{◌⊎◌, inl, inr, ◌≢◌}
use mathlib.Core.Bool.{true, false}
use mathlib.Core.List.{List, [], ◌∷◌, ◌++◌, map, map-append}
use borrow.Author.Tests.{ltb-true, ltb-false}
use lib.Dec.{ltb}
use lib.ListN.{get_or, take, drop, set}
use lib.Seq.{drop-set-lt, drop-set-add, take-set-le, drop-cons}
use Rattle.trace.proofs.Bools.{which}
use Rattle.model.specs.Site.{upd, Side, sends, receives, Port, eq_port}
use Rattle.model.specs.Mail.{at_end}
use Rattle.model.proofs.Ports.{port-test}
use Rattle.names.specs.InByte.{name_of}
use Rattle.state.specs.State.{side_number, port_number, pending_in, waiting_of}
use Rattle.state.specs.Rooms.{head_in, tail_in, LogRoom}
use Rattle.mail.specs.Parts.{oldest_in, appended, head_on, tail_on}
use Rattle.state.proofs.Stored.{stored}
use Rattle.mail.proofs.Changes.{changed-at}
use Rattle.mail.proofs.Ends.{heads-kept, tails-kept, head-other, tail-other, head-own, tail-own}

-- ---- ports and their numbers

sides : (s t : Side) (a b : ℕ) → 2 * a + side_number s ≡ 2 * b + side_number t → (a ≡ b) × (s ≡ t)
sides sends sends a b e = (omega arith, refl)
sides sends receives a b e = absurd (omega arith)
sides receives sends a b e = absurd (omega arith)
sides receives receives a b e = (omega arith, refl)

-- ports with one number are one
same-port : (p q : Port) → port_number p ≡ port_number q → p ≡ q
same-port p q e =
    let h : (p.mailbox ≡ q.mailbox) × (p.side ≡ q.side) = sides p.side q.side p.mailbox q.mailbox e in
    λ i. record { mailbox = h.0 i; side = h.1 i }

-- ---- parts of a log

-- a store outside a part leaves it as it is
part-kept : (log : List ℕ) (i v s k : ℕ) → (i < s) ⊎ (s + k ≤ i) → take k (drop s (set log i v)) ≡ take k (drop s log)
part-kept log i v s k (inl h) = ap (take k) (drop-set-lt s log i v h)
part-kept log i v s k (inr h) =
    let e : i ≡ s + (i - s) = omega arith in
    ap (λ (j : ℕ). take k (drop s (set log j v))) e
    ∙ ap (take k) (drop-set-add s log (i - s) v)
    ∙ take-set-le k (drop s log) (i - s) v (omega arith)

-- two ports' logs don't meet
apart : (k n h l t : ℕ) → k ≢ n → h + l ≤ 256 → t < 256 → (256 * n + t < 256 * k + h) ⊎ (256 * k + h + l ≤ 256 * n + t)
apart k n h l t ne b c = go (which (ltb n k))
  where
    go : (ltb n k ≡ true) ⊎ (ltb n k ≡ false) → (256 * n + t < 256 * k + h) ⊎ (256 * k + h + l ≤ 256 * n + t)
    go (inl p) = inl (omega (arith, ltb-true n k p))
    go (inr p) = inr (omega (arith, ltb-false n k p, ne))

module _ (log ends : List ℕ) (room : LogRoom log ends) (n : ℕ) (small : n < 16) where
  -- ---- a name is appended to the log of port n

  module _ (me : ℕ) (free : tail_in ends n < 256) where
    -- the heads stay
    head-stays : (k : ℕ)
        → pending_in (appended log ends n me) (tail_on ends n) k
        ≡ take (tail_in (tail_on ends n) k - head_in ends k) (drop (256 * k + head_in ends k) (appended log ends n me))
    head-stays k =
        ap (λ (h : ℕ). take (tail_in (tail_on ends n) k - h) (drop (256 * k + h) (appended log ends n me))) (heads-kept ends n (tail_in ends n + 1) k)

    append-own : pending_in (appended log ends n me) (tail_on ends n) n ≡ pending_in log ends n ++ (me ∷ [])
    append-own =
        let s : ℕ = 256 * n + head_in ends n in
        let k : ℕ = tail_in ends n - head_in ends n in
        let e : tail_in (tail_on ends n) n - head_in ends n ≡ k + 1 =
        omega (arith, tail-own ends n (tail_in ends n + 1) room.ends-long small, room.ordered n) in
        let f : 256 * n + tail_in ends n ≡ s + k = omega (arith, room.ordered n) in
        head-stays n
        ∙ ap (λ (j : ℕ). take j (drop s (appended log ends n me))) e
        ∙ ap (λ (i : ℕ). take (k + 1) (drop s (set log i me))) f
        ∙ stored log s k me (omega (arith, f, room.log-long))

    append-other : (k : ℕ) → k ≢ n → pending_in (appended log ends n me) (tail_on ends n) k ≡ pending_in log ends k
    append-other k ne =
        let s : ℕ = 256 * k + head_in ends k in
        let l : ℕ = tail_in ends k - head_in ends k in
        head-stays k
        ∙ ap (λ (t : ℕ). take (t - head_in ends k) (drop s (appended log ends n me))) (tail-other ends n (tail_in ends n + 1) k ne)
        ∙ part-kept log (256 * n + tail_in ends n) me s l
        (apart k n (head_in ends k) l (tail_in ends n) ne (omega (arith, room.ordered k, room.bounded k)) free)

  -- ---- the head of port n goes one further

  module _ (some : head_in ends n < tail_in ends n) where
    take_own : pending_in log ends n ≡ oldest_in log ends n ∷ pending_in log (head_on ends n) n
    take_own =
        let h : ℕ = head_in ends n in
        let s : ℕ = 256 * n + h in
        let left : ℕ = tail_in (head_on ends n) n - head_in (head_on ends n) n in
        let g : head_in (head_on ends n) n ≡ h + 1 = head-own ends n (h + 1) room.ends-long small in
        let e : tail_in ends n - h ≡ suc left = omega (arith, g, tails-kept ends n (h + 1) n) in
        let f : suc s ≡ 256 * n + head_in (head_on ends n) n = omega (arith, g) in
        ap (λ (k : ℕ). take k (drop s log)) e
        ∙ ap (take (suc left)) (drop-cons log s 0 (omega (arith, room.bounded n, room.log-long)))
        ∙ ap (λ (i : ℕ). get_or log s 0 ∷ take left (drop i log)) f

    take-other : (k : ℕ) → k ≢ n → pending_in log (head_on ends n) k ≡ pending_in log ends k
    take-other k ne =
        ap (λ (t : ℕ). take (t - head_in (head_on ends n) k) (drop (256 * k + head_in (head_on ends n) k) log)) (tails-kept ends n (head_in ends n + 1) k)
        ∙ ap (λ (h : ℕ). take (tail_in ends k - h) (drop (256 * k + h) log)) (head-other ends n (head_in ends n + 1) k ne)

  -- ---- the same of the model's queues, where n is a port's number

  module _ (port : Port) (number : n ≡ port_number port) where
    other-number : (q : Port) → q ≢ port → port_number q ≢ n
    other-number q ne e = ne (same-port q port (e ∙ number))

    pub waiting-appended : (me : ℕ) → tail_in ends n < 256
        → waiting_of (appended log ends n me) (tail_on ends n)
        ≡ upd eq_port (waiting_of log ends) port (at_end (waiting_of log ends port) (name_of me))
    waiting-appended me free =
        changed-at port-test (waiting_of log ends) (waiting_of (appended log ends n me) (tail_on ends n)) port
        (at_end (waiting_of log ends port) (name_of me))
        (ap (λ (k : ℕ). map name_of (pending_in (appended log ends n me) (tail_on ends n) k)) (sym number)
        ∙ ap (map name_of) (append-own me free)
        ∙ map-append name_of (pending_in log ends n) (me ∷ [])
        ∙ ap (λ (k : ℕ). at_end (map name_of (pending_in log ends k)) (name_of me)) number)
        (λ q ne. ap (map name_of) (append-other me free (port_number q) (other-number q ne)))

    pub waiting-taken : (some : head_in ends n < tail_in ends n)
        → waiting_of log (head_on ends n)
        ≡ upd eq_port (waiting_of log ends) port (waiting_of log (head_on ends n) port)
    waiting-taken some =
        changed-at port-test (waiting_of log ends) (waiting_of log (head_on ends n)) port
        (waiting_of log (head_on ends n) port) refl
        (λ q ne. ap (map name_of) (take-other some (port_number q) (other-number q ne)))

    -- the oldest step at the port, and the rest
    pub waiting-some : head_in ends n < tail_in ends n
        → waiting_of log ends port ≡ name_of (oldest_in log ends n) ∷ waiting_of log (head_on ends n) port
    waiting-some some =
        ap (λ (k : ℕ). map name_of (pending_in log ends k)) (sym number)
        ∙ ap (map name_of) (take_own some)
        ∙ ap (λ (k : ℕ). name_of (oldest_in log ends n) ∷ map name_of (pending_in log (head_on ends n) k)) number

    -- no step at the port
    pub waiting_none : tail_in ends n ≤ head_in ends n → waiting_of log ends port ≡ []
    waiting_none none =
        let e : tail_in ends n - head_in ends n ≡ 0 = omega arith in
        ap (λ (k : ℕ). map name_of (pending_in log ends k)) (sym number)
        ∙ ap (λ (k : ℕ). map name_of (take k (drop (256 * n + head_in ends n) log))) e
