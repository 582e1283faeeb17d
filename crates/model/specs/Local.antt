-- What a step sees of the rest of the state, and the local step that its own record takes.
-- Assumes nothing: these are definitions.
use Rattle.std.specs.Prelude.{ℕ, suc, Bool, true, false, cond, List, [], ◌∷◌}
use Rattle.table.specs.declared.Action.{Action}
use Rattle.model.specs.Site.{Actor, Site, name}
use Rattle.model.specs.Views.{Look, blind, communications, mutexes, looks, pick_up, written, view_of}
use Rattle.model.specs.Mutex.{owns}
use Rattle.model.specs.Mail.{is_done, carried}

-- what a look finds: nothing; or the first place in its list, counted from 1, that it looks for, with the number listed there and the value of
-- that communication (0 for a mutex)
pub data Seen : Type 0 where
  unseen : Seen
  seen : (place number value : ℕ) → Seen

-- the first place that passes the test, the list's first place being `from`
abbrev pub first : (ℕ → Bool) → (ℕ → ℕ) → ℕ → List ℕ → Seen
first test value from [] = unseen
first test value from (x ∷ l) = cond (test x) (seen from x (value x)) (first test value (suc from) l)

-- what an actor's look finds: a communication that is done, or a mutex that the actor owns
abbrev pub see : Site → ℕ → Look → Seen
see s a blind = unseen
see s a (communications l) = first (λ k. is_done (s.mail.comm (name a k))) (λ k. carried (s.mail.comm (name a k))) 1 l
see s a (mutexes l) = first (λ m. owns (s.queue m) a) (λ m. 0) 1 l

abbrev pub is_seen : Seen → Bool
is_seen unseen = false
is_seen (seen place number value) = true

-- the place, or 0
abbrev pub place_seen : Seen → ℕ
place_seen unseen = 0
place_seen (seen place number value) = place

-- the communication that the look found is picked up; `own` gives the actor's actions by number
abbrev pub pick_up_seen : (ℕ → Action) → Seen → List ℕ → List ℕ
pick_up_seen own unseen cells = cells
pick_up_seen own (seen place number value) cells = pick_up (own number) value cells

-- of a look at communications alone: a mutex that was found has no value
abbrev pub picked_up : (ℕ → Action) → Look → Seen → List ℕ → List ℕ
picked_up own blind found cells = cells
picked_up own (communications l) found cells = pick_up_seen own found cells
picked_up own (mutexes l) found cells = cells

-- the cells after an action: what its look found is picked up, and what the step writes is written last
unfoldable pub cells_after : (ℕ → Action) → Action → Seen → List ℕ → List ℕ
cells_after own x found cells = written (view_of x).writes (place_seen found) (picked_up own (looks x) found cells)

-- the local step of an actor's own record: the next action follows
abbrev pub local : (ℕ → Action) → Action → Seen → Actor → Actor
local own x found r = record { position = suc r.position; cells = cells_after own x found r.cells }
