-- A mutex is a queue of actors, each with a depth; the first owns it. The counting rule: a second Lock needs a second Unlock.
-- Assumes nothing: these are definitions.
use Rattle.std.specs.Prelude.{ℕ, zero, suc, ◌-◌, Bool, false, cond, List, [], ◌∷◌, eqb}
use Rattle.model.specs.Site.{Queued, upd}
use Rattle.model.specs.Views.{Post, silent, mails, joins, leaves, notes}

-- the first in the queue owns the mutex
abbrev pub owns : List Queued → ℕ → Bool
owns [] a = false
owns (x ∷ q) a = eqb a x.actor

-- Lock adds 1 to the depth of a queued actor, owner or not, which keeps its place; one that is not queued joins the end with depth 1
abbrev pub join : List Queued → ℕ → List Queued
join [] a = record { actor = a; depth = 1 } ∷ []
join (x ∷ q) a = cond (eqb a x.actor) (record { actor = a; depth = suc x.depth } ∷ q) (x ∷ join q a)

-- an actor of this depth in front of a queue; at 0 it has left
abbrev pub standing : (actor depth : ℕ) → List Queued → List Queued
standing a zero q = q
standing a (suc d) q = record { actor = a; depth = suc d } ∷ q

-- Unlock takes 1 off the actor's depth, owner or not, and the actor leaves at 0; if absent, nothing changes
abbrev pub leave : List Queued → ℕ → List Queued
leave [] a = []
leave (x ∷ q) a = cond (eqb a x.actor) (standing a (x.depth - 1) q) (x ∷ leave q a)

-- the queues after what an actor's step posts
abbrev pub queueing : Post → ℕ → (ℕ → List Queued) → ℕ → List Queued
queueing silent a f = f
queueing (mails port) a f = f
queueing (joins m) a f = upd eqb f m (join (f m) a)
queueing (leaves m) a f = upd eqb f m (leave (f m) a)
queueing notes a f = f
