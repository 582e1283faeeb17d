-- What a step sees, in the engine's values and in the model's.
-- Assumes nothing: these are definitions.
use Rattle.std.specs.Prelude.{ℕ, ◌<◌, ◌≡◌, Bool, cond, List, Option, Some, None}
use Rattle.table.specs.declared.Numbers.{Numbers}
use Rattle.table.specs.Promise.{number}
use Rattle.model.specs.Site.{name}
use Rattle.model.specs.Mail.{is_done, carried}
use Rattle.model.specs.Mutex.{owns}
use Rattle.model.specs.Local.{Seen, unseen, seen, first}
use Rattle.look.specs.declared.Found.{Found}
use Rattle.state.specs.State.{comms_of, queues_of}

abbrev pub seen_of : Option Found → Seen
seen_of None = unseen
seen_of (Some f) = seen f.place f.number f.value

-- whether an actor's communication k is done, and its value; whether an actor owns mutex m
abbrev pub done_in : (comms : List ℕ) → ℕ → ℕ → Bool
done_in comms a k = is_done (comms_of comms (name a k))

abbrev pub value_in : (comms : List ℕ) → ℕ → ℕ → ℕ
value_in comms a k = carried (comms_of comms (name a k))

abbrev pub owned_in : (queues : List ℕ) → ℕ → ℕ → Bool
owned_in queues a m = owns (queues_of queues m) a

-- what the model's `see` gives of these arrays: the first communication that is done, or the first mutex that the actor owns, of a list whose
-- first place is `from`
abbrev pub communications_seen : (comms : List ℕ) → ℕ → ℕ → List ℕ → Seen
communications_seen comms a from l = first (done_in comms a) (value_in comms a) from l

abbrev pub mutexes_seen : (queues : List ℕ) → ℕ → ℕ → List ℕ → Seen
mutexes_seen queues a from l = first (owned_in queues a) (λ m. 0) from l

-- the value of a number, if it passes a test; and that this is what a look at each listed number gives
abbrev pub value_if : (ℕ → Bool) → (ℕ → ℕ) → ℕ → Option ℕ
value_if test value x = cond (test x) (Some (value x)) None

abbrev pub Gives : (look : ℕ → Option ℕ → Type 0) → (ℕ → Bool) → (ℕ → ℕ) → Numbers → Type 0
Gives look test value list = (i : ℕ) (r : Option ℕ) → i < list.count → look (number list i) r → r ≡ value_if test value (number list i)
