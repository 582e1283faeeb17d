-- What the mail's functions do to the arrays, and what a post promises.
-- Assumes nothing: these are definitions.
use Rattle.std.specs.Prelude.{ℕ, ◌+◌, ◌*◌, ◌≤◌, ◌≡◌, List, get_or, set, Option, Some, None}
use Rattle.trace.specs.Machine.{Name}
use Rattle.model.specs.Site.{Port, sends, receives}
use Rattle.model.specs.Mail.{meet}
use Rattle.state.specs.State.{mail_of}
use Rattle.state.specs.Rooms.{head_in, tail_in}
use Rattle.state.specs.declared.arrays.Mail.{Mail}

-- the two sides of mailbox m
abbrev pub sends_at : ℕ → Port
sends_at m = record { mailbox = m; side = sends }

abbrev pub receives_at : ℕ → Port
receives_at m = record { mailbox = m; side = receives }

-- the port of a Send of a value, or else of a Receive, at mailbox m
abbrev pub port_at : ℕ → Option ℕ → Port
port_at m (Some value) = sends_at m
port_at m None = receives_at m

-- the numbers that stand for a communication: pending with a value, and done with a partner and a value
abbrev pub pending_code : ℕ → ℕ
pending_code value = 1 + 1024 * value

abbrev pub done_code : ℕ → ℕ → ℕ
done_code partner value = 2 + 4 * partner + 1024 * value

-- the communications where a step and another are a pair
abbrev pub paired : List ℕ → (me other value : ℕ) → List ℕ
paired comms me other value = set (set comms other (done_code me value)) me (done_code other value)

-- the oldest step pending at port n
abbrev pub oldest_in : (log ends : List ℕ) → ℕ → ℕ
oldest_in log ends n = get_or log (256 * n + head_in ends n) 0

-- the log where a step is written at the end of port n's
abbrev pub appended : (log ends : List ℕ) → (n me : ℕ) → List ℕ
appended log ends n me = set log (256 * n + tail_in ends n) me

-- the ends where port n's head, or its tail, is one further
abbrev pub head_on : (ends : List ℕ) → ℕ → List ℕ
head_on ends n = set ends (2 * n) (head_in ends n + 1)

abbrev pub tail_on : (ends : List ℕ) → ℕ → List ℕ
tail_on ends n = set ends (2 * n + 1) (tail_in ends n + 1)

-- a step has joined the end of port n's queue
pub record Joined (me n value : ℕ) (before after : Mail) : Type 0 where
  pub comms : after.comms ≡ set before.comms me (pending_code value)
  pub log : after.log ≡ appended before.log before.ends n me
  pub ends : after.ends ≡ tail_on before.ends n

-- a post: the mail is what the model's is when the step meets the port, and no tail grows by more than one
pub record Posted (port : Port) (me : Name) (value : ℕ) (before after : Mail) : Type 0 where
  pub mail : mail_of after.comms after.log after.ends ≡ meet port me value (mail_of before.comms before.log before.ends)
  pub grown : (n : ℕ) → tail_in after.ends n ≤ tail_in before.ends n + 1
