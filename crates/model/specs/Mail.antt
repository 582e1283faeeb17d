-- Mailboxes: how a Send and a Receive pair.
-- Assumes nothing: these are definitions.
use Rattle.std.specs.Prelude.{ℕ, Bool, true, false, List, [], ◌∷◌, ◌++◌}
use Rattle.trace.specs.Machine.{Name}
use Rattle.trace.specs.Order.{eq_name}
use Rattle.model.specs.Site.{upd, Side, sends, receives, Port, opposite, eq_port, Comm, unposted, pending, done, Mail}
use Rattle.model.specs.Views.{Post, silent, mails, joins, leaves, notes}

abbrev pub is_done : Comm → Bool
is_done unposted = false
is_done (pending value) = false
is_done (done partner value) = true

-- the value that a communication carries
abbrev pub carried : Comm → ℕ
carried unposted = 0
carried (pending value) = value
carried (done partner value) = value

-- the value of a pair, of which a step on this side posts `posted` and its partner has kept `kept`: it is the Send's
abbrev pub pair_value : Side → ℕ → ℕ → ℕ
pair_value sends posted kept = posted
pair_value receives posted kept = kept

abbrev pub at_end : List Name → Name → List Name
at_end l x = l ++ (x ∷ [])

-- the step joins the end of its port's queue
abbrev pub enqueue : Port → Name → ℕ → Mail → Mail
enqueue port me v m =
    record { comm = upd eq_name m.comm me (pending v); waiting = upd eq_port m.waiting port (at_end (m.waiting port) me) }

-- the step pairs with another, which leaves `rest` behind it; both become done and carry the Send's value
abbrev pub pair : Port → Name → ℕ → Name → List Name → Mail → Mail
pair port me v other rest m =
    let value : ℕ = pair_value port.side v (carried (m.comm other)) in
    record {
      comm = upd eq_name (upd eq_name m.comm other (done me value)) me (done other value);
      waiting = upd eq_port m.waiting (opposite port) rest;
    }

-- the steps that are pending on the other side decide: the step pairs with the oldest of them, or else joins its own side's end
abbrev pub meet_with : List Name → Port → Name → ℕ → Mail → Mail
meet_with [] port me v m = enqueue port me v m
meet_with (oldest ∷ rest) port me v m = pair port me v oldest rest m

-- a Send, and mirrored a Receive
abbrev pub meet : Port → Name → ℕ → Mail → Mail
meet port me v m = meet_with (m.waiting (opposite port)) port me v m

-- the mail after what a step posts
abbrev pub mailing : Post → Name → ℕ → Mail → Mail
mailing silent me v m = m
mailing (mails port) me v m = meet port me v m
mailing (joins mutex) me v m = m
mailing (leaves mutex) me v m = m
mailing notes me v m = m
