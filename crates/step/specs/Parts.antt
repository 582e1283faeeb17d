-- What one step takes and leaves: its own record, the mail, the queues and the journal.
-- Assumes nothing: these are definitions.
use Rattle.std.specs.Prelude.{ℕ, ◌+◌, ◌<◌, ◌≤◌, ◌≡◌, List, length, Result, IfOk}
use Rattle.table.specs.declared.Action.{Action}
use Rattle.table.specs.declared.Action.TheVariants.{Note}
use Rattle.table.specs.Format.{actors_of, count_of}
use Rattle.table.specs.Decode.{action_of}
use Rattle.table.specs.Promise.{WellFormed}
use Rattle.model.specs.Site.{name}
use Rattle.model.specs.Views.{looks, posts, sent}
use Rattle.model.specs.Mutex.{queueing, join}
use Rattle.model.specs.Depths.{depth_in}
use Rattle.model.specs.Mail.{mailing}
use Rattle.model.specs.Journal.{noting}
use Rattle.model.specs.Local as Local
use Rattle.model.specs.Step.{taken, step_of}
use Rattle.state.specs.State.{record_of, held_mail, held_queues, journal_of, seen_from, next_of, step_as}
use Rattle.state.specs.Rooms.{tail_in}
use Rattle.state.specs.declared.arrays.Site.{Site as Arrays}
use Rattle.state.specs.declared.Actor.{Actor}
use Rattle.state.specs.declared.Hold.{Hold}

-- what a step may rely on
pub record Steppable (table : List ℕ) (a : ℕ) (r : Actor) (site : Arrays) : Type 0 where
  pub accepted : WellFormed table
  pub actor : a < actors_of table
  pub unfinished : r.position < count_of table a
  -- a step that is taken has room to post
  pub tail-room : step_of table (seen_from r site) a (next_of table a r) ≡ taken → (n : ℕ) → tail_in site.mail.ends n < 256
  pub join-room : (m : ℕ) → length (join (held_queues site m) a) ≤ 8
  pub depth-room : (m : ℕ) → depth_in (join (held_queues site m) a) a ≤ 32
  pub note-room : (cell : ℕ) → next_of table a r ≡ Note cell → site.journal.count < 256

-- a number that a look found is that of an action
abbrev pub Picks : List ℕ → ℕ → Local.Seen → Type 0
Picks table a Local.unseen = Unit {0}
Picks table a (Local.seen place number value) = number < count_of table a

-- a place is from 1 to 4
abbrev pub SmallPlace : Local.Seen → Type 0
SmallPlace Local.unseen = Unit {0}
SmallPlace (Local.seen place number value) = place ≤ 4

-- a step of the action x was taken as the model takes it
pub record Took (table : List ℕ) (a : ℕ) (x : Action) (r : Actor) (before after : Arrays) (next : Actor) : Type 0 where
  pub record-next : record_of next ≡ Local.local (action_of table a) x (Local.see (seen_from r before) a (looks x)) (record_of r)
  pub mail-next : held_mail after ≡ mailing (posts x) (name a r.position) (sent x r.cells) (held_mail before)
  pub queue-next : held_queues after ≡ queueing (posts x) a (held_queues before)
  pub journal-next : journal_of after.journal ≡ noting (posts x) (name a r.position) (sent x r.cells) (journal_of before.journal)

-- what a step of the action x leaves: what it was; where it was taken, its record, the mail, the queues and the journal; and room for the next step
pub record StepTaken (table : List ℕ) (a : ℕ) (x : Action) (r : Actor) (before after : Arrays) (s : Result Actor Hold) : Type 0 where
  pub next-right : step_as s ≡ step_of table (seen_from r before) a x
  pub took : IfOk s (Took table a x r before after)
  pub grown : (n : ℕ) → tail_in after.mail.ends n ≤ tail_in before.mail.ends n + 1
