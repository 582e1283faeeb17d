-- Which actors are ready, and what the next action of one does: it looks, its own record takes its local step, and it posts.
-- Assumes nothing: these are definitions.
use Rattle.std.specs.Prelude.{ℕ, Bool, true, false, not, ◌&&◌, ◌||◌, cond, List, eqb, ltb}
use Rattle.table.specs.declared.Action.{Action}
use Rattle.table.specs.Format.{actors_of, count_of}
use Rattle.table.specs.Decode.{action_of}
use Rattle.trace.specs.Machine.{Name}
use Rattle.model.specs.Site.{Site, upd, name}
use Rattle.model.specs.Views.{posts, looks, waits, sent, runs_over}
use Rattle.model.specs.Mutex.{queueing}
use Rattle.model.specs.Mail.{mailing}
use Rattle.model.specs.Journal.{noting}
use Rattle.model.specs.Local.{see, is_seen, local}

-- what an actor's next step is: it is taken; it waits for what it looks at; it is an Add whose total would run over
pub data NextStep : Type 0 where
  taken waiting over : NextStep

abbrev pub is_taken : NextStep → Bool
is_taken taken = true
is_taken waiting = false
is_taken over = false

module _ (table : List ℕ) where
  -- the action that a step's name stands for
  abbrev pub action_at : Name → Action
  action_at x = action_of table x.actor x.position

  -- the name of an actor's next step
  abbrev pub next_name : Site → ℕ → Name
  next_name s a = name a (s.actor a).position

  abbrev pub next_action : Site → ℕ → Action
  next_action s a = action_at (next_name s a)

  -- an actor is finished when its position has come to its action count, which no step passes
  abbrev pub unfinished : Site → ℕ → Bool
  unfinished s a = ltb (s.actor a).position (count_of table a)

  -- a step need not wait, or its look finds something
  abbrev pub passes : Site → ℕ → Action → Bool
  passes s a x = not (waits x) || is_seen (see s a (looks x))

  -- what an action is as the next step of an actor: whether it runs over depends on the actor's own cells alone
  abbrev pub step_of : Site → ℕ → Action → NextStep
  step_of s a x = cond (runs_over x (s.actor a).cells) over (cond (passes s a x) taken waiting)

  abbrev pub next_step : Site → ℕ → NextStep
  next_step s a = step_of s a (next_action s a)

  -- "ready": an actor of the table that is not finished and whose next step is taken
  unfoldable pub ready : Site → ℕ → Bool
  ready s a = ltb a (actors_of table) && (unfinished s a && is_taken (next_step s a))

  -- the state that an action of an actor leaves
  abbrev pub perform : Site → ℕ → Action → Site
  perform s a x =
      let me : Name = next_name s a in
      record {
        actor = upd eqb s.actor a (local (λ k. action_at (name a k)) x (see s a (looks x)) (s.actor a));
        mail = mailing (posts x) me (sent x (s.actor a).cells) s.mail;
        queue = queueing (posts x) a s.queue;
        journal = noting (posts x) me (sent x (s.actor a).cells) s.journal;
      }

  unfoldable pub step : Site → ℕ → Site
  step s a = perform s a (next_action s a)
