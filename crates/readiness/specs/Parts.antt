-- The ready answer's parts over the engine's arrays.
-- Assumes nothing: these are definitions.
use Rattle.std.specs.Prelude.{ℕ, ◌<◌, ◌≡◌, ◌≢◌, Bool, true, not, ◌&&◌, List, ltb, length, get_or}
use Rattle.table.specs.Format.{actors_of, count_of}
use Rattle.table.specs.Promise.{WellFormed}
use Rattle.model.specs.Site.{Entry, Site}
use Rattle.model.specs.Step.{NextStep, is_taken, step_of, ready}
use Rattle.model.specs.Ready as Model
use Rattle.state.specs.State.{site_of, mail_of, fresh_actor, next_of, seen_from}
use Rattle.state.specs.declared.arrays.Site.{Site as Arrays}
use Rattle.state.specs.declared.Actor.{Actor}

-- the state in the arrays, but with any logs of the ports, any ends of theirs and any journal, in which readiness does not look; and what a step of
-- an actor with the record r sees of it
abbrev pub site_with : List Actor → Arrays → (log ends : List ℕ) → (journal : List Entry) → Site
site_with actors site log ends journal = record (site_of actors site) { mail = mail_of site.mail.comms log ends; journal = journal }

abbrev pub seen_with : Actor → Arrays → (log ends : List ℕ) → (journal : List Entry) → Site
seen_with r site log ends journal = record (seen_from r site) { mail = mail_of site.mail.comms log ends; journal = journal }

-- what a look at one actor may rely on
pub record Looked (table : List ℕ) (a : ℕ) : Type 0 where
  pub accepted : WellFormed table
  pub actor : a < actors_of table

pub record Answerable (table : List ℕ) (actors : List Actor) : Type 0 where
  pub accepted : WellFormed table
  pub actors-long : length actors ≡ 8

-- the actors of a mask are ready, but for actor a
abbrev pub Known : List ℕ → (mask a : ℕ) → List Actor → Arrays → Type 0
Known table mask a actors site = (i : ℕ) → Model.bit_of mask i ≡ 1 → i ≢ a → ready table (site_of actors site) i ≡ true

-- and are so whatever the logs, their ends and the journal are
abbrev pub KnownAlike : List ℕ → (mask a : ℕ) → List Actor → Arrays → Type 0
KnownAlike table mask a actors site =
    (i : ℕ) → Model.bit_of mask i ≡ 1 → i ≢ a
    → (log ends : List ℕ) (journal : List Entry) → ready table (site_with actors site log ends journal) i ≡ true

-- what the next step of an actor with the record r is, in a site that is as its step sees it
abbrev pub step_in : List ℕ → ℕ → Actor → Site → NextStep
step_in table a r s = step_of table s a (next_of table a r)

abbrev pub step_from : List ℕ → ℕ → Actor → Arrays → NextStep
step_from table a r site = step_in table a r (seen_from r site)

-- an actor with the record r is not finished, and its next step is taken
abbrev pub ready_in : List ℕ → ℕ → Actor → Site → Bool
ready_in table a r s = ltb r.position (count_of table a) && is_taken (step_in table a r s)

abbrev pub looks_ready : List ℕ → ℕ → Actor → Arrays → Bool
looks_ready table a r site = ready_in table a r (seen_from r site)

abbrev pub everyone_finished : List ℕ → ℕ → List Actor → Bool
everyone_finished table n actors = Model.all (λ a. not (ltb (get_or actors a fresh_actor).position (count_of table a))) n 0
