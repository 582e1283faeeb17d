-- The page over the engine's arrays: an actor's line by its record, and that the ports' logs and the journal play no part.
-- Assumes nothing.
use mathlib.Core.Path.{◌≡◌, refl, ◌∙◌, ap, sym}
use mathlib.Core.Bool.{cond}
use mathlib.Core.List.{List, []}
use Prim.Native.Nat.{ℕ}
use lib.Dec.{ltb}
use lib.ListN.{get_or}
use Rattle.table.specs.Format.{actors_of, count_of}
use Rattle.model.specs.Site.{Entry}
use Rattle.model.specs.Report.{parts}
use Rattle.model.specs.Text.{line}
use Rattle.model.specs.Step.{NextStep}
use Rattle.model.specs.Page.{Status, finished, step_status, status_of, actor_text, page}
use Rattle.model.proofs.Parts.{parts_same}
use Rattle.state.specs.declared.Actor.{Actor}
use Rattle.state.specs.State.{journal_of, record_of, records_of, site_of, fresh_actor}
use Rattle.state.specs.declared.arrays.Site.{Site as Arrays}
use Rattle.readiness.specs.Parts.{site_with}
use Rattle.readiness.proofs.Laws.{step-looks}
use Rattle.page.specs.Parts.{status_from, line_at}

-- an actor's status, by its record
module _ (table : List ℕ) (actors : List Actor) (site : Arrays) where
  pub status-from : (log ends : List ℕ) (journal : List Entry) (a : ℕ)
      → status_of table (site_with actors site log ends journal) a ≡ status_from table a (get_or actors a fresh_actor) site
  status-from log ends journal a =
      ap (λ (t : NextStep). cond (ltb (get_or actors a fresh_actor).position (count_of table a)) (step_status t) finished)
      (step-looks table actors site log ends journal site.mail.log site.mail.ends [] a)

  -- of the site in the arrays
  status-held : (a : ℕ) → status_of table (site_of actors site) a ≡ status_from table a (get_or actors a fresh_actor) site
  status-held = status-from site.mail.log site.mail.ends (journal_of site.journal)

  -- the page of the whole state
  pub page-from : (log ends : List ℕ) (journal : List Entry)
      → page table (site_with actors site log ends journal) ≡ page table (site_of actors site)
  unfolding page
  page-from log ends journal =
      parts_same _ _ (actors_of table) 0
      (λ a l h. ap (λ (t : Status). line (actor_text a (records_of actors a) t)) (status-from log ends journal a ∙ sym (status-held a)))

  -- line by line
  pub page-lines : page table (site_of actors site) ≡ parts (line_at table actors site) (actors_of table) 0
  unfolding page line_at
  page-lines = refl

  pub line-from : (a : ℕ) (r : Actor) → r ≡ get_or actors a fresh_actor → (t : Status) → t ≡ status_from table a r site
      → line (actor_text a (record_of r) t) ≡ line_at table actors site a
  unfolding line_at
  line-from a r same t status =
      let right : t ≡ status_of table (site_of actors site) a =
      status ∙ ap (λ (x : Actor). status_from table a x site) same ∙ sym (status-held a) in
      λ i. line (actor_text a (record_of (same i)) (right i))
