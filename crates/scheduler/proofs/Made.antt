-- A made schedule is played to its end: its entries are the actors of the steps that were run, as many as were counted.
-- Assumes nothing.
use mathlib.Core.Path.{◌≡◌, refl, ◌∙◌, ap, sym}
use mathlib.Core.List.{List, map}
use Prim.Native.Nat.{ℕ}
use lib.ListN.{take}
use Rattle.state.specs.declared.arrays.Site.{Site as Arrays}
use Rattle.std.specs.Prelude.{Result, Ok, Err, IsOk, MatchResult}
use Rattle.table.specs.Promise.{WellFormed}
use Rattle.table.proofs.Checks.{refused-not}
use Rattle.model.specs.Site.{initial}
use Rattle.model.specs.Schedule.{RefusalNumbers, first_numbers, check_schedule}
use Rattle.model.proofs.Checks.{taken-checks}
use Rattle.model.proofs.Scheduled.{scheduled}
use Rattle.names.specs.InByte.{name_of}
use Rattle.answers.specs.declared.Stop.{Stop}
use Rattle.answers.specs.Answers.{stop_of}
use Rattle.answers.proofs.Stops.{stop-refused}
use Rattle.policy.specs.Parts.{rule_of, kept_of}
use Rattle.policy.specs.declared.Policy.{Policy}
use Rattle.policy.proofs.Choices.{policy-chooses}
use Rattle.play.specs.Parts.{schedule_by, Through}
use Rattle.play.specs.declared.Played.{Played}
use Rattle.scheduler.proofs.Entries.{actor_in, entries-back}

module _ (table : List ℕ) (policy : Policy) (ok : WellFormed table) where
  abbrev whole : List ℕ
  whole = schedule_by table policy

  -- it does not stop
  goes-on : (stop : Stop) → ((n : RefusalNumbers) → check_schedule n table whole ≡ stop_of n stop) → ⊥
  goes-on stop h =
      refused-not
      (sym (h first_numbers ∙ stop-refused first_numbers stop)
      ∙ taken-checks table first_numbers initial 0 whole (scheduled (rule_of policy) (policy-chooses policy) table ok (kept_of policy)).taken)

  pub made : (P : Played → Type 0) (r : Result Played Stop)
      → MatchResult r P (λ stop. (n : RefusalNumbers) → check_schedule n table whole ≡ stop_of n stop) → IsOk r
  made P (Ok played) h = refl
  made P (Err stop) h = absurd (goes-on stop h)

  pub entries-right : {arrays : Arrays} {held : List ℕ} {played : Played} → Through table whole arrays held played
      → map actor_in (take played.steps held) ≡ whole
  entries-right {arrays} {held} {played} T =
      entries-back table whole held played.steps (ap (λ (n : ℕ). map name_of (take n held)) T.counted ∙ T.ended.names-right)
