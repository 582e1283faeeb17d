-- The outcome of the ready call by what is known of its checks: refused, or the answer of the end state.
-- Assumes nothing.
use mathlib.Core.Path.{◌≡◌, ◌∙◌, ap, sym}
use mathlib.Core.List.{List}
use Prim.Native.Nat.{ℕ}
use Rattle.table.specs.Outcome.{Outcome, accepted, refused}
use Rattle.model.specs.Site.{Site}
use Rattle.model.specs.Ready.{ReadyAnswer, ready_answer}
use Rattle.model.specs.Schedule.{end_state}
use Rattle.model.specs.Calls.{gives, refuses, answer, ready_checks, ready_of}

module _ (table schedule : List ℕ) where
  pub ready_refused : (n p : ℕ) → ready_checks table schedule ≡ refused n p → refuses n p ≡ ready_of table schedule
  unfolding ready_of
  ready_refused n p e = sym (ap (λ (o : Outcome). answer o (ready_answer table (end_state table schedule))) e)

  pub ready-given : (a : ReadyAnswer) (s : Site) → s ≡ end_state table schedule → ready_checks table schedule ≡ accepted → a ≡ ready_answer table s
      → gives a ≡ ready_of table schedule
  unfolding ready_of
  ready-given a s end e right =
      ap gives (right ∙ ap (ready_answer table) end) ∙ sym (ap (λ (o : Outcome). answer o (ready_answer table (end_state table schedule))) e)
