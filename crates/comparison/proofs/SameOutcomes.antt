-- The outcome of comparing two schedules by what is known of its checks: refused, or a verdict.
-- Assumes nothing.
use mathlib.Core.Path.{◌≡◌, ◌∙◌, ap, sym}
use mathlib.Core.List.{List}
use Prim.Native.Nat.{ℕ}
use Rattle.std.specs.Prelude.{Result, Ok, Err, MatchResult}
use Rattle.table.specs.Outcome.{refused, number_of, position_of}
use Rattle.model.specs.Calls.{gives, same_checks}
use Rattle.model.proofs.Checks.{then-both}
use Rattle.model.proofs.SameAnswers.{comparison-refused, comparison-checked}
use Rattle.answers.specs.declared.Refusal.{Refusal}
use Rattle.answers.specs.declared.Comparison.{Comparison}
use Rattle.answers.specs.Answers.{refusal_of}
use Rattle.comparison.specs.Traces.{Judged, Verdict, ComparedRight}

module _ {table first second first_bytes second_bytes : List ℕ} where
  -- refused, or judged
  pub compared-right : (r : Result Comparison Refusal)
      → MatchResult r (λ comparison. Judged table first second first_bytes second_bytes × Verdict table first second comparison)
      (λ x. same_checks table first second ≡ refused (number_of (refusal_of x)) (position_of (refusal_of x)))
      → ComparedRight table first second first_bytes second_bytes r
  compared-right (Ok comparison) (J, v) =
      record {
        right = ap gives v ∙ sym (comparison-checked table first second (then-both J.read (then-both J.first_fine J.second-fine)));
        kept = λ n s. (J.first-kept, J.second-kept);
      }
  compared-right (Err x) e = record { right = sym ((comparison-refused table first second _ _).1 e); kept = λ n s. cc }
