-- A call that fills a buffer of at least `room` bytes, refuses `number` where there are fewer, and then makes the rest of its checks: its answer and what
-- it leaves, by what is known of those.
-- Assumes nothing.
use mathlib.Core.Path.{◌≡◌, ◌∙◌, ap, sym}
use mathlib.Core.List.{List, ◌++◌}
use Prim.Native.Nat.{ℕ, ◌<◌, ◌≤◌}
use borrow.Author.Tests.{le-leb, lt-leb}
use lib.Dec.{leb}
use lib.ListN.{length, drop}
use Rattle.table.specs.Outcome.{Outcome, accepted, refused, demand, ◌⨾◌}
use Rattle.model.specs.Calls.{Result, gives, refuses, answer, Filled, lent_after, fills}

-- a result and the bytes left are those of an outcome
abbrev pub Answers : Result ℕ → (after : List ℕ) → Filled → Type 0
Answers result after o = (result ≡ o.result) × (after ≡ o.lent)

module _ (room number : ℕ) (rest : Outcome) (written buffer : List ℕ) where
  abbrev checks : Outcome
  checks = demand (leb room (length buffer)) number 0 ⨾ rest

  abbrev filled : Filled
  filled = fills checks written buffer

  refused-so : (n p : ℕ) → checks ≡ refused n p → Answers (refuses n p) buffer filled
  refused-so n p e = (
    sym (ap (λ (o : Outcome). answer o (length written)) e),
    sym (ap (λ (o : Outcome). lent_after o written buffer) e),
  )

  pub too_small : length buffer < room → Answers (refuses number 0) buffer filled
  too_small h = refused-so number 0 (rw (lt-leb room (length buffer) h))

  pub with-room : room ≤ length buffer → checks ≡ rest
  with-room h = rw (le-leb room (length buffer) h)

  pub rest-refused : {n p : ℕ} → room ≤ length buffer → rest ≡ refused n p → Answers (refuses n p) buffer filled
  rest-refused {n} {p} h e = refused-so n p (with-room h ∙ e)

  -- `text`, which was written, is what was to be written
  pub rest-accepted : (r : ℕ) (after text : List ℕ) → room ≤ length buffer → rest ≡ accepted → text ≡ written
      → r ≡ length text → after ≡ text ++ drop (length text) buffer → Answers (gives r) after filled
  rest-accepted r after text h e whole count bytes =
      let fine : checks ≡ accepted = with-room h ∙ e in (
        ap gives (count ∙ ap length whole) ∙ sym (ap (λ (o : Outcome). answer o (length written)) fine),
        bytes ∙ ap (λ (t : List ℕ). t ++ drop (length t) buffer) whole ∙ sym (ap (λ (o : Outcome). lent_after o written buffer) fine),
      )
