-- "Every refusal gives its number and a position, and changes nothing lent", of the calls that fill lent bytes: `proofs/Refusals.antt` proves it.
-- The route call's promise (`Route`, `RightAnswer`) says it by itself; no other call is lent anything to write.
-- Assumes nothing: these are definitions.
use Rattle.std.specs.Prelude.{ℕ, ◌≡◌, List}
use Rattle.model.specs.Calls.{refuses, Filled, run_of}
use Rattle.model.specs.Page.{page_of}
use Rattle.model.specs.Draw.{draw_of}

-- a call, by the buffer that it is lent
abbrev pub Keeps : (List ℕ → Filled) → Type 0
Keeps call = (buffer : List ℕ) (number position : ℕ) → (call buffer).result ≡ refuses number position → (call buffer).lent ≡ buffer

pub record RefusalsKeep (table schedule : List ℕ) : Type 0 where
  pub run : Keeps (run_of table schedule)
  pub page : Keeps (page_of table schedule)
  pub draw : (seed : ℕ) → Keeps (draw_of table seed)
