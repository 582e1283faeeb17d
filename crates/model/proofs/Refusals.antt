-- A refused call leaves the lent bytes as they were.
-- Assumes nothing.
use Prim.Native.Nat.{ℕ}
use mathlib.Core.Path.{◌≡◌, refl}
use mathlib.Core.List.{List}
use native.Mathlib.Omega.{arith}
use Rattle.table.specs.Outcome.{Outcome, accepted, refused}
use Rattle.model.specs.Report.{report}
use Rattle.model.specs.Schedule.{end_state}
use Rattle.model.specs.Calls.{gives, refuses, fills, run_checks, run_of}
use Rattle.model.specs.Page.{page, page_checks, page_of}
use Rattle.model.specs.Scheduler.{maker_checks}
use Rattle.model.specs.Draw.{drawn_from, draw_of}
use Rattle.model.specs.Refusals.{RefusalsKeep}

given-not : {n : ℕ} {number position : ℕ} {A : Type 0} → gives n ≡ refuses number position → A
given-not e = let z : ◌≡◌ {A = ℕ} 0 1 = cc in absurd (omega arith)

keeps : (o : Outcome) (written buffer : List ℕ) (number position : ℕ) → (fills o written buffer).result ≡ refuses number position
    → (fills o written buffer).lent ≡ buffer
keeps accepted written buffer number position e = given-not e
keeps (refused m p) written buffer number position e = refl

pub refusals-keep : (table schedule : List ℕ) → RefusalsKeep table schedule
unfolding run_of page_of draw_of
refusals-keep table schedule =
    record {
      run = λ buffer. keeps (run_checks table schedule buffer) (report table (end_state table schedule)) buffer;
      page = λ buffer. keeps (page_checks table schedule buffer) (page table (end_state table schedule)) buffer;
      draw = λ seed buffer. keeps (maker_checks table buffer) (drawn_from table seed) buffer;
    }
