-- The schedule that a seed determines (document 02, W4): what is proved of it, in `proofs/Drawn.antt`.
-- Assumes nothing: these are definitions.
use Rattle.std.specs.Prelude.{ℕ, ◌≤◌, ◌≡◌, true, false, List, [], ◌∷◌, length, take}
use Rattle.table.specs.Outcome.{accepted}
use Rattle.table.specs.Read.{read_of}
use Rattle.model.specs.Site.{Site, initial}
use Rattle.model.specs.Step.{ready, step}
use Rattle.model.specs.Ready.{how_many, ready_count}
use Rattle.model.specs.Calls.{gives}
use Rattle.model.specs.Scheduler.{schedule_room}
use Rattle.model.specs.Scheduled.{Scheduled, Told}
use Rattle.model.specs.Draw.{draw, rank_by, drawing, drawn_from, draw_of}

module _ (table : List ℕ) where
  -- how many ready actors come before an actor
  abbrev pub rank_in : Site → ℕ → ℕ
  rank_in s a = how_many (ready table s) a 0

  -- a schedule follows the rule from a state on: each entry is a ready actor of the state before it, with the rank that the draw of its turn takes,
  -- and nobody is ready at the end
  abbrev pub Follows : Site → (x : ℕ) → List ℕ → Type 0
  Follows s x [] = (a : ℕ) → ready table s a ≡ false
  Follows s x (a ∷ rest) =
      (ready table s a ≡ true) × (rank_in s a ≡ rank_by (draw x) (ready_count table s)) × Follows (step table s a) (draw x) rest

pub record Drawn (table : List ℕ) : Type 0 where
  pub scheduled : (seed : ℕ) → Scheduled drawing table seed
  -- it follows the rule, and no other schedule does
  pub follows : (seed : ℕ) → Follows table initial seed (drawn_from table seed)
  pub only : (seed : ℕ) (schedule : List ℕ) → Follows table initial seed schedule → schedule ≡ drawn_from table seed

abbrev pub EveryDraw : Type 0
EveryDraw = (table : List ℕ) → read_of table ≡ accepted → Drawn table

-- of every table, one that the reader refuses too: where the call answers n, the first n lent entries are the drawn schedule
abbrev pub DrawTold : Type 0
DrawTold = (table : List ℕ) (seed : ℕ) (buffer : List ℕ) (n : ℕ) → (draw_of table seed buffer).result ≡ gives n
    → Told table (drawn_from table seed) (draw_of table seed buffer) n

-- one table, one seed, and two buffers of enough room: the same answer, and the same entries whatever the buffers held
pub record DrawnAlike (table : List ℕ) (seed : ℕ) (buffer other : List ℕ) : Type 0 where
  pub answers : (draw_of table seed buffer).result ≡ (draw_of table seed other).result
  pub entries : (n : ℕ) → (draw_of table seed buffer).result ≡ gives n → take n (draw_of table seed buffer).lent ≡ take n (draw_of table seed other).lent

abbrev pub EqualDraws : Type 0
EqualDraws = (table : List ℕ) (seed : ℕ) (buffer other : List ℕ) → schedule_room ≤ length buffer → schedule_room ≤ length other → DrawnAlike table seed buffer other
