-- The drawn schedule (document 02, W4): a schedule made from a seed.
-- Assumes nothing: these are definitions.
use Rattle.std.specs.Prelude.{ℕ, zero, suc, ◌+◌, ◌-◌, ◌*◌, ◌/◌, ◌%◌, ◌^◌, Bool, ◌&&◌, cond, List, eqb}
use Rattle.model.specs.Ready.{bit, how_many}
use Rattle.model.specs.Calls.{Filled}
use Rattle.model.specs.Scheduler.{Rule, made_from, maker_of}

-- a draw replaces x, 32 bits
abbrev pub draw : ℕ → ℕ
draw x = (1664525 * x + 1013904223) % 2 ^ 32

-- and takes a rank, of the new x
abbrev pub rank_by : (x number_ready : ℕ) → ℕ
rank_by x number_ready = x / 65536 % number_ready

-- of the tests `f k`, `f (k + 1)`, .., `n` of them: where the one stands that holds and has this rank among those that hold, counted from 0 in
-- ascending order; past them all where none has it
abbrev pub ranked : (ℕ → Bool) → ℕ → ℕ → (rank : ℕ) → ℕ
ranked f zero k rank = k
ranked f (suc n) k rank = cond (f k && eqb rank 0) k (ranked f n (suc k) (rank - bit (f k)))

-- what is kept from turn to turn is x; a draw is made for every turn
abbrev pub drawing : Rule
drawing =
    record {
      chooses = λ x is_ready actors. ranked is_ready actors 0 (rank_by (draw x) (how_many is_ready actors 0));
      keeps = λ x actor. draw x;
    }

-- the schedule that a seed determines
abbrev pub drawn_from : (table : List ℕ) (seed : ℕ) → List ℕ
drawn_from table seed = made_from drawing table seed

unfoldable pub draw_of : (table : List ℕ) (seed : ℕ) (buffer : List ℕ) → Filled
draw_of table seed buffer = maker_of drawing table seed buffer
