-- The ending, and the ready answer: the mask, how many actors are ready, and the ending.
-- Assumes nothing: these are definitions.
use Rattle.std.specs.Prelude.{ℕ, zero, suc, ◌+◌, ◌*◌, ◌/◌, ◌%◌, ◌^◌, Bool, true, not, ◌&&◌, cond, List, eqb}
use Rattle.table.specs.Format.{actors_of}
use Rattle.model.specs.Site.{Site}
use Rattle.model.specs.Step.{unfinished, ready}

abbrev pub bit : Bool → ℕ
bit b = cond b 1 0

-- bit i of a mask, the lowest being bit 0
abbrev pub bit_of : (mask i : ℕ) → ℕ
bit_of mask i = mask / 2 ^ i % 2

-- of the tests `f k`, `f (k + 1)`, .., `n` of them: the number whose bit i, the lowest being 0, is the i-th; how many hold; whether all do
abbrev pub mask_of : (ℕ → Bool) → ℕ → ℕ → ℕ
mask_of f zero k = 0
mask_of f (suc n) k = bit (f k) + 2 * mask_of f n (suc k)

abbrev pub how_many : (ℕ → Bool) → ℕ → ℕ → ℕ
how_many f zero k = 0
how_many f (suc n) k = bit (f k) + how_many f n (suc k)

abbrev pub all : (ℕ → Bool) → ℕ → ℕ → Bool
all f zero k = true
all f (suc n) k = f k && all f n (suc k)

-- the ending: every actor finished; not finished, and nobody ready (a deadlock, where all that are left wait); going
pub data Ending : Type 0 where
  finished stuck going : Ending

abbrev pub ending_of : (everyone_finished : Bool) (number_ready : ℕ) → Ending
ending_of everyone_finished number_ready = cond everyone_finished finished (cond (eqb number_ready 0) stuck going)

-- "ready answer"
pub record ReadyAnswer : Type 0 where
  pub mask : ℕ
  pub count : ℕ
  pub ending : Ending

module _ (table : List ℕ) (s : Site) where
  abbrev pub ready_mask : ℕ
  ready_mask = mask_of (ready table s) (actors_of table) 0

  abbrev pub ready_count : ℕ
  ready_count = how_many (ready table s) (actors_of table) 0

  abbrev pub ending : Ending
  ending = ending_of (all (λ a. not (unfinished table s a)) (actors_of table) 0) ready_count

  unfoldable pub ready_answer : ReadyAnswer
  ready_answer = record { mask = ready_mask; count = ready_count; ending = ending }
