-- Listings at given inputs: document 01's five lines, the other two endings, and refusals. `proofs/Listings.antt` computes them.
-- Assumes nothing: these are definitions.
use Rattle.std.specs.Prelude.{ℕ, ◌≡◌, List, [], ◌∷◌, map, set}
use Prim.Native.String.{String}
use Rattle.model.specs.Listing.{listing_of}
use Rattle.model.specs.Claims.{lines}
use Rattle.model.specs.Cases.{table_a}
use Rattle.model.specs.Examples.{site, receive, wait_any}
use Rattle.model.specs.OverExamples.{alone, double}

-- a table, a schedule and their listing, line by line
pub record Listed : Type 0 where
  pub table : List ℕ
  pub schedule : List ℕ
  pub text : List String

abbrev pub listings : List Listed
listings =
    -- document 01's run of table A
    record {
      table = table_a;
      schedule = 0 ∷ 1 ∷ 0 ∷ 1 ∷ [];
      text = "0 0" ∷ "1 0" ∷ "0 1" ∷ "1 1" ∷ "end finished" ∷ [];
    }
    -- the empty schedule
    ∷ record { table = table_a; schedule = []; text = "end going" ∷ [] }
    -- one actor that waits for what nobody sends
    ∷ record {
      table = site ((receive ∷ wait_any ∷ []) ∷ []);
      schedule = 0 ∷ [];
      text = "0 0" ∷ "end stuck" ∷ [];
    }
    -- a step that waits
    ∷ record {
      table = table_a;
      schedule = 1 ∷ 1 ∷ [];
      text = "refused 13 at 1" ∷ [];
    }
    -- an Add that would run over: not stepped it leaves the site stuck, stepped it is refused
    ∷ record {
      table = alone (double 2147483648);
      schedule = 0 ∷ [];
      text = "0 0" ∷ "end stuck" ∷ [];
    }
    ∷ record {
      table = alone (double 2147483648);
      schedule = 0 ∷ 0 ∷ [];
      text = "refused 21 at 1" ∷ [];
    }
    -- both files absent
    ∷ record {
      table = [];
      schedule = [];
      text = "refused 1 at 0" ∷ [];
    }
    -- an unknown kind
    ∷ record {
      table = set table_a 12 255;
      schedule = 0 ∷ [];
      text = "refused 6 at 12" ∷ [];
    }
    ∷ []

abbrev pub ListingsHold : Type 0
ListingsHold = map (λ l. listing_of l.table l.schedule) listings ≡ map (λ l. lines l.text) listings
