-- The pairs of steps: those that cross are the dependent pairs that the second list holds in the opposite order; and steps of one actor have rising
-- places. Assumes nothing.
use Prim.Native.Nat.{ℕ, ◌<◌, ◌≤◌}
use native.Mathlib.Omega.{arith}
use mathlib.Core.Path.{◌≡◌, sym, ◌∙◌, ap}
use mathlib.Core.Bool.{Bool, true, false, ◌&&◌, and_comm}
use mathlib.Core.List.{List}
use borrow.Author.Tests.{ltb-false}
use lib.Dec.{ltb}
use lib.ListN.{length, get_or, take, length-map}
use lib.Seq.{length-take-le}
use Rattle.std.proofs.Common.{Option}
use Rattle.trace.specs.Order.{mem, before}
use Rattle.trace.specs.Route.{place}
use Rattle.trace.specs.Search.{search, opposed}
use Rattle.trace.proofs.Places.{before-place}
use Rattle.trace.proofs.Searched.{search-alike}
use Rattle.model.specs.Pair.{depends}
use Rattle.names.specs.InByte.{name_of}
use Rattle.names.specs.Names.{names_in}
use Rattle.names.proofs.NamedBytes.{entry_named, before-named}
use Rattle.equivalence.specs.Compared.{Compared}
use Rattle.equivalence.specs.Parts.{absent, place_in, crosses, search_of, Placed}

module _ (table first second : List ℕ) (m : ℕ) (compared : Compared table first second m) (index : List (Option ℕ))
    (found : (i : ℕ) → i < m
    → (absent index (get_or first i 0) ≡ false) × (mem (name_of (get_or first i 0)) (names_in m second) ≡ true)
    × (place_in index first i ≡ place (name_of (get_or first i 0)) (names_in m second)))
  where
    first_fits : m ≤ length first
    first_fits = omega (arith, compared.most, compared.first-long)

    -- two places are in the order of the second list
    turned : (i j : ℕ) → i < m → j < m
        → ltb (place_in index first j) (place_in index first i) ≡ before (name_of (get_or first j 0)) (name_of (get_or first i 0)) (names_in m second)
    turned i j h l =
        (λ k. ltb ((found j l).2 k) ((found i h).2 k))
        ∙ sym
        (before-place (name_of (get_or first j 0)) (name_of (get_or first i 0)) (names_in m second) compared.second-distinct (found j l).1 (found i h).1)

    pub placed : Placed table first index m
    placed =
        record {
          most = compared.most;
          stand = compared.stand;
          there = λ i h. (found i h).0;
          own-order =
              λ i j h l e.
              ltb-false (place_in index first j) (place_in index first i)
              (turned i j (omega arith) l
              ∙ compared.own-order (name_of (get_or first i 0)) (name_of (get_or first j 0)) e
              (before-named m first i j compared.first-distinct h l first_fits));
        }

    crosses-opposed : (j : ℕ) → j < m → (i : ℕ) → i < j
        → crosses table first (place_in index first) i j ≡ opposed (depends table) (names_in m first) (names_in m second) i j
    crosses-opposed j l i h =
        let i< : i < m = omega arith in
        let p = entry_named m first i i< in
        let q = entry_named m first j l in
        ap (λ (b : Bool). b && depends table (name_of (get_or first i 0)) (name_of (get_or first j 0))) (turned i j i< l)
        ∙ and_comm _ (depends table (name_of (get_or first i 0)) (name_of (get_or first j 0)))
        ∙ sym (λ k. depends table (p k) (q k) && before (q k) (p k) (names_in m second))

    pub search-named : search_of table first (place_in index first) m
        ≡ search (opposed (depends table) (names_in m first) (names_in m second)) (length (names_in m first))
    search-named =
        let all : length (names_in m first) ≡ m = length-map (take m first) name_of ∙ length-take-le m first first_fits in
        search-alike (crosses table first (place_in index first)) (opposed (depends table) (names_in m first) (names_in m second)) m crosses-opposed
        ∙ sym (ap (search (opposed (depends table) (names_in m first) (names_in m second))) all)
