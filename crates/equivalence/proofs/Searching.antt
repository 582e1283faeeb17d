-- The search step by step: what the steps before j have shown.
-- Assumes nothing.
use Prim.Native.Nat.{ℕ, suc, ◌+◌, ◌*◌, ◌<◌, ◌≤◌}
use native.Mathlib.Numerals.{add-one}
use native.Mathlib.Omega.{arith}
use mathlib.Core.Path.{◌≡◌, refl, sym, ◌∙◌, ap, subst}
use mathlib.Core.Bool.{true, false}
use mathlib.Core.List.{List}
use borrow.Author.Tests.{lt-ltb, le-ltb}
use lib.Dec.{ltb}
use lib.ListN.{get_or, replicate}
use Rattle.std.proofs.Common.{Option, Some, None}
use Rattle.std.specs.Option.{IsSome}
use Rattle.table.specs.Promise.{WellFormed}
use Rattle.trace.specs.Search.{going, ended, search_row}
use Rattle.trace.proofs.Bools.{contrary}
use Rattle.trace.proofs.Searched.{row-none, row-finds, search-stays}
use Rattle.names.specs.InByte.{name_of}
use Rattle.footprint.specs.declared.Latest.{Latest}
use Rattle.footprint.specs.Resources.{posted, looked}
use Rattle.footprint.specs.Latest.{latest_met, raised, Passed}
use Rattle.footprint.proofs.Ranges.{posted-fit, looked-fit}
use Rattle.answers.specs.declared.Comparison.TheVariants.{Different}
use Rattle.equivalence.specs.Parts.{place_in, crosses, search_of, Placed, FirstOf, Found}
use Rattle.equivalence.proofs.Below.{any_below, below-some, below_none}
use Rattle.equivalence.proofs.Latest.{latest-begins, latest-next}
use Rattle.equivalence.proofs.Crossing.{place_at, PostsBefore, LooksBefore, crossing-test}

module _ (table first : List ℕ) (index : List (Option ℕ)) (m : ℕ) where
  -- the steps before j are passed, and the search is going, with all of their pairs compared
  pub record Searching (latest : Latest) (pairs j : ℕ) : Type 0 where
    pub most : j ≤ m
    pub before : PostsBefore table first index latest.posts j
    pub seen : LooksBefore table first index latest.looks j
    pub so_far : search_of table first (place_in index first) j ≡ going pairs
    pub few : pairs ≤ 256 * j

  pub search-begins : (latest : Latest) → (latest.posts ≡ replicate 96 0) × (latest.looks ≡ replicate 96 0) → Searching latest 0 0
  search-begins latest none =
      record {
        most = omega arith;
        before = rw none.0 (latest-begins _ _ 96);
        seen = rw none.1 (latest-begins _ _ 96);
        so_far = refl;
        few = omega arith;
      }

  module _ (accepted : WellFormed table) (placed : Placed table first index m) {latest : Latest} {pairs j : ℕ} (known : Searching latest pairs j) (here : j < m)
      (latest' : Latest) {n met : ℕ} (named : n ≡ get_or first j 0)
      (passed : Passed table (name_of n) (place_in index first j) latest.posts latest.looks latest'.posts latest'.looks met) where
    test : ltb (place_in index first j) met ≡ any_below (λ i. crosses table first (place_in index first) i j) j
    test =
        ap (ltb (place_in index first j)) (passed.met ∙ ap (λ (b : ℕ). latest_met table (name_of b) latest.posts latest.looks) named)
        ∙ crossing-test table first index latest.posts latest.looks j known.before known.seen m accepted placed here

    -- ---- no earlier step is crossed

    pub search-next : met ≤ place_in index first j → Searching latest' (pairs + j) (j + 1)
    search-next later =
        record {
          most = omega arith;
          before = rw add-one (subst (λ (l : List ℕ). PostsBefore table first index l (suc j)) (sym posts-are) posts-next);
          seen = rw add-one (subst (λ (l : List ℕ). LooksBefore table first index l (suc j)) (sym looks-are) looks-next);
          so_far = rw add-one (ap (search_row (crosses table first (place_in index first)) j j) known.so_far ∙ row-none (crosses table first (place_in index first)) j j pairs none);
          few = omega (arith, known.few, placed.most);
        }
      where
        none : (i : ℕ) → i < j → crosses table first (place_in index first) i j ≡ false
        none = below_none (λ i. crosses table first (place_in index first) i j) j (sym test ∙ le-ltb (place_in index first j) met later)

        posts-are : latest'.posts ≡ raised (place_in index first j) (posted table (name_of (get_or first j 0))) latest.posts
        posts-are = passed.posts-raised ∙ ap (λ (b : ℕ). raised (place_in index first j) (posted table (name_of b)) latest.posts) named

        looks-are : latest'.looks ≡ raised (place_in index first j) (looked table (name_of (get_or first j 0))) latest.looks
        looks-are = passed.looks-raised ∙ ap (λ (b : ℕ). raised (place_in index first j) (looked table (name_of b)) latest.looks) named

        posts-next : PostsBefore table first index (raised (place_in index first j) (posted table (name_of (get_or first j 0))) latest.posts) (suc j)
        posts-next =
            latest-next _ (place_at table first index) latest.posts j known.before
            (rw latest.posts_long (posted-fit table accepted (name_of (get_or first j 0)) (placed.stand j here)))

        looks-next : LooksBefore table first index (raised (place_in index first j) (looked table (name_of (get_or first j 0))) latest.looks) (suc j)
        looks-next =
            latest-next _ (place_at table first index) latest.looks j known.seen
            (rw latest.looks_long (looked-fit table accepted (name_of (get_or first j 0)) (placed.stand j here)))

    -- ---- one is, and this is the earliest

    module _ (over : place_in index first j < met) where
      some : (i : ℕ) × (i < j) × (crosses table first (place_in index first) i j ≡ true)
      some = below-some (λ k. crosses table first (place_in index first) k j) j (sym test ∙ lt-ltb (place_in index first j) met over)

      pub is-crossed : (r : Option ℕ) → FirstOf (λ i. crosses table first (place_in index first) i j) j r → IsSome r
      is-crossed None none = contrary some.2 (none some.0 some.1)
      is-crossed (Some i) f = refl

      pub search-finds : {r : Option ℕ} {i : ℕ} → FirstOf (λ i. crosses table first (place_in index first) i j) j r → r ≡ Some i
          → Found (search_of table first (place_in index first) m) (Different (pairs + i + 1))
      search-finds {r} {i} earliest e =
          let first-one : FirstOf (λ i. crosses table first (place_in index first) i j) j (Some i) = rw e at earliest in
          let s : search_of table first (place_in index first) m ≡ ended (pairs + i + 1) =
          search-stays (crosses table first (place_in index first)) m (suc j) (pairs + i + 1) here
          (ap (search_row (crosses table first (place_in index first)) j j) known.so_far
          ∙ row-finds (crosses table first (place_in index first)) j j i pairs first-one.0 first-one.1 first-one.2) in
          record { verdict = rw s; counted = rw s }
