-- The same verdict from its parts: the names all found, and then the search through the pairs.
-- Assumes nothing.
use Prim.Native.Nat.{ℕ}
use mathlib.Core.Path.{◌≡◌, refl, sym, ◌∙◌, ap}
use mathlib.Core.Bool.{Bool, true, false, not, cond}
use mathlib.Core.List.{List}
use lib.ListN.{take}
use Rattle.std.proofs.Common.{Option}
use Rattle.std.specs.List.{list_any}
use Rattle.trace.specs.Order.{within}
use Rattle.trace.specs.Search.{Search, compared_in, has_ended}
use Rattle.trace.proofs.Places.{search-reorders}
use Rattle.model.specs.Pair.{depends}
use Rattle.model.specs.Calls.{same, different}
use Rattle.names.specs.Names.{names_in}
use Rattle.answers.specs.declared.Comparison.{Comparison}
use Rattle.answers.specs.declared.Comparison.TheVariants.{Different}
use Rattle.equivalence.specs.Compared.{Compared}
use Rattle.equivalence.specs.Judged.{Judges}
use Rattle.equivalence.specs.Parts.{Indexed, absent, place_in, Placed, search_of, Found}
use Rattle.equivalence.proofs.Named.{all_found, all_placed}
use Rattle.equivalence.proofs.Pairs.{placed, search-named}

module _ (table first second : List ℕ) (m : ℕ) (compared : Compared table first second m) (index : List (Option ℕ)) (indexed : Indexed second m index)
    (r : Bool) (e : r ≡ list_any (absent index) (take m first))
  where
    found : not r ≡ within (names_in m first) (names_in m second)
    found = ap not e ∙ all_found table first second m compared index indexed

    pub names-differ : r ≡ true → Judges (depends table) (names_in m first) (names_in m second) (Different 0)
    names-differ t =
        let lacks : within (names_in m first) (names_in m second) ≡ false = sym found ∙ ap not t in
        record { verdict = rw lacks; counted = rw lacks }

    module _ (f : r ≡ false) where
      pub names-placed : Placed table first index m
      names-placed =
          placed table first second m compared index
          (all_placed table first second m compared index indexed (sym e ∙ f))

      pub names-agree : (c : Comparison) → Found (search_of table first (place_in index first) m) c → Judges (depends table) (names_in m first) (names_in m second) c
      names-agree c s =
          let has_all : within (names_in m first) (names_in m second) ≡ true = sym found ∙ ap not f in
          let named =
          search-named table first second m compared index
          (all_placed table first second m compared index indexed (sym e ∙ f)) in
          record {
            verdict =
                rw has_all
                (s.verdict ∙ ap (λ (x : Search). cond (has_ended x) different same) named
                ∙ ended-as (has_ended _) ∙ ap (λ (b : Bool). cond (not b) same different) (search-reorders (depends table) (names_in m first) (names_in m second)));
            counted = rw has_all (s.counted ∙ ap compared_in named);
          }
        where
          ended-as : (b : Bool) → cond b different same ≡ cond (not b) same different
          ended-as true = refl
          ended-as false = refl
