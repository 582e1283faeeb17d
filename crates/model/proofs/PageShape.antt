-- The shape of a page: each number fits its columns, so each line has 101 characters, and the page 102 bytes an actor.
-- Assumes nothing.
use Prim.Native.Nat.{ℕ, suc, ◌+◌, ◌<◌, ◌≤◌}
use native.Mathlib.Omega.{arith}
use mathlib.Core.Path.{◌≡◌, refl, ◌∙◌, ap}
use mathlib.Core.Bool.{true}
use mathlib.Core.List.{List, [], ◌∷◌, ◌++◌}
use lib.ListN.{length, get_or, length-append}
use Rattle.table.specs.Format.{actors_of, count_of}
use Rattle.table.specs.Promise.{WellFormed}
use Rattle.table.proofs.Promise.{promised}
use Rattle.model.specs.Site.{Actor, Site}
use Rattle.model.specs.Schedule.{end_state}
use Rattle.model.specs.Text.{decimal, space, left, right, line}
use Rattle.model.specs.Page.{Status, ready, waits, over, finished, status_of, status_word, cells_text, actor_text, page}
use Rattle.model.specs.PageShape.{printable, LineShape, PageShape, PagesShaped}
use Rattle.model.proofs.Decimal.{decimal-small, decimal-most, ten-digits}
use Rattle.model.proofs.Columns.{length-right, printed-append, printed-decimal, printed-right, printed-parts, no-feed}
use Rattle.model.proofs.Parts.{equal-parts}
use Rattle.model.proofs.ReportBoundValues.{SmallSite, small-end}
use Rattle.model.proofs.Reached.{reached-end}

-- ---- an actor's line

pub word-long : (status : Status) → length (left 8 (status_word status)) ≡ 8
word-long ready = refl
word-long waits = refl
word-long over = refl
word-long finished = refl

word-printed : (status : Status) → printable (left 8 (status_word status)) ≡ true
word-printed ready = refl
word-printed waits = refl
word-printed over = refl
word-printed finished = refl

module _ (cells : List ℕ) where
  cells-long : ((c : ℕ) → length (decimal (get_or cells c 0)) ≤ 10) → length (cells_text cells) ≡ 88
  cells-long fit = equal-parts (λ c. space ∷ right 10 (decimal (get_or cells c 0))) 11 8 0 (λ c l h. ap suc (length-right 10 (decimal (get_or cells c 0)) (fit c)))

  cells-printed : printable (cells_text cells) ≡ true
  cells-printed = printed-parts (λ c. space ∷ right 10 (decimal (get_or cells c 0))) 8 0 (λ c. printed-right 10 (decimal (get_or cells c 0)) (printed-decimal (get_or cells c 0)))

module _ (a : ℕ) (r : Actor) (status : Status) where
  text-long : length (decimal a) ≡ 1 → length (decimal r.position) ≤ 2 → ((c : ℕ) → length (decimal (get_or r.cells c 0)) ≤ 10)
      → length (actor_text a r status) ≡ 101
  text-long one two ten =
      let actor : length (right 1 (decimal a)) ≡ 1 = length-right 1 (decimal a) (omega arith) in
      let position : length (right 2 (decimal r.position)) ≡ 2 = length-right 2 (decimal r.position) two in
      let word : length (left 8 (status_word status)) ≡ 8 = word-long status in
      let cells : length (cells_text r.cells) ≡ 88 = cells-long r.cells ten in
      omega (
        arith,
        length-append (right 1 (decimal a)) ((space ∷ right 2 (decimal r.position)) ++ ((space ∷ left 8 (status_word status)) ++ cells_text r.cells)),
        length-append (space ∷ right 2 (decimal r.position)) ((space ∷ left 8 (status_word status)) ++ cells_text r.cells),
        length-append (space ∷ left 8 (status_word status)) (cells_text r.cells),
      )

  text-printed : printable (actor_text a r status) ≡ true
  text-printed =
      printed-append (right 1 (decimal a)) _ (printed-right 1 (decimal a) (printed-decimal a))
      (printed-append (space ∷ right 2 (decimal r.position)) _ (printed-right 2 (decimal r.position) (printed-decimal r.position))
      (printed-append (space ∷ left 8 (status_word status)) _ (word-printed status) (cells-printed r.cells)))

-- ---- the page

-- of any state whose positions and cells are as they should be
module _ (table : List ℕ) (ok : WellFormed table) (s : Site) (most : (a : ℕ) → (s.actor a).position ≤ count_of table a) (small : SmallSite s) where
  line-shape : (a : ℕ) → a < actors_of table → LineShape table s a
  line-shape a h =
      let one : length (decimal a) ≡ 1 = ap length (decimal-small a (omega (arith, ok.actors-most))) in
      let two : length (decimal (s.actor a).position) ≤ 2 = decimal-most 1 (s.actor a).position (omega (arith, most a, ok.actions-most a h)) in
      let ten : (c : ℕ) → length (decimal (get_or (s.actor a).cells c 0)) ≤ 10 = λ c. ten-digits (get_or (s.actor a).cells c 0) (small.cells a c) in
      let status : Status = status_of table s a in
      let printed : printable (actor_text a (s.actor a) status) ≡ true = text-printed a (s.actor a) status in
      record {
        actor-fits = one;
        position-fits = two;
        cells_fit = ten;
        line-long = text-long a (s.actor a) status one two ten;
        line-printed = printed;
        no-line-feed = no-feed (actor_text a (s.actor a) status) printed;
      }

  pub page-shape : PageShape table s
  unfolding page
  page-shape =
      let long = equal-parts (λ a. line (actor_text a (s.actor a) (status_of table s a))) 102 (actors_of table) 0
      (λ a l h. length-append (actor_text a (s.actor a) (status_of table s a)) (10 ∷ []) ∙ ap (λ (n : ℕ). n + 1) (line-shape a (omega arith)).line-long) in
      record { lines = line-shape; page-long = long; page-most = omega (arith, long, ok.actors-most) }

pub pages-shaped : PagesShaped
pages-shaped table read bytes p h =
    page-shape table (promised table read) (end_state table p) (reached-end table p h).position-most (small-end table bytes p h)
