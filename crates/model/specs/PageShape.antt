-- The shape of a page, in every state that an accepted schedule reaches: `proofs/PageShape.antt` proves it. And exchanged schedules have the same
-- page: `proofs/SamePages.antt`.
-- Assumes nothing: these are definitions.
use Rattle.std.specs.Prelude.{ℕ, ◌*◌, ◌<◌, ◌≤◌, ◌≡◌, Bool, true, false, ◌&&◌, List, [], ◌∷◌, leb, length, get_or, take}
use Rattle.table.specs.Format.{actors_of}
use Rattle.table.specs.Outcome.{accepted}
use Rattle.table.specs.Read.{read_of}
use Rattle.trace.specs.Chain.{Chain, replay}
use Rattle.trace.specs.Order.{has}
use Rattle.model.specs.Site.{Site, initial}
use Rattle.model.specs.Schedule.{machine, end_state}
use Rattle.model.specs.Text.{decimal, line_feed}
use Rattle.model.specs.Page.{status_of, actor_text, page, page_room, page_of}
use Rattle.model.specs.Determined.{Bytes}
use Rattle.model.specs.Demand3.{Accepted}

-- every character is one of ASCII's that are printed: from the space to the tilde
abbrev pub printable : List ℕ → Bool
printable [] = true
printable (c ∷ text) = (leb 32 c && leb c 126) && printable text

-- the line of an actor: 101 characters, and no line feed among them; its numbers fit their columns
pub record LineShape (table : List ℕ) (s : Site) (a : ℕ) : Type 0 where
  pub actor-fits : length (decimal a) ≡ 1
  pub position-fits : length (decimal (s.actor a).position) ≤ 2
  pub cells_fit : (c : ℕ) → length (decimal (get_or (s.actor a).cells c 0)) ≤ 10
  pub line-long : length (actor_text a (s.actor a) (status_of table s a)) ≡ 101
  pub line-printed : printable (actor_text a (s.actor a) (status_of table s a)) ≡ true
  pub no-line-feed : has (actor_text a (s.actor a) (status_of table s a)) line_feed ≡ false

pub record PageShape (table : List ℕ) (s : Site) : Type 0 where
  pub lines : (a : ℕ) → a < actors_of table → LineShape table s a
  -- 102 bytes an actor, at most 816
  pub page-long : length (page table s) ≡ 102 * actors_of table
  pub page-most : length (page table s) ≤ page_room

-- of a file of bytes that the reader accepts, at the end of any accepted schedule
abbrev pub PagesShaped : Type 0
PagesShaped = (table : List ℕ) → read_of table ≡ accepted → Bytes table → (p : List ℕ) → Accepted table p → PageShape table (end_state table p)

-- along a chain of exchanges, each schedule on the way and the last one leave the same page, the same answer and the same bytes in any buffer
abbrev pub SamePages : Type 0
SamePages = (table : List ℕ) → read_of table ≡ accepted → (chain p q : List ℕ) → Accepted table p → Chain (machine table) initial chain p q
    → (buffer : List ℕ)
    → ((n : ℕ) → page_of table (replay (take n chain) p) buffer ≡ page_of table p buffer) × (page_of table q buffer ≡ page_of table p buffer)
