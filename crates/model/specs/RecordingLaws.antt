-- What holds of two recordings (document 02, W3): where the remainder stands; what the verdict on them looks at and what it says; that it is the same
-- either way round; and that the longer goes on from the shorter one's end. `proofs/RecordingLaws.antt` proves it.
-- Assumes nothing: these are definitions.
use Rattle.std.specs.Prelude.{ℕ, ◌+◌, ◌≡◌, ◌↔◌, List, ◌++◌, length, take, drop}
use Rattle.table.specs.Outcome.{accepted}
use Rattle.table.specs.Read.{read_of}
use Rattle.trace.specs.Schedule.{accepted as all-taken, final}
use Rattle.trace.specs.Chain.{Chained}
use Rattle.model.specs.Site.{initial}
use Rattle.model.specs.Schedule.{machine, end_state, RefusalNumbers, check_from, check_schedule}
use Rattle.model.specs.Calls.{run_of, ready_of, SameVerdict, same, different, comparison_of}
use Rattle.model.specs.Page.{page_of}
use Rattle.model.specs.Demand3.{Accepted, Says}
use Rattle.model.specs.Recordings.{held, prefix_comparison_of, choose, Part, remainder_of, Slice, remainder_in}

-- ---- the longer and the shorter of two recordings; with equal lengths the first counts as the longer

module _ (p q : List ℕ) where
  abbrev pub remainder_part : Part
  remainder_part = remainder_of (length p) (length q)

  abbrev pub longer : List ℕ
  longer = choose remainder_part.recording p q

  abbrev pub shorter : List ℕ
  shorter = choose remainder_part.recording q p

  abbrev pub remainder : List ℕ
  remainder = take remainder_part.length (drop remainder_part.from longer)

-- the same of two recordings as they stand in the caller's memory
abbrev pub longer_slice : (a b : Slice) → Slice
longer_slice a b = choose (remainder_part a.bytes b.bytes).recording a b

-- what the call remainder hands back: the remainder, and it stands in the longer recording, right after as many bytes as the shorter has
pub record Handed (a b : Slice) : Type 0 where
  pub bytes : (remainder_in a b).bytes ≡ remainder a.bytes b.bytes
  pub block : (remainder_in a b).block ≡ (longer_slice a b).block
  pub offset : (remainder_in a b).offset ≡ (longer_slice a b).offset + length (shorter a.bytes b.bytes)
  pub longer-bytes : (longer_slice a b).bytes ≡ longer a.bytes b.bytes

-- a longer recording is made up of what is held of it and the remainder, which begins at the shorter's length; the shorter is held whole
pub record Split (shorter longer remainder : List ℕ) (from count : ℕ) : Type 0 where
  pub short : held shorter longer ≡ shorter
  pub long : held longer shorter ++ remainder ≡ longer
  pub begins : from ≡ length shorter
  pub counts : count ≡ length remainder

-- a longer recording goes on from a shorter one's end
pub record Continues (table shorter longer remainder : List ℕ) : Type 0 where
  -- its end state is what the remainder leaves there
  pub ends : end_state table longer ≡ final (machine table) (end_state table shorter) remainder
  -- it is accepted where the remainder is; otherwise it is refused at the same entry with the same number, as a first schedule and as a second
  pub accepts : all-taken (machine table) initial longer ≡ all-taken (machine table) (end_state table shorter) remainder
  pub checks : (n : RefusalNumbers) → check_schedule n table longer ≡ check_from n table (end_state table shorter) (length shorter) remainder
  -- and the calls answer of it as of the shorter with the remainder after it
  pub readies : ready_of table longer ≡ ready_of table (shorter ++ remainder)
  pub runs : (buffer : List ℕ) → run_of table longer buffer ≡ run_of table (shorter ++ remainder) buffer
  pub pages : (buffer : List ℕ) → page_of table longer buffer ≡ page_of table (shorter ++ remainder) buffer

-- of a table that the reader accepts
pub record Recordings (table : List ℕ) : Type 0 where
  -- same is said exactly where both parts are accepted and a chain leads from the one to the other, different where both are accepted and none does
  pub called_same : (p q : List ℕ)
      → Says (prefix_comparison_of table p q) same
      ↔ (Accepted table (held p q) × Accepted table (held q p) × Chained (machine table) initial (held p q) (held q p))
  pub called-different : (p q : List ℕ)
      → Says (prefix_comparison_of table p q) different
      ↔ (Accepted table (held p q) × Accepted table (held q p) × (¬ Chained (machine table) initial (held p q) (held q p)))
  -- recordings that are accepted whole get a verdict
  pub accepted-judged : (p q : List ℕ) → Accepted table p → Accepted table q → (v : SameVerdict) × Says (prefix_comparison_of table p q) v
  -- the verdict is the same either way round, and so is that of the call same
  pub either_way : (p q : List ℕ) (v : SameVerdict) → Says (prefix_comparison_of table p q) v → Says (prefix_comparison_of table q p) v
  pub same-either-way : (p q : List ℕ) (v : SameVerdict) → Says (comparison_of table p q) v → Says (comparison_of table q p) v
  -- where the parts are the same
  pub continues : (p q : List ℕ) → Says (prefix_comparison_of table p q) same → Continues table (shorter p q) (longer p q) (remainder p q)

pub record EveryRecording : Type 0 where
  -- of any two recordings: the remainder is what the call hands back, wherever they stand, and completes what is held
  pub handed : (a b : Slice) → Handed a b
  pub split : (p q : List ℕ) → Split (shorter p q) (longer p q) (remainder p q) (remainder_part p q).from (remainder_part p q).length
  -- of any table, one that the reader refuses too: with equal lengths the answer is that of the call same
  pub equal-lengths : (table p q : List ℕ) → length p ≡ length q → prefix_comparison_of table p q ≡ comparison_of table p q
  -- and whatever follows the parts, it is theirs
  pub unseen : (table p q more : List ℕ) → length p ≡ length q
      → (prefix_comparison_of table (p ++ more) q ≡ comparison_of table p q) × (prefix_comparison_of table p (q ++ more) ≡ comparison_of table p q)
  pub accepted-table : (table : List ℕ) → read_of table ≡ accepted → Recordings table
