-- The report determines the state that an accepted schedule ends in.
-- Assumes nothing.
use Prim.Native.Nat.{ℕ}
use mathlib.Core.Path.{◌≡◌, ap}
use mathlib.Core.Bool.{true}
use mathlib.Core.List.{List}
use Rattle.table.specs.Promise.{WellFormed}
use Rattle.table.proofs.Promise.{promised}
use Rattle.trace.specs.Schedule.{accepted, final}
use Rattle.model.specs.Site.{Site, initial}
use Rattle.model.specs.Report.{report}
use Rattle.model.specs.Determined.{Bytes, ReportDetermines, EqualStates}
use Rattle.model.specs.Demand3.{Accepted}
use Rattle.model.specs.Schedule.{machine, end_state}
use Rattle.model.proofs.Reached.{reached-initial, reached-final}
use Rattle.model.proofs.ReportBoundCells.{eight-initial, eight-final}
use Rattle.model.proofs.ReportBoundValues.{small-initial, small-final}
use Rattle.model.proofs.SameReports.{Lossless, report-determines, report-same}
use Rattle.model.proofs.SameStates.{states-equal}

-- of any two states whose reports lose nothing
pub equal-lossless : (table : List ℕ) → WellFormed table → (s t : Site) → Lossless table s → Lossless table t → report table s ≡ report table t → s ≡ t
equal-lossless table ok s t i j e = states-equal table ok s t i.reached j.reached (report-determines table ok s t i j e)

-- such is the end of every accepted schedule, from any start that is such
pub lossless-final : (table : List ℕ) → Bytes table → (s : Site) (p : List ℕ) → Lossless table s → accepted (machine table) s p ≡ true
    → Lossless table (final (machine table) s p)
lossless-final table bytes s p i h =
    record {
      reached = reached-final table s p i.reached h;
      eight = eight-final table s p i.eight;
      small = small-final table bytes s p h i.small;
    }

pub lossless-initial : (table : List ℕ) → Lossless table initial
lossless-initial table = record { reached = reached-initial table; eight = eight-initial; small = small-initial }

pub lossless-end : (table : List ℕ) → Bytes table → (p : List ℕ) → Accepted table p → Lossless table (end_state table p)
lossless-end table bytes p h = lossless-final table bytes initial p (lossless-initial table) h

-- ---- from a fresh site

pub determined : ReportDetermines
determined table read bytes p q a b = (
  report-determines table (promised table read) (end_state table p) (end_state table q) (lossless-end table bytes p a) (lossless-end table bytes q b),
  report-same table (end_state table p) (end_state table q),
)

pub equal-states : EqualStates
equal-states table read bytes p q a b = (
  equal-lossless table (promised table read) (end_state table p) (end_state table q) (lossless-end table bytes p a) (lossless-end table bytes q b),
  ap (report table),
)
