-- The number of document 01 for each refusal of the reader, and its position.
-- Assumes nothing.
use Rattle.std.specs.Prelude.{⊤, Result, Ok, Err}
use Rattle.table.specs.declared.Fault.{Fault}
use Rattle.table.specs.declared.Fault.TheVariants.{Short, Edition, Counts, Directory, Length, Kind, Range, Listed, Unused}
use Rattle.table.specs.Outcome.{Outcome, accepted, refused}

abbrev pub fault_of : Fault → Outcome
fault_of Short = refused 1 0
fault_of Edition = refused 2 0
fault_of Counts = refused 3 0
fault_of Directory = refused 4 0
fault_of Length = refused 5 0
fault_of (Kind at) = refused 6 at
fault_of (Range at) = refused 7 at
fault_of (Listed at) = refused 8 at
fault_of (Unused at) = refused 9 at

abbrev pub outcome : Result ⊤ Fault → Outcome
outcome (Ok done) = accepted
outcome (Err fault) = fault_of fault
