-- What is proved of the definitions. The results:
-- `Laws`: the site of every table keeps the trace theory's laws;
-- `PairCases`: the pair verdict is document 01's four cases and document 02's fifth;
-- `ReadyMask`: the mask's bits and ones;
-- `Demand3`: demand 3, of every table that the reader accepts;
-- `Refusals`: a refused run, page or draw changes nothing lent;
-- `Reached`: what holds of every state that an accepted schedule reaches, from any start that has it;
-- `ReportBound`: no report passes the table's bound, nor 4,514 bytes;
-- `Determined`: two states are equal when their reports are;
-- `Depths`: a depth is what its actor's own Locks and Unlocks leave, at most 32;
-- `Journaled`: the journal is the Notes that were run, in their order, each once;
-- `PageShape`: every line of a page has 101 characters, and no page passes 816 bytes;
-- `SamePages`: exchanged schedules have the same page;
-- `Over`: a step whose total would run over never becomes ready, and exchanged schedules meet it at the same entry;
-- `RecordingLaws`: two recordings compared as far as both reach; the longer goes on from the shorter one's end;
-- `ComparisonLaws`: the number of pairs compared tells the pair that ended the search;
-- `Drawn`: the schedule that a seed determines, and what the call leaves of it;
-- `Routes`: the route call's promise can be kept;
-- `Beginnings`: a listing goes by the beginnings of its files alone.
pub mod Upd
pub mod Ports
pub mod ByKind
pub mod PairCases
pub mod Queues
pub mod Pairing
pub mod Invariant
pub mod Looks
pub mod NextSteps
pub mod Laws
pub mod ReadyMask
pub mod Checks
pub mod SameAnswers
pub mod Demand3
pub mod Refusals
pub mod Routes
pub mod ReportBoundCounts
pub mod ReportBoundNames
pub mod ReportBoundQueues
pub mod QueuedDepths
pub mod QueuedOnce
pub mod ReportBoundMail
pub mod ReachedQueued
pub mod ReachedPaired
pub mod ReachedMail
pub mod ReachedNoted
pub mod Reached
pub mod ReportBoundLengths
pub mod ReportBoundSteps
pub mod ReportBoundCells
pub mod ReportBoundValues
pub mod ReportBound
pub mod Parts
pub mod ReportSplit
pub mod SameReports
pub mod SameStates
pub mod Determined
pub mod Depths
pub mod Journaled
pub mod Decimal
pub mod Columns
pub mod PageShape
pub mod SamePages
pub mod Scheduled
pub mod Stuck
pub mod Over
pub mod SameVerdicts
pub mod RecordingLaws
pub mod ComparisonLaws
pub mod Fills
pub mod Ranked
pub mod Told
pub mod Drawn
pub mod TableBeginning
pub mod Beginnings
pub mod Cases
pub mod Examples
pub mod Reports
pub mod Corners
pub mod PageExamples
pub mod OverExamples
pub mod RecordingExamples
pub mod DrawExamples
pub mod JournalExamples
pub mod DepthExamples
pub mod Listings
pub mod Forecourt
pub mod ComparisonExamples
