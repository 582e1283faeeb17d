-- What each answer of the public calls stands for: the documents' refusal with its number and position, and the model's value for each case. The
-- table reader's own answers are in the table's `Answer`.
-- Assumes nothing: these are definitions.
use Rattle.std.specs.Prelude.{ℕ, Result as Either, Ok, Err}
use Rattle.table.specs.Outcome.{Outcome, refused, number_of, position_of}
use Rattle.table.specs.Answer.{fault_of}
use Rattle.model.specs.Schedule.{RefusalNumbers, first_numbers, second_numbers}
use Rattle.model.specs.Ready as Model
use Rattle.model.specs.Calls as Calls
use Rattle.model.specs.Calls.{Result, gives, refuses, independent, dependent, same, different}
use Rattle.model.specs.Recordings as Recordings
use Rattle.answers.specs.declared.Stop.{Stop}
use Rattle.answers.specs.declared.Stop.TheVariants.{Absent, Finished, Waiting, Over}
use Rattle.answers.specs.declared.Refusal.{Refusal}
use Rattle.answers.specs.declared.Refusal.TheVariants as refusal
use Rattle.answers.specs.declared.Ending.{Ending}
use Rattle.answers.specs.declared.Ending.TheVariants as ending
use Rattle.answers.specs.declared.Readiness.{Readiness}
use Rattle.answers.specs.declared.PairVerdict.{PairVerdict}
use Rattle.answers.specs.declared.PairVerdict.TheVariants as pair
use Rattle.answers.specs.declared.Comparison.{Comparison}
use Rattle.answers.specs.declared.Comparison.TheVariants as compared
use Rattle.answers.specs.declared.Recording.{Recording}
use Rattle.answers.specs.declared.Recording.TheVariants as recording
use Rattle.answers.specs.declared.Part.{Part}

-- ---- refusals

abbrev pub recording_of : Recording → Recordings.Recording
recording_of recording.First = Recordings.the_first
recording_of recording.Second = Recordings.the_second

-- the numbers of a schedule's refusals, by which of the two it is
abbrev pub numbers_of : Recordings.Recording → RefusalNumbers
numbers_of recording = Recordings.choose recording first_numbers second_numbers

-- a schedule that stops at an entry: no such actor; finished; the step waits; it is an Add that runs over; by the numbers of its place, first or
-- second
abbrev pub stop_of : RefusalNumbers → Stop → Outcome
stop_of n (Absent i) = refused n.absent i
stop_of n (Finished i) = refused n.finished i
stop_of n (Waiting i) = refused n.waiting i
stop_of n (Over i) = refused n.over i

abbrev pub refusal_of : Refusal → Outcome
refusal_of (refusal.Table fault) = fault_of fault
refusal_of refusal.ReportRoom = refused 10 0
refusal_of (refusal.First stop) = stop_of first_numbers stop
refusal_of (refusal.Second stop) = stop_of second_numbers stop
refusal_of refusal.NoStep = refused 17 0
refusal_of refusal.RouteRoom = refused 18 0
refusal_of refusal.Different = refused 19 0
refusal_of refusal.PageRoom = refused 20 0
refusal_of refusal.ScheduleRoom = refused 23 0

abbrev pub refused_by : {A : Type 0} → Refusal → Result A
refused_by r = refuses (number_of (refusal_of r)) (position_of (refusal_of r))

-- ---- answers

-- a call gives what its `Ok` holds, or is refused
abbrev pub result_as : {A B : Type 0} → (A → B) → Either A Refusal → Result B
result_as value (Ok answer) = gives (value answer)
result_as value (Err r) = refused_by r

abbrev pub length_result : Either ℕ Refusal → Result ℕ
length_result = result_as (λ (length : ℕ). length)

abbrev pub ending_as : Ending → Model.Ending
ending_as ending.Finished = Model.finished
ending_as ending.Stuck = Model.stuck
ending_as ending.Going = Model.going

abbrev pub readiness_of : Readiness → Model.ReadyAnswer
readiness_of r = record { mask = r.mask; count = r.count; ending = ending_as r.ending }

abbrev pub ready_result : Either Readiness Refusal → Result Model.ReadyAnswer
ready_result = result_as readiness_of

abbrev pub verdict_as : PairVerdict → Calls.PairVerdict
verdict_as pair.Independent = independent
verdict_as pair.Dependent = dependent

abbrev pub pair_result : Either PairVerdict Refusal → Result Calls.PairVerdict
pair_result = result_as verdict_as

abbrev pub comparison_as : Comparison → Calls.Comparison
comparison_as (compared.Same pairs) = record { verdict = same; pairs = pairs }
comparison_as (compared.Different pairs) = record { verdict = different; pairs = pairs }

abbrev pub same_result : Either Comparison Refusal → Result Calls.Comparison
same_result = result_as comparison_as

abbrev pub part_of : Part → Recordings.Part
part_of p = record { recording = recording_of p.recording; from = p.from; length = p.length }
