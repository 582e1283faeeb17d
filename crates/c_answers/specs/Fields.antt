-- The C structs' fields: `refusal` 0 where accepted, and then the answer; otherwise the refusal's number with its position, and 0 elsewhere. A
-- remainder has none of it.
-- Assumes nothing: these are definitions.
use Rattle.std.specs.Prelude.{ℕ, ◌≡◌, List}
use Rattle.table.specs.Outcome.{Outcome, number_of, position_of}
use Rattle.model.specs.Ready.{Ending, finished, stuck, going, ReadyAnswer}
use Rattle.model.specs.Calls.{Result, gives, refuses, PairVerdict, independent, dependent, SameVerdict, same, different, Comparison}
use Rattle.model.specs.Recordings.{Recording, the_first, the_second, Part}
use Rattle.model.specs.Route.{RightRoute}
use Rattle.c_answers.specs.declared.OrderCheck.{OrderCheck}
use Rattle.c_answers.specs.declared.OrderLength.{OrderLength}
use Rattle.c_answers.specs.declared.OrderReady.{OrderReady}
use Rattle.c_answers.specs.declared.OrderPair.{OrderPair}
use Rattle.c_answers.specs.declared.OrderSame.{OrderSame}
use Rattle.c_answers.specs.declared.OrderRemainder.{OrderRemainder}

-- of a table that is read
abbrev pub check_fields : Outcome → OrderCheck
check_fields o = record { refusal = number_of o; position = position_of o }

-- of run, page, draw and route
abbrev pub length_fields : Result ℕ → OrderLength
length_fields (gives length) = record { refusal = 0; position = 0; length = length }
length_fields (refuses number position) = record { refusal = number; position = position; length = 0 }

abbrev pub ending_number : Ending → ℕ
ending_number finished = 0
ending_number stuck = 1
ending_number going = 2

abbrev pub ready_fields : Result ReadyAnswer → OrderReady
ready_fields (gives a) = record { refusal = 0; position = 0; mask = a.mask; count = a.count; ending = ending_number a.ending }
ready_fields (refuses number position) = record { refusal = number; position = position; mask = 0; count = 0; ending = 0 }

abbrev pub pair_number : PairVerdict → ℕ
pair_number independent = 0
pair_number dependent = 1

abbrev pub pair_fields : Result PairVerdict → OrderPair
pair_fields (gives v) = record { refusal = 0; position = 0; verdict = pair_number v }
pair_fields (refuses number position) = record { refusal = number; position = position; verdict = 0 }

abbrev pub same_number : SameVerdict → ℕ
same_number different = 0
same_number same = 1

-- of same and prefix
abbrev pub same_fields : Result Comparison → OrderSame
same_fields (gives c) = record { refusal = 0; position = 0; verdict = same_number c.verdict; pairs = c.pairs }
same_fields (refuses number position) = record { refusal = number; position = position; verdict = 0; pairs = 0 }

abbrev pub recording_number : Recording → ℕ
recording_number the_first = 1
recording_number the_second = 2

-- the remainder call refuses nothing, so there is no refusal to tell
abbrev pub remainder_fields : Part → OrderRemainder
remainder_fields p = record { recording = recording_number p.recording; from = p.from; length = p.length }

-- the fields of a right answer of the route call, with the buffer before and after it
abbrev pub RightFields : (table first second before after : List ℕ) → OrderLength → Type 0
RightFields table first second before after r = (result : Result ℕ) × RightRoute table first second before after result × (r ≡ length_fields result)
