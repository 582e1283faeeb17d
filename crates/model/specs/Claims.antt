-- Questions about the model at given inputs, with answers that compute: the form of document 01's marked cases and of our own examples.
-- Assumes nothing: these are definitions.
use Rattle.std.specs.Prelude.{ℕ, ◌≡◌, Bool, true, false, ◌&&◌, cond, List, [], ◌∷◌, ◌++◌, map, eqb, get_or, replicate, take}
use Prim.Native.String.{String}
use Rattle.table.specs.Outcome.{Outcome}
use Rattle.table.specs.Read.{read_of}
use Rattle.trace.specs.Machine.{Machine, Name}
use Rattle.trace.specs.Schedule.{accepted, names}
use Rattle.trace.specs.Chain.{swap_at, independent_at}
use Rattle.model.specs.Site.{Entry, Queued, initial}
use Rattle.model.specs.Ready.{ReadyAnswer}
use Rattle.model.specs.Report.{report}
use Rattle.model.specs.Schedule.{machine, end_state}
use Rattle.model.specs.Calls.{Result, gives, refuses, Filled, report_room, run_of, ready_of, PairVerdict, pair_of, SameVerdict, Comparison, comparison_of}
use Rattle.model.specs.Recordings.{prefix_comparison_of, Part, remainder_of, Slice, remainder_in}
use Rattle.model.specs.Scheduler.{schedule_room}
use Rattle.model.specs.Draw.{draw, draw_of}
use Rattle.model.specs.Route.{route_checks}
use Rattle.model.specs.Text.{ascii, line}
use Rattle.model.specs.Page.{page_room, page_of}
use Rattle.model.specs.ComparisonLaws.{verdict_in}

-- two lists of numbers are equal
abbrev pub eq_list : List ℕ → List ℕ → Bool
eq_list [] [] = true
eq_list [] (y ∷ m) = false
eq_list (x ∷ l) [] = false
eq_list (x ∷ l) (y ∷ m) = eqb x y && eq_list l m

-- these positions are a chain from the first schedule to the second
abbrev pub is_chain : (M : Machine) → M.State → (positions first second : List ℕ) → Bool
is_chain M s [] p q = eq_list p q
is_chain M s (k ∷ ks) p q = (accepted M s p && independent_at M.dep k (names M s p)) && is_chain M s ks (swap_at k p) q

-- how two schedules end: with equal reports, with different ones, or one of them is not accepted
pub data Ends : Type 0 where
  alike apart unaccepted : Ends

abbrev pub compare_ends : (table first second : List ℕ) → Ends
compare_ends table first second =
    cond
    (accepted (machine table) initial first && accepted (machine table) initial second)
    (cond (eq_list (report table (end_state table first)) (report table (end_state table second))) alike apart)
    unaccepted

-- what a call has written: of the lent bytes, as many from the first on as it answers; nothing after a refusal
abbrev pub front : Result ℕ → (lent : List ℕ) → List ℕ
front (gives n) lent = take n lent
front (refuses number position) lent = []

abbrev pub written_by : Filled → List ℕ
written_by f = front f.result f.lent

-- quoted lines as bytes, each with its line feed
abbrev pub lines : List String → List ℕ
lines [] = []
lines (l ∷ rest) = line (ascii l) ++ lines rest

pub data Question : Type 0 where
  -- what reading the table gives
  read : (table : List ℕ) → Question
  -- the result of a run with a report buffer of so many zeros; the report that a run leaves in 4,514 zeros; what a cell of an actor holds after
  -- the schedule; the queue of a mutex after it; the journal after it
  run_in : (room : ℕ) (table schedule : List ℕ) → Question
  bytes : (table schedule : List ℕ) → Question
  cell : (table schedule : List ℕ) (actor number : ℕ) → Question
  queue : (table schedule : List ℕ) (mutex : ℕ) → Question
  journal : (table schedule : List ℕ) → Question
  -- the result of the page call with a buffer of so many zeros; the page that it leaves in 816 zeros
  page_in : (room : ℕ) (table schedule : List ℕ) → Question
  page : (table schedule : List ℕ) → Question
  -- the results of ready and pair
  ready : (table schedule : List ℕ) → Question
  pair : (table : List ℕ) (x y : Name) → Question
  -- the answer of the call same, and of the call prefix: the verdict, and how many pairs were compared; and the verdict in it alone
  compares : (table first second : List ℕ) → Question
  compares_parts : (table first second : List ℕ) → Question
  are_same : (table first second : List ℕ) → Question
  prefix : (table first second : List ℕ) → Question
  -- the remainder of two recordings, by their lengths and as bytes where they stand
  remains : (first_length second_length : ℕ) → Question
  remainder : (first second : Slice) → Question
  -- what a draw makes of x; the result of the draw call with a buffer of so many zeros; the entries that it leaves in 256 zeros; all that it leaves
  -- in a buffer
  next_x : (x : ℕ) → Question
  draw_in : (room : ℕ) (table : List ℕ) (seed : ℕ) → Question
  drawn : (table : List ℕ) (seed : ℕ) → Question
  drawn_over : (buffer table : List ℕ) (seed : ℕ) → Question
  -- whether the positions are a route from the first schedule to the second; what the route call's checks give with a buffer of so many entries;
  -- how the two end
  is_route : (table positions first second : List ℕ) → Question
  route_in : (room : ℕ) (table first second : List ℕ) → Question
  ends : (table first second : List ℕ) → Question

-- the result of a run with a report buffer of 4,514 zeros
abbrev pub run : (table schedule : List ℕ) → Question
run table schedule = run_in report_room table schedule

pub data Answer : Type 0 where
  outcome : Outcome → Answer
  ran : Result ℕ → Answer
  written : List ℕ → Answer
  holds : (value : ℕ) → Answer
  queued : List Queued → Answer
  entries : List Entry → Answer
  readied : Result ReadyAnswer → Answer
  paired : Result PairVerdict → Answer
  judged : Result SameVerdict → Answer
  counted : Result Comparison → Answer
  part : Part → Answer
  handed : Slice → Answer
  routed : Bool → Answer
  ended : Ends → Answer

-- the model's answer
abbrev pub ask : Question → Answer
ask (read table) = outcome (read_of table)
ask (run_in room table schedule) = ran (run_of table schedule (replicate room 0)).result
ask (bytes table schedule) = written (written_by (run_of table schedule (replicate report_room 0)))
ask (cell table schedule actor number) = holds (get_or ((end_state table schedule).actor actor).cells number 0)
ask (queue table schedule mutex) = queued ((end_state table schedule).queue mutex)
ask (journal table schedule) = entries (end_state table schedule).journal
ask (page_in room table schedule) = ran (page_of table schedule (replicate room 0)).result
ask (page table schedule) = written (written_by (page_of table schedule (replicate page_room 0)))
ask (ready table schedule) = readied (ready_of table schedule)
ask (pair table x y) = paired (pair_of table x y)
ask (compares table first second) = counted (comparison_of table first second)
ask (compares_parts table first second) = counted (prefix_comparison_of table first second)
ask (are_same table first second) = judged (verdict_in (comparison_of table first second))
ask (prefix table first second) = judged (verdict_in (prefix_comparison_of table first second))
ask (remains first_length second_length) = part (remainder_of first_length second_length)
ask (remainder first second) = handed (remainder_in first second)
ask (next_x x) = holds (draw x)
ask (draw_in room table seed) = ran (draw_of table seed (replicate room 0)).result
ask (drawn table seed) = written (written_by (draw_of table seed (replicate schedule_room 0)))
ask (drawn_over buffer table seed) = written (draw_of table seed buffer).lent
ask (is_route table positions first second) = routed (is_chain (machine table) initial positions first second)
ask (route_in room table first second) = outcome (route_checks table first second (replicate room 0))
ask (ends table first second) = ended (compare_ends table first second)

-- a claim: the question has this answer
pub record Claim : Type 0 where
  pub question : Question
  pub answer : Answer

infix 70 ◌⇒◌
abbrev pub ◌⇒◌ : Question → Answer → Claim
question ⇒ answer = record { question = question; answer = answer }

-- the model answers every claim of the list as it says
abbrev pub AllHold : List Claim → Type 0
AllHold claims = map (λ c. ask c.question) claims ≡ map (λ c. c.answer) claims
