-- A made schedule, told by the calls: what a maker that answers has left in the lent entries, and what the call ready says of it.
-- Assumes of the rule that it chooses an actor that is ready where one is, and nothing else.
use Prim.Native.Nat.{ℕ}
use mathlib.Core.Path.{◌≡◌, sym, ◌∙◌, ap}
use mathlib.Core.List.{List, ◌++◌}
use lib.Dec.{leb}
use lib.ListN.{length, take, drop}
use lib.Seq.{take-append_seam}
use Rattle.table.specs.Outcome.{Outcome, accepted, demand}
use Rattle.table.specs.Read.{read_of}
use Rattle.table.proofs.Checks.{then-right}
use Rattle.table.proofs.Promise.{promised}
use Rattle.model.specs.Ready.{ready_answer}
use Rattle.model.specs.Schedule.{end_state}
use Rattle.model.specs.Calls.{gives, lent_after, ready_of}
use Rattle.model.specs.Scheduler.{Rule, schedule_room, made_from, maker_checks, maker_of}
use Rattle.model.specs.Scheduled.{Scheduled, Told}
use Rattle.model.proofs.Checks.{given-accepted, answer-given, gives-injective}
use Rattle.model.proofs.Demand3.{ready-given}
use Rattle.model.proofs.Scheduled.{Chooses, scheduled}

pub made_told : (rule : Rule) → Chooses rule → (table : List ℕ) (start : ℕ) (buffer : List ℕ) (n : ℕ) → (maker_of rule table start buffer).result ≡ gives n
    → Told table (made_from rule table start) (maker_of rule table start buffer) n
unfolding ready_answer
made_told rule chooses table start buffer n h =
    let made : List ℕ = made_from rule table start in
    let checks : maker_checks table buffer ≡ accepted = given-accepted (maker_checks table buffer) (length made) n h in
    let read : read_of table ≡ accepted = then-right (demand (leb schedule_room (length buffer)) 23 0) (read_of table) checks in
    let is : Scheduled rule table start = scheduled rule chooses table (promised table read) start in
    let count : n ≡ length made = gives-injective (sym h ∙ answer-given (maker_checks table buffer) (length made) checks) in
    let front : take n (maker_of rule table start buffer).lent ≡ made =
    ap (λ (o : Outcome). take n (lent_after o made buffer)) checks ∙ ap (λ (k : ℕ). take k (made ++ drop (length made) buffer)) count
    ∙ take-append_seam made (drop (length made) buffer) in
    record {
      entries = front;
      now = ready_answer table (end_state table made);
      readies = ap (ready_of table) front ∙ ready-given table read made is.taken;
      ended = is.ended;
    }
