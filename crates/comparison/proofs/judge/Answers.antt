-- `comparison::judge` meets its contract: schedules of different lengths are different, and of one length the names decide.
-- Assumes nothing.
use mathlib.Core.Path.{◌≡◌}
use mathlib.Core.Bool.{true}
use mathlib.Core.List.{List}
use Prim.Native.Nat.{ℕ}
use Rattle.trace.specs.Schedule.{accepted}
use Rattle.model.specs.Site.{initial}
use Rattle.model.specs.Schedule.{machine, first_numbers, second_numbers}
use Rattle.model.proofs.Checks.{checks-taken}
use Rattle.comparison.specs.Traces.{Judged}
use Rattle.comparison.proofs.TraceNames.{lengths-apart, comparable, verdict}
use Rattle.comparison.proofs.judge.Goals as goal

-- both schedules are accepted
first_taken : {table first second first_bytes second_bytes : List ℕ} → Judged table first second first_bytes second_bytes → accepted (machine table) initial first ≡ true
first_taken {table} {first} J = checks-taken table first_numbers initial 0 first J.first_fine

second-taken : {table first second first_bytes second_bytes : List ℕ} → Judged table first second first_bytes second_bytes → accepted (machine table) initial second ≡ true
second-taken {table} {first} {second} J = checks-taken table second_numbers initial 0 second J.second-fine

pub returns-then-m-second : goal.returns-then-m-second
returns-then-m-second c = lengths-apart c.args.table.now c.args.first.now c.args.second.now c.if-m-second.true

pub same-requires : goal.same-requires
same-requires c =
    let J = c.requires in
    comparable _ _ _ _ _ (first_taken J) (second-taken J) J.first-kept J.second-kept c.if-m-second.false J.promise

pub returns : goal.returns
returns c =
    let J = c.requires in
    verdict _ _ _ _ _ (first_taken J) (second-taken J) J.first-kept J.second-kept c.if-m-second.false c.same.result c.same.ensures
