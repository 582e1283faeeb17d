-- A schedule that stops is refused, with its number and position.
-- Assumes nothing.
use mathlib.Core.Path.{◌≡◌, refl}
use Rattle.table.specs.Outcome.{refused, number_of, position_of}
use Rattle.model.specs.Schedule.{RefusalNumbers}
use Rattle.answers.specs.declared.Stop.{Stop}
use Rattle.answers.specs.declared.Stop.TheVariants.{Absent, Finished, Waiting, Over}
use Rattle.answers.specs.Answers.{stop_of}

pub stop-refused : (n : RefusalNumbers) (stop : Stop) → stop_of n stop ≡ refused (number_of (stop_of n stop)) (position_of (stop_of n stop))
stop-refused n (Absent i) = refl
stop-refused n (Finished i) = refl
stop-refused n (Waiting i) = refl
stop-refused n (Over i) = refl
