-- `comparison::compared` meets its contract: what is refused decides, and two accepted schedules are judged.
-- Assumes nothing.
use Rattle.std.proofs.Common.{rules}
use Rattle.comparison.proofs.SameOutcomes.{compared-right}
use Rattle.comparison.proofs.compared.Goals as goal

pub returns-in_err-read : goal.returns-in_err-read
returns-in_err-read c = compared-right c.from_residual.result (search rules)

pub returns-in_err-map_err : goal.returns-in_err-map_err
returns-in_err-map_err c = compared-right c.from_residual-in_err-map_err.result (search rules)

pub returns-in_err-map_err-2 : goal.returns-in_err-map_err-2
returns-in_err-map_err-2 c = compared-right c.from_residual-in_err-map_err-2.result (search rules)

pub returns : goal.returns
returns c = compared-right _ (search rules)
