-- `order_ffi::order_remainder` meets its contract: the fields of the part that is as long as what is
-- handed back. Assumes nothing.
use mathlib.Core.Path.{◌∙◌, ap}
use native.Mathlib.Omega.{arith}
use Rattle.c_answers.specs.Fields.{remainder_fields}
use Rattle.order_ffi.proofs.Handed.{length-of-first, length-of-second, end-of-first, end-of-second}
use Rattle.order_ffi.proofs.order_remainder.Goals as goal

pub overflow_sub-from : goal.overflow_sub-from
overflow_sub-from c = omega (arith, length-of-second _ _ c.remainder-length.ensures c.if-first-second.true)

pub overflow_sub-from-else-first-second : goal.overflow_sub-from-else-first-second
overflow_sub-from-else-first-second c = omega (arith, length-of-first _ _ c.remainder-length.ensures c.if-first-second.false)

pub returns-then-first-second : goal.returns-then-first-second
returns-then-first-second c =
    c.into.ensures
    ∙ ap remainder_fields
    (end-of-second _ _ _ c.if-first-second.true (length-of-second _ _ c.remainder-length.ensures c.if-first-second.true))

pub returns-else-first-second : goal.returns-else-first-second
returns-else-first-second c =
    c.into-else-first-second.ensures
    ∙ ap remainder_fields
    (end-of-first _ _ _ c.if-first-second.false (length-of-first _ _ c.remainder-length.ensures c.if-first-second.false))
