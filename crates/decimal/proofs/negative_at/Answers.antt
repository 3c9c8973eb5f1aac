-- `negative_at` meets its contract: behind a minus stands a number from 1 to 2^63. Assumes nothing.
use Rattle.decimal.specs.ReadLaws.{negative_none, negative_zero, less_fits, negative_fits, negative_found}
use Rattle.decimal.proofs.negative_at.Goals as goal

pub returns-in_err-value : goal.returns-in_err-value
returns-in_err-value c = rw c.from_residual.ensures (search (negative_none, c.in_err-value.was))

pub returns-then-value-eq0 : goal.returns-then-value-eq0
returns-then-value-eq0 c = search (negative_zero, c.in_ok-value.was)

pub overflow_cast-less : goal.overflow_cast-less
overflow_cast-less c = search (less_fits, c.in_ok-value.was)

pub overflow_sub-result : goal.overflow_sub-result
overflow_sub-result c = search (negative_fits, c.in_ok-value.was)

pub returns : goal.returns
returns c = search (negative_found, c.in_ok-value.was)
