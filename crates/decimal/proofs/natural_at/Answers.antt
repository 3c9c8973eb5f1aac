-- `natural_at` meets its contract.
-- The loop's invariant: the bytes from `at` to `i` are the digits of `value`, which is at most `most`. Assumes nothing.
use Rattle.decimal.specs.ReadLaws.{reading_first, reading_more, reading_found, reading_stop, reading_end}
use Rattle.decimal.specs.ReadLaws.{natural_past, natural_first}
use Rattle.decimal.proofs.natural_at.Goals as goal

pub returns-then-at-s : goal.returns-then-at-s
returns-then-at-s c = search natural_past

pub returns-in_err-value : goal.returns-in_err-value
returns-in_err-value c = rw c.from_residual.ensures (search (natural_first, c.in_err-value.was))

pub loop-i-init : goal.loop-i-init
loop-i-init c = search (reading_first, c.in_ok-value.was)

pub returns-then-b-end : goal.returns-then-b-end
returns-then-b-end c = search reading_found

pub returns-in_err-value-2 : goal.returns-in_err-value-2
returns-in_err-value-2 c = rw c.from_residual-in_err-value-2.ensures (search (reading_stop, c.in_err-value-2.was))

pub loop-i-preserved : goal.loop-i-preserved
loop-i-preserved c = search (reading_more, c.in_ok-value-2.was)

pub returns : goal.returns
returns c = search reading_end
