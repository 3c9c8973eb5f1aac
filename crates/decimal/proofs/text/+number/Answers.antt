-- What `text::number` leaves to show: the tenth's digits and the last are the number's. Assumes nothing.
use native.Mathlib.Omega.{arith}
use Rattle.decimal.specs.Write.{number_one, number_more, length_one, length_more, number_room, number_end}
use Rattle.decimal.proofs.text.+number.Goals as goal

pub bounds-out-at : goal.bounds-out-at
bounds-out-at t c = omega (arith, length_one _ c.if-v-lt10.true)

pub returns-then-v-lt10 : goal.returns-then-v-lt10
returns-then-v-lt10 t c = search number_one

pub number-last-requires : goal.number-last-requires
number-last-requires t c = (rw (← c.decreases) (omega arith), omega (arith, length_more _ c.if-v-lt10.false))

pub bounds-out-last : goal.bounds-out-last
bounds-out-last t c = search number_room

pub overflow_add-result-2 : goal.overflow_add-result-2
overflow_add-result-2 t c = search number_end

pub returns : goal.returns
returns t c = search number_more
