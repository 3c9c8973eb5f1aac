-- `text::number_line` meets its contract: name, value and LF have room, and together they are the line. Assumes nothing.
use Rattle.decimal.specs.Write.{first_room, second_room, third_room, row_written}
use Rattle.decimal.proofs.text.number_line.Goals as goal

pub put-value-requires : goal.put-value-requires
put-value-requires c = search first_room

pub number-end-requires : goal.number-end-requires
number-end-requires c = search second_room

pub put-requires : goal.put-requires
put-requires c = search third_room

pub returns : goal.returns
returns c = search row_written
