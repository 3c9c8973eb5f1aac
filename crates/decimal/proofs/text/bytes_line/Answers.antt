-- `text::bytes_line` meets its contract: name, value and LF have room, and together they are the line. Assumes nothing.
use Rattle.decimal.specs.Write.{first_room, second_room, third_room, row_written}
use Rattle.decimal.proofs.text.bytes_line.Goals as goal

pub put-start-requires : goal.put-start-requires
put-start-requires c = search first_room

pub put-end-requires : goal.put-end-requires
put-end-requires c = search second_room

pub put-requires : goal.put-requires
put-requires c = search third_room

pub returns : goal.returns
returns c = search row_written
