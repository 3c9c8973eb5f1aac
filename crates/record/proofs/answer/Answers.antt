-- `answer` meets its contract: the lines have room, and together they are the answer's. Assumes nothing.
use Rattle.decimal.specs.Write.{first_room, second_room, third_room, row_written}
use Rattle.record.proofs.answer.Goals as goal

pub number_line-second-requires : goal.number_line-second-requires
number_line-second-requires c = search first_room

pub bytes_line-third-requires : goal.bytes_line-third-requires
bytes_line-third-requires c = search second_room

pub counts-requires : goal.counts-requires
counts-requires c = search third_room

pub returns : goal.returns
returns c = search row_written
