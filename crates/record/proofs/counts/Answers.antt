-- `counts` meets its contract: the three lines have room, and together they are those of the counts. Assumes nothing.
use Rattle.decimal.specs.Write.{first_room, second_room, third_room, row_written}
use Rattle.record.proofs.counts.Goals as goal

pub number_line-second-requires : goal.number_line-second-requires
number_line-second-requires c = search first_room

pub number_line-third-requires : goal.number_line-third-requires
number_line-third-requires c = search second_room

pub number_line-requires : goal.number_line-requires
number_line-requires c = search third_room

pub returns : goal.returns
returns c = search row_written
