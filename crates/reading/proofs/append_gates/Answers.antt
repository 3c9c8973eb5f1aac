-- `reading::append_gates` meets its contract. Assumes nothing.
use Rattle.reading.specs.Texts.{readable_in, pair_room, pair_few, pair_text}
use Rattle.reading.proofs.append_gates.Goals as goal

pub put-next-requires : goal.put-next-requires
put-next-requires c = search (readable_in, pair_room)

pub whole-requires : goal.whole-requires
whole-requires c = search (readable_in, pair_few)

pub returns : goal.returns
returns c = search pair_text
