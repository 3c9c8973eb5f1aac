-- `reading::append_gate` meets its contract. Assumes nothing.
use Rattle.reading.specs.Texts.{readable_in, moved_few, full, placed, added}
use Rattle.reading.proofs.append_gate.Goals as goal

pub returns-then-lacks_place : goal.returns-then-lacks_place
returns-then-lacks_place c = search full

pub change-next-requires : goal.change-next-requires
change-next-requires c = search (readable_in, placed)

pub whole-requires : goal.whole-requires
whole-requires c = search (readable_in, moved_few)

pub returns : goal.returns
returns c = search added
