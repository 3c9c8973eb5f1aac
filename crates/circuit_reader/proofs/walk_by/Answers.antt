-- `walk_by` meets its contract. Assumes nothing.
use Rattle.circuit_reader.specs.Chosen.{heading_same, heading_stops, heading_along}
use Rattle.circuit_reader.proofs.walk_by.Goals as goal

pub lines_from-requires : goal.lines_from-requires
lines_from-requires c = search heading_same

pub returns-then-k-n : goal.returns-then-k-n
returns-then-k-n c = search heading_stops

pub lines_from-requires-2 : goal.lines_from-requires-2
lines_from-requires-2 c = search heading_along
