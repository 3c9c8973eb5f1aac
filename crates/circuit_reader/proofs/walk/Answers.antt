-- `walk` meets its contract. Assumes nothing.
use Rattle.circuit_reader.specs.Chosen.{heading_two, heading_three}
use Rattle.circuit_reader.proofs.walk.Goals as goal

pub walk_by-requires : goal.walk_by-requires
walk_by-requires c = search heading_three

pub walk_by-requires-else-stands : goal.walk_by-requires-else-stands
walk_by-requires-else-stands c = search heading_two
