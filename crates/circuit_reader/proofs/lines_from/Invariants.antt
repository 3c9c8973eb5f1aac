-- What the loop of `circuit_reader::lines_from` keeps.
use Prim.Native.Nat.{◌-◌}
use lib.ListN.{length}
use Rattle.circuit.specs.Meaning.{edition_of}
use Rattle.circuit_reader.specs.ReadingLaws.{Walking}
use Rattle.circuit_reader.proofs.lines_from.Given as goal

abbrev pub invariant-loop-at : goal.invariant-loop-at
invariant-loop-at l = Walking l.text l.start (edition_of l.edition) l.at l.letters

abbrev pub decreases-loop-at : goal.decreases-loop-at
decreases-loop-at l = length l.text - l.at
