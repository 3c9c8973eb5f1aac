-- What the loop of `circuit_reader::along` keeps: the first `k` bytes go along.
use Rattle.circuit_reader.specs.ReadingLaws.{Going}
use Rattle.circuit_reader.proofs.along.Given as goal

abbrev pub invariant-loop-k : goal.invariant-loop-k
invariant-loop-k l = Going l.text l.word l.k
