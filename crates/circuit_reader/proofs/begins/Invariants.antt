-- What the loop of `circuit_reader::begins` keeps: whether the first `k` bytes are the same.
use Rattle.circuit_reader.specs.ReadingLaws.{Comparing}
use Rattle.circuit_reader.proofs.begins.Given as goal

abbrev pub invariant-loop-k : goal.invariant-loop-k
invariant-loop-k l = Comparing l.text l.word l.same l.k
