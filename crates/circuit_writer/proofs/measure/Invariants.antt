-- What the loop of `circuit_writer::measure` keeps: the first `i` letters are measured.
use Rattle.circuit_writer.specs.WritingLaws.{Measuring}
use Rattle.circuit_writer.proofs.measure.Given as goal

abbrev pub invariant-loop-i : goal.invariant-loop-i
invariant-loop-i l = Measuring l.word l.lines l.i
