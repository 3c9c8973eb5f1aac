-- What the loop of `circuit_writer::put_lines` keeps: the lines of the letters behind those that are left are put.
use Rattle.std.specs.Iterator.Adapters.{rev_source}
use Rattle.std.specs.Slice.Iter.{iter_rest}
use Rattle.circuit_writer.specs.WritingLaws.{Lining}
use Rattle.circuit_writer.proofs.put_lines.Given as goal

abbrev pub invariant-loop-b : goal.invariant-loop-b
invariant-loop-b l = record {
  next : goal.iterator-loop-b.can_next l.b-iterator;
  finite : goal.iterator-loop-b.is_finite l.b-iterator;
  lining : Lining l.initial.buf l.start l.word l.buf l.at (iter_rest (rev_source l.b-iterator));
}
