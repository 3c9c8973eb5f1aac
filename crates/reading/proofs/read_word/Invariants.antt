-- What the loops of `reading::read_word` keep.
use Prim.Native.Nat.{◌*◌}
use Rattle.reading.specs.Reader.{Upto}
use Rattle.reading.proofs.read_word.Given as goal

abbrev pub invariant-loop-i : goal.invariant-loop-i
invariant-loop-i l = Upto l.word l.initial.items l.items l.r (2 * l.i)
