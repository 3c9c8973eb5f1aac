-- What the loops of `decimal::natural_at` keep.
use Rattle.decimal.specs.ReadLaws.{Reading}
use Rattle.decimal.proofs.natural_at.Given as goal

abbrev pub invariant-loop-i : goal.invariant-loop-i
invariant-loop-i l = Reading l.s l.at l.most l.value l.i
