-- What the loop of `lent::put` keeps: the first `i` bytes are in place.
use Rattle.lent.specs.Written.{Putting}
use Rattle.lent.proofs.put.Given as goal

abbrev pub invariant-loop-i : goal.invariant-loop-i
invariant-loop-i l = Putting l.initial.out l.at l.src l.out l.i
