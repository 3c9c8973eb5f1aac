-- What the loops of `clifford::Clifford::preceded` keep.
use Prim.Native.Nat.{◌+◌}
use Rattle.clifford.proofs.Moves.{Going}
use Rattle.clifford.proofs.Clifford.preceded.Given as goal

abbrev pub invariant-loop-n : goal.invariant-loop-n
invariant-loop-n l = Going l.b (l.b + l.c) l.initial.q l.q l.n
