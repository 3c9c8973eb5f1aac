-- What the loop of `unitary::from_gates` keeps: the ending from `at` on has been read.
use Rattle.exact.specs.Cases.Letters.{letters_of}
use Rattle.unitary.specs.Reading.{Read}
use Rattle.unitary.proofs.from_gates.Given as goal

abbrev pub invariant-loop-at : goal.invariant-loop-at
invariant-loop-at l = Read (letters_of l.word) l.at l.t
