-- What the loop of `slot::told::letters_of` keeps.
use Rattle.slot.proofs.Tests.{Summing}
use Rattle.slot.proofs.told.letters_of.Given as goal

abbrev pub invariant-loop-code : goal.invariant-loop-code
invariant-loop-code l = Summing l.codes l.letters l.code-index
