-- What the loop of `slot::told::behind` keeps.
use Rattle.slot.proofs.Tests.{Emptying}
use Rattle.slot.proofs.told.behind.Given as goal

abbrev pub invariant-loop-place : goal.invariant-loop-place
invariant-loop-place l = Emptying l.places 0 l.empty l.place-index
