-- What the loop of `circuit_letters::put_letters` keeps: the letters of the statements before a place are put.
use Prim.Native.Nat.{◌-◌}
use lib.ListN.{length}
use Rattle.circuit_letters.specs.LettersLaws.{Putting}
use Rattle.circuit_letters.proofs.put_letters.Given as goal

abbrev pub invariant-loop-step : goal.invariant-loop-step
invariant-loop-step l = Putting l.text l.letters l.initial.buf l.buf l.step.at l.step.left

abbrev pub decreases-loop-step : goal.decreases-loop-step
decreases-loop-step l = length l.text - l.step.at
