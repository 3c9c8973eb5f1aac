-- Each turn leaves fewer digits.
use Rattle.std.proofs.Common.{length}
use Rattle.replay.proofs.slots.to_last.Given as goal

abbrev pub decreases-loop-rest : goal.decreases-loop-rest
decreases-loop-rest l = length l.rest
