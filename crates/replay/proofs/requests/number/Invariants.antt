-- As many digits as were read.
use Rattle.std.proofs.Common.{◌<◌, ◌^◌}
use Rattle.replay.proofs.requests.number.Given as goal

abbrev pub invariant-loop-b : goal.invariant-loop-b
invariant-loop-b l = l.n < 10 ^ l.b-index
