-- What the loop of `slot::told::codes_right` keeps.
use Rattle.std.proofs.Common.{length, ◌+◌}
use Rattle.slot.proofs.Tests.{Fronting}
use Rattle.slot.proofs.told.codes_right.Given as goal

abbrev pub invariant-loop-code : goal.invariant-loop-code
invariant-loop-code l = Fronting l.codes (length l.codes) l.right (l.code-index + 1)
