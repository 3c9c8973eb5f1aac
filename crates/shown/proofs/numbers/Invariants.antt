-- What was written is the numbers so far.
use Rattle.std.proofs.Common.{IfSome, take}
use Rattle.std.specs.Io.KnownBytes.{Appends}
use Rattle.shown.specs.Row.{row}
use Rattle.shown.proofs.numbers.Given as goal

abbrev pub invariant-loop-x : goal.invariant-loop-x
invariant-loop-x g l =
    IfSome (row g.T.Display.output (take l.x-index l.xs)) (Appends (g.W.Write.contents l.initial.out) (g.W.Write.contents l.out))
