-- One more number was written.
use Rattle.std.proofs.Common.{take}
use Rattle.std.proofs.lemmas.List.{take_more}
use Rattle.shown.proofs.Grown.{grown}
use Rattle.shown.proofs.numbers.Goals as goal

pub loop-x-preserved : goal.loop-x-preserved
loop-x-preserved g c =
    let e = take_more c.args.xs.now c.loop-x.x-index c.x-item.result c.loop-x-test.true in
    rw (e, ← c.x-item.is) (grown g.T.Display.output (take c.loop-x.x-index c.args.xs.now) c.x-item.result _ _ _ _ c.loop-x.invariant c.in_ok-text.ensures c.in_ok-number.ensures)
