-- `Straight::quarters` meets its contract: one after the other.
use Rattle.rotation.specs.Turned.{quarter_more}
use Rattle.rotation.proofs.turn.Straight.quarters.Goals as goal

pub loop-preserved : goal.loop-preserved
loop-preserved c = search quarter_more
