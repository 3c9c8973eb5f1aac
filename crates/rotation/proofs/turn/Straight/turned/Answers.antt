-- `Straight::turned` meets its contract: quarters, and an eighth where n is odd.
use Rattle.rotation.specs.Turned.{turned_even, turned_odd}
use Rattle.rotation.proofs.turn.Straight.turned.Goals as goal

pub returns-then-m-eq0 : goal.returns-then-m-eq0
returns-then-m-eq0 c = search turned_even

pub returns-else-m-eq0 : goal.returns-else-m-eq0
returns-else-m-eq0 c = search turned_odd
