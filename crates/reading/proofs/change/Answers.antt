-- `reading::change` meets its contract. Assumes nothing.
use Rattle.reading.specs.Held.{keeps}
use Rattle.reading.proofs.change.Goals as goal

pub returns-then-kind-eq0 : goal.returns-then-kind-eq0
returns-then-kind-eq0 c = search keeps

pub put-requires : goal.put-requires
put-requires c = search c.requires.placed
