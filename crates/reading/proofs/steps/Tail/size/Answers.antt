-- `reading::steps::Tail::size` meets its contract. Assumes nothing.
use Rattle.reading.specs.Steps.{size_none, size_some}
use Rattle.reading.proofs.steps.Tail.size.Goals as goal

pub returns-then-n-eq0 : goal.returns-then-n-eq0
returns-then-n-eq0 c = search size_none

pub returns-else-n-eq0 : goal.returns-else-n-eq0
returns-else-n-eq0 c = search size_some
