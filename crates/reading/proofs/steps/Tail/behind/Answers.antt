-- `reading::steps::Tail::behind` meets its contract. Assumes nothing.
use Rattle.reading.specs.Steps.{gained}
use Rattle.reading.proofs.steps.Tail.behind.Goals as goal

pub returns : goal.returns
returns c = search gained
