-- `reading::steps::Tail::split` meets its contract. Assumes nothing.
use Rattle.reading.specs.Steps.{split_at_lem}
use Rattle.reading.proofs.steps.Tail.split.Goals as goal

pub returns : goal.returns
returns c = search split_at_lem
