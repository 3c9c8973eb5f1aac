-- `reading::number_at` meets its contract. Assumes nothing.
use Rattle.reading.specs.Letters.{number_at_by}
use Rattle.reading.proofs.number_at.Goals as goal

pub returns : goal.returns
returns c = search number_at_by
