-- `whole_at` meets its contract: by whether there is a minus. Assumes nothing.
use Rattle.decimal.specs.ReadLaws.{whole_past, minus_there}
use Rattle.decimal.proofs.whole_at.Goals as goal

pub returns-then-at-s : goal.returns-then-at-s
returns-then-at-s c = search whole_past

pub returns-then-s-at-eq45 : goal.returns-then-s-at-eq45
returns-then-s-at-eq45 c = search minus_there
