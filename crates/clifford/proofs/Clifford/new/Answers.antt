-- `clifford::Clifford::new` meets its contract. Assumes nothing.
use Rattle.clifford.proofs.Remainder.{reduced_by}
use Rattle.clifford.proofs.Clifford.new.Goals as goal

pub returns : goal.returns
returns c = search reduced_by
