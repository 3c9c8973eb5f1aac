-- `clifford::clifford_split` meets its contract. Assumes nothing.
use Rattle.clifford.proofs.Cliffords.{split_job}
use Rattle.clifford.proofs.clifford_split.Goals as goal

pub returns : goal.returns
returns c = search split_job
