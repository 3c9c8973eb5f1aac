-- `clifford::clifford_inverse` meets its contract. Assumes nothing.
use Rattle.clifford.proofs.Cliffords.{inverse_job}
use Rattle.clifford.proofs.clifford_inverse.Goals as goal

pub returns : goal.returns
returns c = search inverse_job
