-- `clifford::Clifford::inverse` meets its contract. Assumes nothing.
use Rattle.clifford.proofs.Cliffords.{inv_by}
use Rattle.clifford.proofs.Clifford.inverse.Goals as goal

pub returns : goal.returns
returns c = search inv_by
