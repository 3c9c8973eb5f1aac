-- `clifford::Clifford::product` meets its contract. Assumes nothing.
use Rattle.clifford.proofs.Cliffords.{mul_by}
use Rattle.clifford.proofs.Clifford.product.Goals as goal

pub returns : goal.returns
returns c = search mul_by
