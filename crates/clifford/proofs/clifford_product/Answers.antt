-- `clifford::clifford_product` meets its contract. Assumes nothing.
use Rattle.clifford.proofs.Cliffords.{product_job}
use Rattle.clifford.proofs.clifford_product.Goals as goal

pub returns : goal.returns
returns c = search product_job
