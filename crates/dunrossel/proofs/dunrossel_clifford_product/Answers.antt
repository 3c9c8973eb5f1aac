-- `dunrossel::dunrossel_clifford_product` meets its contract: job 6 on the numbers of the arrays.
use Rattle.dunrossel.specs.Handed.{multiplied}
use Rattle.dunrossel.proofs.dunrossel_clifford_product.Goals as goal

pub returns : goal.returns
returns c = search multiplied
