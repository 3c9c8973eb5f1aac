-- `dunrossel::dunrossel_clifford_inverse` meets its contract: job 6 on the numbers of the array.
use Rattle.dunrossel.specs.Handed.{inverted}
use Rattle.dunrossel.proofs.dunrossel_clifford_inverse.Goals as goal

pub returns : goal.returns
returns c = search inverted
