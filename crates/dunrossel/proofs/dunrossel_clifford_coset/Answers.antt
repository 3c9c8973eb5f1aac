-- `dunrossel::dunrossel_clifford_coset` meets its contract: job 6 on the numbers of the array.
use Rattle.dunrossel.specs.Handed.{parted}
use Rattle.dunrossel.proofs.dunrossel_clifford_coset.Goals as goal

pub returns : goal.returns
returns c = search parted
