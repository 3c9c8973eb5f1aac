-- `dunrossel::dunrossel_qasm3_write` meets its contract: the circuit of the word in 3.0, into the lent bytes.
use Rattle.dunrossel.specs.Handed.{circuits}
use Rattle.dunrossel.proofs.dunrossel_qasm3_write.Goals as goal

pub returns : goal.returns
returns c = search circuits
