-- `dunrossel::dunrossel_qasm2_write` meets its contract: the circuit of the word in 2.0, into the lent bytes.
use Rattle.dunrossel.specs.Handed.{circuits}
use Rattle.dunrossel.proofs.dunrossel_qasm2_write.Goals as goal

pub returns : goal.returns
returns c = search circuits
