-- `dunrossel::dunrossel_qasm_read` meets its contract: the letters of the circuit, into the lent bytes.
use Rattle.dunrossel.specs.Handed.{letters_read}
use Rattle.dunrossel.proofs.dunrossel_qasm_read.Goals as goal

pub returns : goal.returns
returns c = search letters_read
