-- `put_gate` meets its contract. Assumes nothing.
use Rattle.circuit_writer.specs.WritingLaws.{gate_put}
use Rattle.circuit_writer.proofs.put_gate.Goals as goal

pub returns : goal.returns
returns c = search gate_put
