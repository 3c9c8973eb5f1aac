-- `put_circuit` meets its contract. Assumes nothing.
use Rattle.qasm.specs.WriterWays.{circuit_fits, circuit_no_room, circuit_put}
use Rattle.qasm.proofs.put_circuit.Goals as goal

pub overflow_add-n : goal.overflow_add-n
overflow_add-n c = search circuit_fits

pub returns-then-n-buf : goal.returns-then-n-buf
returns-then-n-buf c = search circuit_no_room

pub returns : goal.returns
returns c = search circuit_put
