-- `read_circuit` meets its contract. Assumes nothing.
use Rattle.qasm.specs.ReaderWays.{too_many, no_room_read, was_read}
use Rattle.qasm.proofs.read_circuit.Goals as goal

pub returns-then-letters-gt-LONGEST : goal.returns-then-letters-gt-LONGEST
returns-then-letters-gt-LONGEST c = search too_many

pub returns-then-letters-buf : goal.returns-then-letters-buf
returns-then-letters-buf c = search no_room_read

pub returns : goal.returns
returns c = search was_read
