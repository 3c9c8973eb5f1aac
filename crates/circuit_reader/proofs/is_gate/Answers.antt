-- `is_gate` meets its contract. Assumes nothing.
use Rattle.circuit_reader.specs.ReadingLaws.{gate_h, gate_s, gate_t, gate_x}
use Rattle.circuit_reader.proofs.is_gate.Goals as goal

pub returns-in-104 : goal.returns-in-104
returns-in-104 c = search gate_h

pub returns-in-115 : goal.returns-in-115
returns-in-115 c = search gate_s

pub returns-in-116 : goal.returns-in-116
returns-in-116 c = search gate_t

pub returns-in-120 : goal.returns-in-120
returns-in-120 c = search gate_x
