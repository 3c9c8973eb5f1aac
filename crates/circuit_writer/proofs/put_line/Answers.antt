-- `put_line` meets its contract, a law for each kind of letter. Assumes nothing.
use Rattle.circuit_writer.specs.WritingLaws.{line_I, room_W, line_W, gate_fits, room_gate, line_gate}
use Rattle.circuit_writer.proofs.put_line.Goals as goal

pub returns-then-b-eq73 : goal.returns-then-b-eq73
returns-then-b-eq73 c = search line_I

pub put-requires : goal.put-requires
put-requires c = search room_W

pub returns-then-b-eq87 : goal.returns-then-b-eq87
returns-then-b-eq87 c = search line_W

pub overflow_add-b : goal.overflow_add-b
overflow_add-b c = search gate_fits

pub put_gate-requires : goal.put_gate-requires
put_gate-requires c = search room_gate

pub returns : goal.returns
returns c = search line_gate
