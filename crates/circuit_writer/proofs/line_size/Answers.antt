-- `line_size` meets its contract. Assumes nothing.
use Rattle.circuit_writer.specs.WritingLaws.{size_H, size_S, size_T, size_X, size_W, size_I, size_none}
use Rattle.circuit_writer.proofs.line_size.Goals as goal

pub returns-in-72 : goal.returns-in-72
returns-in-72 c = search size_H

pub returns-in-83 : goal.returns-in-83
returns-in-83 c = search size_S

pub returns-in-84 : goal.returns-in-84
returns-in-84 c = search size_T

pub returns-in-88 : goal.returns-in-88
returns-in-88 c = search size_X

pub returns-in-87 : goal.returns-in-87
returns-in-87 c = search size_W

pub returns-in-73 : goal.returns-in-73
returns-in-73 c = search size_I

pub returns-in_default : goal.returns-in_default
returns-in_default c = search size_none
