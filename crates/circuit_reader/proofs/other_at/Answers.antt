-- `other_at` meets its contract, a law for each statement that the first two bytes tell. Assumes nothing.
use Rattle.circuit_reader.specs.Chosen.{line_h, line_x, line_s, line_t, line_sdg, line_tdg, line_phase, line_none, line_no_phase}
use Rattle.circuit_reader.proofs.other_at.Goals as goal

pub returns-in-104 : goal.returns-in-104
returns-in-104 c = search line_h

pub returns-in-120 : goal.returns-in-120
returns-in-120 c = search line_x

pub returns-in-115 : goal.returns-in-115
returns-in-115 c = search line_sdg

pub returns-in-115-2 : goal.returns-in-115-2
returns-in-115-2 c = search line_s

pub returns-in-116 : goal.returns-in-116
returns-in-116 c = search line_tdg

pub returns-in-116-2 : goal.returns-in-116-2
returns-in-116-2 c = search line_t

pub returns-in-103 : goal.returns-in-103
returns-in-103 c = search line_phase

pub returns-in_default : goal.returns-in_default
returns-in_default c = search line_no_phase

pub returns-in_default-2 : goal.returns-in_default-2
returns-in_default-2 c = search line_none
