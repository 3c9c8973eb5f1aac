-- `synthesis_of_clifford_t::power_of_omega` meets its contract: the first odd coefficient tells.
use Rattle.synthesis_of_clifford_t.proofs.Closes.{power_by_a, power_by_b, power_by_c, power_by_d}
use Rattle.synthesis_of_clifford_t.proofs.power_of_omega.Goals as goal

pub returns-then-odd : goal.returns-then-odd
returns-then-odd c = search power_by_d

pub returns-then-odd-2 : goal.returns-then-odd-2
returns-then-odd-2 c = search power_by_c

pub returns-then-odd-3 : goal.returns-then-odd-3
returns-then-odd-3 c = search power_by_b

pub returns : goal.returns
returns c = search power_by_a
