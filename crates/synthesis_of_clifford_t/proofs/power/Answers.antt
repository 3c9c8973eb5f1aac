-- `synthesis_of_clifford_t::power` is m by the table: its two cases are those of the definition. Assumes nothing.
use native.Mathlib.Omega.{arith}
use Rattle.steps.proofs.Residues.{bit_shift_few, power_less, power_not_less}
use Rattle.synthesis_of_clifford_t.proofs.power.Goals as goal

pub overflow_add-result : goal.overflow_add-result
overflow_add-result c = record { fits = omega (arith, bit_shift_few c.args.w, c.bit_shift-q.ensures) }

pub overflow_sub-result : goal.overflow_sub-result
overflow_sub-result c = omega (arith, bit_shift_few c.args.z, c.bit_shift-p.ensures)

pub returns-then-q-p : goal.returns-then-q-p
returns-then-q-p c = search power_less

pub returns-else-q-p : goal.returns-else-q-p
returns-else-q-p c = search power_not_less
