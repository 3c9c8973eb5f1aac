-- `synthesis_of_clifford_t::by_sign` meets its contract: by the sign of x.
use Rattle.synthesis_of_clifford_t.proofs.Closes.{sign_below, sign_above}
use Rattle.synthesis_of_clifford_t.proofs.by_sign.Goals as goal

pub returns-then-x-lt0 : goal.returns-then-x-lt0
returns-then-x-lt0 c = search sign_below

pub returns-else-x-lt0 : goal.returns-else-x-lt0
returns-else-x-lt0 c = search sign_above
