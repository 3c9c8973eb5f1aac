-- `synthesis_of_clifford_t::falls` compares the two counts. Assumes nothing.
use mathlib.Core.Path.{ap₂}
use lib.Dec.{eqb}
use Rattle.steps.specs.Residues.{falls_by}
use Rattle.synthesis_of_clifford_t.proofs.falls.Goals as goal

pub returns : goal.returns
unfolding falls_by
returns c = ap₂ eqb c.bit_count.ensures c.bit_count-2.ensures
