-- What the loop of `synthesis_of_clifford_t::decompose_domega_unitary` keeps.
use Rattle.unitary.specs.Meaning.{triple}
use Rattle.steps.specs.Steps.{left}
use Rattle.synthesis_of_clifford_t.proofs.Parts.{Writing}
use Rattle.synthesis_of_clifford_t.proofs.decompose_domega_unitary.Given as goal

abbrev pub invariant-loop-m : goal.invariant-loop-m
invariant-loop-m l = Writing l.initial.work l.initial.u.matrix l.work l.u.matrix l.len l.steps

abbrev pub decreases-loop-m : goal.decreases-loop-m
decreases-loop-m l = left (triple l.u.matrix)
