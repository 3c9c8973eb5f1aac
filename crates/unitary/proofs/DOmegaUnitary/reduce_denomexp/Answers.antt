-- `unitary::DOmegaUnitary::reduce_denomexp` meets its contract: after the twos at most one root two is left.
use Rattle.unitary.specs.Reducing.{halved_z, halved_w, reduced_nought, reduced_there, no_twos, twos_off}
use Rattle.unitary.proofs.DOmegaUnitary.reduce_denomexp.Goals as goal
use Rattle.unitary.proofs.DOmegaUnitary.reduce_denomexp.Goals.{then-t-eq0-via-then-t-eq0, then-t-eq0-via-else-t-eq0+then-not-divisible}

pub returns-then-t-eq0 : goal.returns-then-t-eq0
returns-then-t-eq0 c =
    elim c.then-t-eq0.branch [ then-t-eq0-via-then-t-eq0 w ↦ search reduced_nought | then-t-eq0-via-else-t-eq0+then-not-divisible w ↦ search reduced_there ]

pub returns-then-m-eq0 : goal.returns-then-m-eq0
returns-then-m-eq0 c = search no_twos

pub lowered_if-requires-clause-fact_1 : goal.lowered_if-requires-clause-fact_1
lowered_if-requires-clause-fact_1 c = search halved_z

pub lowered_if-requires-clause-fact_2 : goal.lowered_if-requires-clause-fact_2
lowered_if-requires-clause-fact_2 c = search halved_w

pub returns : goal.returns
returns c = search twos_off
