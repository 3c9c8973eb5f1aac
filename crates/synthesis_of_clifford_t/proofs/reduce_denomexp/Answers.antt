-- `synthesis_of_clifford_t::reduce_denomexp` meets its contract: the step where k is over 0, and no other.
use Rattle.unitary.specs.Acts.{good_z, good_w}
use Rattle.synthesis_of_clifford_t.proofs.CodeLaws.{good_of, residue_few, power_fits, turned_z, turned_w, turned_n, turned_k}
use Rattle.synthesis_of_clifford_t.proofs.CodeLaws.{raised_z, raised_w, raised_over_0, raised_over_1}
use Rattle.synthesis_of_clifford_t.proofs.CodeLaws.{raised_even_z, raised_even_w, raised_both, step_falls, step_stays}
use Rattle.synthesis_of_clifford_t.proofs.CodeLaws.{next_unitary, next_reduced, next_n_small, next_few}
use Rattle.std.specs.Prelude.{◌≡◌}
use Rattle.unitary.specs.Meaning.{triple}
use Rattle.steps.specs.Step.{Stepped, reduction}
use borrow.Author.Rules.{rules}
use Rattle.synthesis_of_clifford_t.proofs.reduce_denomexp.Goals as goal

pub residue-p-requires : goal.residue-p-requires
residue-p-requires c = search (good_z, good_of)

pub residue-q-requires : goal.residue-q-requires
residue-q-requires c = search (good_w, good_of)

pub power-m-requires : goal.power-m-requires
power-m-requires c = search residue_few

pub mul_by_t_inv_power_from_left-turned-requires : goal.mul_by_t_inv_power_from_left-turned-requires
mul_by_t_inv_power_from_left-turned-requires c = search (good_w, good_of, power_fits)

pub mul_by_h_from_left-raised-requires : goal.mul_by_h_from_left-raised-requires
mul_by_h_from_left-raised-requires c = search (good_of, turned_z, turned_w, turned_n, turned_k)

pub falls-requires : goal.falls-requires
falls-requires c = search residue_few

pub halved-matrix-requires : goal.halved-matrix-requires
halved-matrix-requires c =
    (search (good_of, raised_z), (search (good_of, raised_w), ((search rules, search (good_of, raised_over_1)), (search (good_of, raised_even_z), search (good_of, raised_even_w)))))

-- `search` enters 128 records of what is at hand; the first half of the path lies beyond them, and is named from `power` on
pub returns-then-falls : goal.returns-then-falls
returns-then-falls c =
    search (good_of, step_falls)

pub lowered-matrix-requires : goal.lowered-matrix-requires
lowered-matrix-requires c =
    record { fact_1 = search (good_of, raised_z); fact_2 = search (good_of, raised_w); fact_3 = search (good_of, raised_over_0); fact_4 = search (good_of, raised_both) }

pub returns : goal.returns
returns c =
    search (good_of, step_stays)

pub invariant_of-result : goal.invariant_of-result
invariant_of-result c =
    let from = c.args.from in
    let is : Stepped c.power-m.result (triple c.halved-matrix.result) ≡ reduction (triple from.matrix) = search (good_of, step_falls) in
    record {
      unitary = next_unitary (good_of from) from.few is;
      reduced = next_reduced (good_of from) from.few is;
      n_small = next_n_small (good_of from) from.few is;
      few = next_few (good_of from) from.few is;
    }

pub invariant_of-result-2 : goal.invariant_of-result-2
invariant_of-result-2 c =
    let from = c.args.from in
    let is : Stepped c.power-m.result (triple c.lowered-matrix.result) ≡ reduction (triple from.matrix) = search (good_of, step_stays) in
    record {
      unitary = next_unitary (good_of from) from.few is;
      reduced = next_reduced (good_of from) from.few is;
      n_small = next_n_small (good_of from) from.few is;
      few = next_few (good_of from) from.few is;
    }
