-- `synthesis_of_clifford_t::closing_of` meets its contract: by the residue of z, which is 0 where z is.
use Rattle.synthesis_of_clifford_t.proofs.Closes.{z_small, w_small, unit_small}
use Rattle.synthesis_of_clifford_t.proofs.Closes.{swapped_few, swapped_closes, diagonal_few, diagonal_closes}
use Rattle.synthesis_of_clifford_t.proofs.CodeLaws.{good_of}
use borrow.Author.Rules.{rules}
use Rattle.synthesis_of_clifford_t.proofs.closing_of.Goals as goal

pub residue-requires : goal.residue-requires
residue-requires c = search (good_of, z_small)

pub mul_by_omega_inv_power-u-requires : goal.mul_by_omega_inv_power-u-requires
mul_by_omega_inv_power-u-requires c = search (rules, good_of, w_small)

pub power_of_omega-requires : goal.power_of_omega-requires
power_of_omega-requires c = search (good_of, unit_small)

pub closing_by-requires : goal.closing_by-requires
closing_by-requires c = search (rules, good_of, swapped_few)

pub returns-then-residue-eq0 : goal.returns-then-residue-eq0
returns-then-residue-eq0 c = search (good_of, swapped_closes)

pub power_of_omega-requires-2 : goal.power_of_omega-requires-2
power_of_omega-requires-2 c = search (good_of, z_small)

pub closing_by-requires-2 : goal.closing_by-requires-2
closing_by-requires-2 c = search (rules, good_of, diagonal_few)

pub returns : goal.returns
returns c = search (good_of, diagonal_closes)
