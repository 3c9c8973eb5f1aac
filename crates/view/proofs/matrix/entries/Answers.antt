-- `entries` meets its contract: conjugation, omega^n and the minus keep the size, and give the matrix's entries. Assumes nothing.
use borrow.Author.Rules.{rules}
use Rattle.view.proofs.Size.{small_of, small_neg, small_conj, small_power, z_size, w_size, at_most_60}
use Rattle.view.proofs.matrix.entries.Goals as goal

pub conj-requires : goal.conj-requires
conj-requires c = search (rules, small_of, at_most_60, z_size)

pub mul_by_omega_power-zu-requires : goal.mul_by_omega_power-zu-requires
mul_by_omega_power-zu-requires c = search (rules, small_conj, at_most_60, z_size)

pub conj-requires-2 : goal.conj-requires-2
conj-requires-2 c = search (rules, small_of, at_most_60, w_size)

pub mul_by_omega_power-wu-requires : goal.mul_by_omega_power-wu-requires
mul_by_omega_power-wu-requires c = search (rules, small_conj, at_most_60, w_size)

pub parts-p-requires : goal.parts-p-requires
parts-p-requires c = search (rules, z_size)

pub neg-requires : goal.neg-requires
neg-requires c = search (rules, small_of, small_power, small_conj, at_most_60, w_size)

pub parts-q-requires : goal.parts-q-requires
parts-q-requires c = search (rules, small_neg, small_power, small_conj, w_size)

pub parts-r-requires : goal.parts-r-requires
parts-r-requires c = search (rules, w_size)

pub parts-s-requires : goal.parts-s-requires
parts-s-requires c = search (rules, small_power, small_conj, z_size)
