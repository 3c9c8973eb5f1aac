-- `unitary::DOmegaUnitary::mul_by_letter_from_left` meets its contract, letter by letter.
use native.Mathlib.Omega.{arith}
use Rattle.exact.specs.Meaning.Word.{S, X, W, T'}
use Rattle.unitary.specs.Acts.{good_z, good_w, h_small, h_k, byte_H, byte_plain, byte_none}
use borrow.Author.Rules.{rules}
use Rattle.unitary.proofs.DOmegaUnitary.mul_by_letter_from_left.Goals as goal

pub mul_by_h_from_left-requires : goal.mul_by_h_from_left-requires
mul_by_h_from_left-requires c = record { fact_1 = search good_z; fact_2 = search good_w; fact_3 = search rules; fact_4 = omega (arith, c.requires.fact_2) }

pub reduce_denomexp-requires : goal.reduce_denomexp-requires
reduce_denomexp-requires c =
    let small = h_small c.args.self (search rules) (search rules) _ c.mul_by_h_from_left.ensures in
    record { fact_1 = small.0; fact_2 = small.1; fact_3 = search h_k }

pub returns-then-g-eq72 : goal.returns-then-g-eq72
returns-then-g-eq72 c = search byte_H

pub mul_by_s_from_left-requires : goal.mul_by_s_from_left-requires
mul_by_s_from_left-requires c = record { fact_1 = search good_w; fact_2 = search rules }

pub returns-then-g-eq83 : goal.returns-then-g-eq83
returns-then-g-eq83 c = search (byte_plain S)

pub returns-then-g-eq88 : goal.returns-then-g-eq88
returns-then-g-eq88 c = search (byte_plain X)

pub mul_by_w_from_left-requires : goal.mul_by_w_from_left-requires
mul_by_w_from_left-requires c = record { fact_1 = search good_z; fact_2 = search good_w; fact_3 = search rules }

pub returns-then-g-eq87 : goal.returns-then-g-eq87
returns-then-g-eq87 c = search (byte_plain W)

pub mul_by_t_from_left-requires : goal.mul_by_t_from_left-requires
mul_by_t_from_left-requires c = record { fact_1 = search good_w; fact_2 = search rules }

pub returns-then-g-eq84 : goal.returns-then-g-eq84
returns-then-g-eq84 c = search (byte_plain T')

pub returns : goal.returns
returns c = search byte_none
