-- `synthesis_of_clifford_t::synthesise` meets its contract: what the check refuses is refused, and the rest is reduced and answered.
use Rattle.std.proofs.lemmas.Result.{err_from_is_err_and}
use Rattle.exact.proofs.Matrices.Least.{reduced_test_lem}
use Rattle.unitary.specs.Meaning.{triple}
use Rattle.unitary.specs.Acts.{Good}
use Rattle.unitary.specs.Checked.{passed_small, passed_cast, passed_few}
use Rattle.synthesis_of_clifford_t.proofs.AnswerLaws.{synthesise_refused, reduced_good, reduced_few, synthesise_answered}
use borrow.Author.Rules.{rules}
use Rattle.synthesis_of_clifford_t.proofs.synthesise.Goals as goal

pub returns-in_err-check : goal.returns-in_err-check
returns-in_err-check c =
    let p = err_from_is_err_and c.from_residual.result c.from_residual.ensures.1 in
    rw (p.1, p.2) (search (synthesise_refused, c.in_err-check.ensures))

pub overflow_cast-given : goal.overflow_cast-given
overflow_cast-given c = search (rules, passed_cast, c.in_ok-check.ensures)

pub reduce_denomexp-matrix-requires : goal.reduce_denomexp-matrix-requires
reduce_denomexp-matrix-requires c = search (rules, passed_small, passed_few, c.in_ok-check.ensures)

pub invariant_of-answer : goal.invariant_of-answer
invariant_of-answer c =
    let matrix = c.reduce_denomexp-matrix.result in
    let good : Good matrix = search (reduced_good, c.in_ok-check.ensures) in
    record {
      unitary = good.unitary;
      reduced = reduced_test_lem (triple matrix) good.reduced;
      n_small = good.n_small;
      few = search (reduced_few, c.in_ok-check.ensures);
    }

pub returns : goal.returns
returns c = search (synthesise_answered, c.in_ok-check.ensures)
