-- `synthesis_of_clifford_t::answer` meets its contract: the letters stand at the start of the working buffer, and their normal word is the answer.
use Rattle.std.proofs.lemmas.Result.{err_from_is_err_and}
use Rattle.unitary.specs.Meaning.{triple}
use Rattle.steps.specs.Steps.{letters}
use Rattle.synthesis_of_clifford_t.proofs.CodeLaws.{good_of, good_ready}
use Rattle.synthesis_of_clifford_t.proofs.AnswerLaws.{word_is, len_inside, word_long, answer_refused, answer_written}
use Rattle.synthesis_of_clifford_t.proofs.answer.Goals as goal

pub slice_bounds-work-end : goal.slice_bounds-work-end
slice_bounds-work-end c = len_inside _ (letters (triple c.args.t.matrix)) _ _ c.decompose_domega_unitary-d.ensures.0

pub slice_bounds-normalise-end : goal.slice_bounds-normalise-end
slice_bounds-normalise-end c = word_long _ (letters (triple c.args.t.matrix)) _ _ c.decompose_domega_unitary-d.ensures.0

pub returns-in_err-r : goal.returns-in_err-r
returns-in_err-r c =
    let p = err_from_is_err_and c.from_residual.result c.from_residual.ensures.1 in
    rw (p.1, p.2) (search (answer_refused, good_of, good_ready, word_is, c.in_err-r.ensures))

pub returns : goal.returns
returns c = search (answer_written, good_of, good_ready, word_is, c.in_ok-r.ensures)
