-- `normal_form::read_and_write` meets its contract. Assumes nothing.
use Rattle.std.proofs.lemmas.Result.{err_from_is_err_and}
use Rattle.normal_form.specs.Answers.{refused_outside, count_most, answered_by}
use Rattle.normal_form.proofs.read_and_write.Goals as goal

pub returns-in_err-r : goal.returns-in_err-r
returns-in_err-r c =
    let p = err_from_is_err_and c.from_residual.result c.from_residual.ensures.1 in
    rw (p.1, p.2) (search (refused_outside, c.in_err-r.was))

pub write-requires-clause-count_few : goal.write-requires-clause-count_few
write-requires-clause-count_few c = search (count_most, c.in_ok-r.was)

pub returns : goal.returns
returns c = search (answered_by, c.in_ok-r.was)
