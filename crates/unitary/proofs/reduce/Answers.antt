-- `unitary::reduce` meets its contract: what the check refuses is refused, and the rest is reduced.
use Rattle.std.proofs.lemmas.Result.{err_from_is_err_and}
use Rattle.unitary.specs.Checked.{reduce_err, reduce_ok}
use Rattle.unitary.proofs.reduce.Goals as goal

pub returns-in_err-check : goal.returns-in_err-check
returns-in_err-check c =
    let p = err_from_is_err_and c.from_residual.result c.from_residual.ensures.1 in
    rw (p.1, p.2) (search (reduce_err, c.in_err-check.ensures))

pub returns : goal.returns
returns c = search (reduce_ok, c.in_ok-check.ensures)
