-- `t_count` meets its contract: what the check refuses is refused; of the rest the exponent is lowered.
use Rattle.std.proofs.lemmas.Result.{err_from_is_err_and}
use Rattle.rotation.specs.Ways.{tees_refused, tees_taken}
use Rattle.rotation.proofs.t_count.Goals as goal

pub returns-in_err-rotation : goal.returns-in_err-rotation
returns-in_err-rotation c =
    let p = err_from_is_err_and c.from_residual.result c.from_residual.ensures.1 in
    rw (p.1, p.2) (search (tees_refused, c.in_err-rotation.ensures.check))

pub returns : goal.returns
returns c = search (tees_taken, c.in_ok-rotation.ensures.check, c.in_ok-rotation.ensures.worked)
