-- `rotate` meets its contract: what the check refuses is refused; the rest is worked out and lowered.
use Rattle.std.proofs.lemmas.Result.{err_from_is_err_and}
use Rattle.rotation.specs.Ways.{rotation_refused, rotation_taken}
use Rattle.rotation.proofs.rotate.Goals as goal

pub returns-in_err-r : goal.returns-in_err-r
returns-in_err-r c =
    let p = err_from_is_err_and c.from_residual.result c.from_residual.ensures.1 in
    rw (p.1, p.2) (search (rotation_refused, c.in_err-r.ensures.check))

pub returns : goal.returns
returns c = search (rotation_taken, c.in_ok-r.ensures.check, c.in_ok-r.ensures.worked)
