-- `slot::add_right` meets its contract. Assumes nothing.
use Rattle.std.proofs.Common.{refl}
use Rattle.std.proofs.lemmas.Result.{err_from_is_err_and}
use Rattle.slot.proofs.Ways.{no_place, one_added}
use Rattle.slot.proofs.add_right.Goals as goal

pub returns-in_err-next-clause-outcome : goal.returns-in_err-next-clause-outcome
returns-in_err-next-clause-outcome c =
    let p = err_from_is_err_and c.from_residual.result c.from_residual.ensures.1 in
    rw (p.1, p.2) (no_place c.args.number c.requires.standing c.told-syllables c.append_gate.ensures c.in_err-next.was refl refl)

pub returns-clause-outcome : goal.returns-clause-outcome
returns-clause-outcome c = search (one_added, c.in_ok-next.was)
