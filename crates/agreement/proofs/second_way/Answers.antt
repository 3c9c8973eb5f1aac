-- `agreement::second_way` meets its contract: a refusal of job 2 is handed on, and else job 4 is asked for job 2's matrix.
use Rattle.std.proofs.lemmas.Result.{err_from_is_err_and}
use borrow.Author.Rules.{rules}
use Rattle.agreement.proofs.Ways.{stopped_before, refused_behind, went_on}
use Rattle.agreement.proofs.second_way.Goals as goal

pub returns-in_err-m : goal.returns-in_err-m
returns-in_err-m c =
    let p = err_from_is_err_and c.from_residual.result c.from_residual.ensures.1 in
    rw (p.1, p.2) (search (stopped_before, c.in_err-m.was))

pub returns-in_err-spelt : goal.returns-in_err-spelt
returns-in_err-spelt c =
    let p = err_from_is_err_and c.from_residual-in_err-spelt.result c.from_residual-in_err-spelt.ensures.1 in
    rw (p.1, p.2) (refused_behind _ _ _ c.in_ok-m.was _ (search rules) c.from.ensures _ _ c.in_err-spelt.ensures)

pub returns : goal.returns
returns c = went_on _ _ _ c.in_ok-m.was _ (search rules) c.from.ensures _ _ c.in_ok-spelt.ensures
