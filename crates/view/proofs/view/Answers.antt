-- `view` meets its contract: what the check refuses is refused, and the rest is shown. Assumes nothing.
use Rattle.std.proofs.lemmas.Result.{err_from_is_err_and}
use borrow.Author.Rules.{rules}
use Rattle.view.proofs.Job.{view_refused, view_unitary, view_taken}
use Rattle.view.proofs.view.Goals as goal

pub returns-in_err-check : goal.returns-in_err-check
returns-in_err-check c =
    let p = err_from_is_err_and c.from_residual.result c.from_residual.ensures.1 in
    rw (p.1, p.2) (search (view_refused, c.in_err-check.ensures))

pub entries-requires : goal.entries-requires
entries-requires c = view_unitary _ c.args.t.n _ _ c.in_ok-check.ensures (search rules)

pub returns : goal.returns
returns c = search (view_taken, c.in_ok-check.ensures)
