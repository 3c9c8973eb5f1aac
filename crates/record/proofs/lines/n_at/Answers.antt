-- `lines::n_at` meets its contract: the name, then the number. Assumes nothing.
use Rattle.record.specs.LineLaws.{no_n_name, n_is}
use Rattle.record.proofs.lines.n_at.Goals as goal

pub returns-in_err-value : goal.returns-in_err-value
returns-in_err-value c = rw c.from_residual.ensures (search (no_n_name, c.in_err-value.was))

pub returns : goal.returns
returns c = search (n_is, c.in_ok-value.was)
