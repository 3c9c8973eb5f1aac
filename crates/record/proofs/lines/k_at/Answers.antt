-- `lines::k_at` meets its contract: the name, then the number. Assumes nothing.
use Rattle.record.specs.LineLaws.{no_k_name, k_is}
use Rattle.record.proofs.lines.k_at.Goals as goal

pub returns-in_err-value : goal.returns-in_err-value
returns-in_err-value c = rw c.from_residual.ensures (search (no_k_name, c.in_err-value.was))

pub returns : goal.returns
returns c = search (k_is, c.in_ok-value.was)
