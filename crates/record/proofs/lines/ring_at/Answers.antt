-- `lines::ring_at` meets its contract: the name, then the four numbers. Assumes nothing.
use Rattle.record.specs.LineLaws.{no_ring_name, ring_is}
use Rattle.record.proofs.lines.ring_at.Goals as goal

pub returns-in_err-value : goal.returns-in_err-value
returns-in_err-value c = rw c.from_residual.ensures (search (no_ring_name, c.in_err-value.was))

pub returns : goal.returns
returns c = search (ring_is, c.in_ok-value.was)
