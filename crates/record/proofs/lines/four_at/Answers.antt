-- `lines::four_at` meets its contract: each number that is found leaves the rest to be found. Assumes nothing.
use Rattle.record.specs.LineLaws.{no_a, no_b, no_c, no_d, four_found}
use Rattle.record.proofs.lines.four_at.Goals as goal

pub returns-in_err-a : goal.returns-in_err-a
returns-in_err-a c = rw c.from_residual.ensures (search (no_a, c.in_err-a.was))

pub returns-in_err-b : goal.returns-in_err-b
returns-in_err-b c = rw c.from_residual-in_err-b.ensures (search (no_b, c.in_ok-a.was, c.in_err-b.was))

pub returns-in_err-c : goal.returns-in_err-c
returns-in_err-c c = rw c.from_residual-in_err-c.ensures (search (no_c, c.in_ok-a.was, c.in_ok-b.was, c.in_err-c.was))

pub returns-in_err-d : goal.returns-in_err-d
returns-in_err-d c = rw c.from_residual-in_err-d.ensures (search (no_d, c.in_ok-a.was, c.in_ok-b.was, c.in_ok-c.was, c.in_err-d.was))

pub returns : goal.returns
returns c = search (four_found, c.in_ok-a.was, c.in_ok-b.was, c.in_ok-c.was, c.in_ok-d.was)
