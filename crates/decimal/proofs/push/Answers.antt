-- `push` meets its contract: what stops it is what no number's digits can go on with. Assumes nothing.
use Rattle.decimal.specs.ReadLaws.{push_stop, push_over, push_more}
use Rattle.decimal.proofs.push.Goals as goal

pub returns-in_err-d : goal.returns-in_err-d
returns-in_err-d c = rw c.from_residual.ensures (search (push_stop, c.in_err-d.was))

pub returns-then-d-most : goal.returns-then-d-most
returns-then-d-most c = search (push_over, c.in_ok-d.was)

pub returns : goal.returns
returns c = search (push_more, c.in_ok-d.was)
