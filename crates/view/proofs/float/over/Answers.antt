-- `float::over` meets its contract. Assumes nothing.
use Rattle.view.proofs.Branches.{shows_even, shows_odd}
use Rattle.view.proofs.float.over.Goals as goal

pub returns-then-k-eq0 : goal.returns-then-k-eq0
returns-then-k-eq0 c =
    shows_even c.args.k c.args.u c.args.v c.requires c.if-k-eq0.true c.near.result c.near.ensures

pub returns-else-k-eq0 : goal.returns-else-k-eq0
returns-else-k-eq0 c =
    shows_odd c.args.k c.args.u c.args.v c.requires c.if-k-eq0.false c.near-else-k-eq0.result c.near-else-k-eq0.ensures
