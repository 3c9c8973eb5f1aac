-- `root_two::Root::over` meets its contract: two shifts, p and q changing places where n is odd.
use Rattle.root_two.specs.Code.{divided_even, divided_odd}
use Rattle.root_two.proofs.Root.over.Goals as goal

pub returns-then-n-eq0 : goal.returns-then-n-eq0
returns-then-n-eq0 c = search divided_even

pub returns-else-n-eq0 : goal.returns-else-n-eq0
returns-else-n-eq0 c = search divided_odd
