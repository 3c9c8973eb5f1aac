-- `ring::ntz` meets its contract: the trailing zeros of the number's size.
use Rattle.ring.specs.Trailing.{counted}
use Rattle.ring.proofs.ntz.Goals as goal

pub returns : goal.returns
returns c = search counted
