-- `Rotation::depth` meets its contract: an even power of root two is told by the p, an odd one by the q.
use Rattle.rotation.specs.Shared.{deepest_found}
use Rattle.rotation.proofs.Rotation.depth.Goals as goal

pub returns : goal.returns
returns c = search deepest_found
