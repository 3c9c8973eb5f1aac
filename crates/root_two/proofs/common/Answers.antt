-- `root_two::common` meets its contract: the `or` of the three.
use Rattle.root_two.specs.Common.{or_common}
use Rattle.root_two.proofs.common.Goals as goal

pub returns : goal.returns
returns c = search or_common
