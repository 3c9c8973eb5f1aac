-- `depth::twos` meets its contract: the trailing zeros of the number's size.
use Rattle.rotation.specs.Shared.{twos_counted, twos_cast}
use Rattle.rotation.proofs.depth.twos.Goals as goal

pub overflow_cast-result : goal.overflow_cast-result
overflow_cast-result c = search twos_cast

pub returns : goal.returns
returns c = search twos_counted
