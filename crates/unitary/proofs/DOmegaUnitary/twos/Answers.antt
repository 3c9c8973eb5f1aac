-- `unitary::DOmegaUnitary::twos` meets its contract: the trailing zeros that all eight share, and at most half of k.
use Rattle.unitary.specs.Reducing.{all_nought, least_shared}
use Rattle.unitary.proofs.DOmegaUnitary.twos.Goals as goal

pub returns-then-common-eq0 : goal.returns-then-common-eq0
returns-then-common-eq0 c = search all_nought

pub returns : goal.returns
returns c = search least_shared
