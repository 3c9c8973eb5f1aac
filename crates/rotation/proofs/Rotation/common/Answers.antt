-- `Rotation::common` meets its contract: what the three columns share.
use Rattle.rotation.specs.Shared.{nine_p, nine_q}
use Rattle.rotation.proofs.Rotation.common.Goals as goal

pub returns-clause-p : goal.returns-clause-p
returns-clause-p c = search nine_p

pub returns-clause-q : goal.returns-clause-q
returns-clause-q c = search nine_q
