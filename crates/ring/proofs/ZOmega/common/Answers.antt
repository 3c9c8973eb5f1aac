-- `ring::ZOmega::common` meets its contract: the `or` of the four has the trailing zeros that they share.
use Rattle.exact.proofs.Algebra.Twos.{or_shares}
use Rattle.ring.proofs.ZOmega.common.Goals as goal

pub returns : goal.returns
returns c = search or_shares
