-- `ring::ZOmega::mul_by_inv_sqrt2` meets its contract: each coefficient by what its size allows, and the halves because root two divides.
use Rattle.ring.specs.Divided.{by_root_two_lem}
use Rattle.ring.proofs.ZOmega.mul_by_inv_sqrt2.Goals as goal

pub returns : goal.returns
returns c =
    by_root_two_lem c.args.self c.requires.fact_1 c.requires.fact_2
