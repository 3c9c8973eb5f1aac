-- `ring::ZOmega::halved` meets its contract: each coefficient shifted, nothing lost because 2 to the m divides it.
use Rattle.ring.specs.Divided.{by_twos_lem}
use Rattle.ring.proofs.ZOmega.halved.Goals as goal

pub returns : goal.returns
returns c =
    by_twos_lem c.args.m c.args.self c.requires.fact_1 c.requires.fact_3
