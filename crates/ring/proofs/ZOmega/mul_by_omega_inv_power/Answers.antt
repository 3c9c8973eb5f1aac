-- `ring::ZOmega::mul_by_omega_inv_power` meets its contract: by the inverse m times.
use native.Mathlib.Omega.{arith}
use Rattle.ring.specs.Meaning.{quad}
use Rattle.ring.specs.Number.{small_back, turned_whole, power_more, power_whole}
use Rattle.ring.proofs.ZOmega.mul_by_omega_inv_power.Goals as goal

pub loop-init : goal.loop-init
loop-init c = (c.requires.fact_1, turned_whole (quad c.args.self))

pub loop-preserved : goal.loop-preserved
loop-preserved c =
    let once = c.mul_by_omega_inv-turned in
    (search small_back, power_more c.args.self c.loop.turned once.result c.loop.counter c.loop.invariant.1 once.ensures (omega arith))

pub returns : goal.returns
returns c = search power_whole
