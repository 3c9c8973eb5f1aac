-- What the loop of `ring::ZOmega::mul_by_omega_inv_power` keeps: as many turns as it has counted.
use Rattle.std.proofs.Common.{◌≡◌, ◌-◌}
use Rattle.exact.specs.Meaning.Number.{ints, mul_q, omega^}
use Rattle.ring.specs.Meaning.{quad}
use Rattle.ring.specs.Number.{Small}
use Rattle.ring.proofs.ZOmega.mul_by_omega_inv_power.Given as goal

abbrev pub invariant-loop : goal.invariant-loop
invariant-loop l = Small l.turned × (quad l.turned ≡ mul_q ints (omega^ (8 - l.counter)) (quad l.fn.self))
