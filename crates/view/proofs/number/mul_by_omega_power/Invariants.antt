-- What the loop of `view::number::mul_by_omega_power` keeps: after i turns y is the number times omega to the i.
use mathlib.Core.Path.{◌≡◌}
use Rattle.exact.specs.Meaning.Number.{ints, mul_q, omega^}
use Rattle.ring.specs.Meaning.{quad}
use Rattle.view.proofs.number.mul_by_omega_power.Given as goal

abbrev pub invariant-loop : goal.invariant-loop
invariant-loop l = quad l.y ≡ mul_q ints (quad l.initial.y) (omega^ l.counter)
