-- What the loop of `Straight::quarters` keeps: a quarter for each turn.
use Rattle.std.specs.Prelude.{◌≡◌}
use Rattle.exact.specs.Rotation.Worked.{quarters}
use Rattle.rotation.specs.Meaning.{axes_of, rotation_of}
use Rattle.rotation.proofs.turn.Straight.quarters.Given as goal

abbrev pub invariant-loop : goal.invariant-loop
invariant-loop l = rotation_of l.r.rotation ≡ record { m = quarters l.counter (axes_of l.initial.r.rotation); e = l.initial.r.rotation.e }
