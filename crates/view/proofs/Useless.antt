-- A program that refuses all does not meet the promise of job 7: at the identity every allowed outcome is accepted. Assumes nothing.
use Rattle.std.specs.Prelude.{◌≡◌, refl, ℕ, pos}
use Rattle.std.proofs.Common.{arith}
use Rattle.exact.specs.Meaning.Refusals.{checks}
use Rattle.exact.proofs.Outcomes.Ladder.{answered}
use Rattle.exact.proofs.Outcomes.Checked.{Taken, taken_checks}
use Rattle.ring.specs.Meaning.{quad}
use Rattle.ring.specs.declared.ZOmega.{ZOmega}
use Rattle.unitary.specs.Meaning.{given}
use Rattle.view.specs.Meaning.Outcome.{Answer, refused, Views, ViewOutcome}

abbrev whole : ℕ → ZOmega
whole n = record { a = pos 0; b = pos 0; c = pos 0; d = pos n }

identity_taken : Taken (pos 0) (quad (whole 1)) (quad (whole 0))
identity_taken =
    record {
      exponent_in = record { low = record { le = tt }; high = record { le = tt } };
      coefficients_in = record { z_in = omega arith; w_in = omega arith };
      unitary_there = λ n. record { squares_sum = refl; crosses_sum = refl };
    }

pub refuses_all_7 : (o : Answer) → ViewOutcome (pos 0) 0 (whole 1) (whole 0) o → o.refusal ≡ 0
refuses_all_7 o h =
    (answered refused (Views (given (pos 0) 0 (whole 1) (whole 0))) (checks (pos 0) (quad (whole 1)) (quad (whole 0)))
    (taken_checks (pos 0) (quad (whole 1)) (quad (whole 0)) identity_taken) o h).taken
