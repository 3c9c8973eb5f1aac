-- From the check to job 7's outcome. Assumes nothing.
use mathlib.Core.Path.{refl, subst}
use Prim.Native.Nat.{ℕ, ◌≤◌}
use lib.IntN.{ℤ, nat_abs}
use mir.Facts.{to_z-of_z}
use mir.Syntax.{w64}
use mir.Val.{SFits}
use Rattle.std.specs.Prelude.{Ok, Err}
use Rattle.exact.specs.Meaning.Limits.{no_refusal}
use Rattle.exact.specs.Meaning.Outcome.{none}
use Rattle.exact.specs.Meaning.Handed.{number}
use Rattle.exact.specs.Meaning.Triple.{Unitary}
use Rattle.exact.specs.declared.Refusal.{Refusal}
use Rattle.exact.proofs.Whole.Machine.{held}
use Rattle.ring.specs.declared.ZOmega.{ZOmega}
use Rattle.unitary.specs.Meaning.{given}
use Rattle.unitary.specs.Checks.{CheckOutcome}
use Rattle.unitary.specs.Checked.{passed_taken, passed_few, refusal_given, passed_on}
use Rattle.view.specs.Meaning.Outcome.{Viewed, refused, as_answer, Views, ViewOutcome}
use Rattle.view.specs.declared.matrix.View.{View}

module _ (k : ℤ) (n : ℕ) (z w : ZOmega) where
  pub view_refused : (e : Refusal) → CheckOutcome k z w (number e) → ViewOutcome k n z w (as_answer (Err e))
  view_refused = refusal_given refused (Views (given k n z w)) none k z w

  module _ (checked : CheckOutcome k z w no_refusal) (fits : SFits w64 k) where
    pub view_unitary : (nat_abs (held w64 k) ≤ 60) × Unitary (given (held w64 k) n z w)
    view_unitary = (passed_few checked fits, rw (to_z-of_z fits) ((passed_taken checked).unitary_there n))

    pub view_taken : (v : View) → Viewed (given (held w64 k) n z w) v → ViewOutcome k n z w (as_answer (Ok v))
    view_taken v h =
        passed_on refused (Views (given k n z w)) none k z w checked (as_answer (Ok v))
        (record { taken = refl; viewed = subst (λ (y : ℤ). Viewed (given y n z w) v) (to_z-of_z fits) h })
