-- Two outcomes of the rotation, or of the T count, for one input are equal, and so are the results that they are read from. Assumes nothing.
use Rattle.std.specs.Prelude.{◌≡◌, refl, ℕ, ℤ, Result, Ok}
use Rattle.std.proofs.Common.{sym, ◌∙◌, ap}
use Rattle.exact.specs.Meaning.Matrix.{Matrix}
use Rattle.exact.specs.Meaning.Triple.{entries}
use Rattle.exact.specs.Meaning.Rotation as Exact
use Rattle.exact.specs.Meaning.Refusals.{checks}
use Rattle.exact.specs.declared.Refusal.{Refusal}
use Rattle.exact.proofs.Matrices.Same.{Same-refl}
use Rattle.exact.proofs.Outcomes.Ladder.{Only, one_outcome}
use Rattle.exact.proofs.Outcomes.Checked.{checks_one}
use Rattle.exact.proofs.Rotation.Laws.{rotation_same, one_rotation}
use Rattle.exact.proofs.Rotation.Least.{least_once, least_moved}
use Rattle.ring.specs.Meaning.{quad}
use Rattle.ring.specs.declared.ZOmega.{ZOmega}
use Rattle.unitary.specs.Meaning.{given}
use Rattle.unitary.specs.Results.{result_told}
use Rattle.rotation.specs.declared.Rotation.{Rotation}
use Rattle.rotation.specs.Meaning.{Answer, rotation_of, refused, as_answer, AnswersRotation, RotationOutcome}
use Rattle.rotation.specs.Meaning.{Count, refused_count, as_count, AnswersCount, CountOutcome}

-- a machine's rotation is told by the exact one
rotation_inj : {r s : Rotation} → rotation_of r ≡ rotation_of s → r ≡ s
rotation_inj e = λ i.
    let m = (e i).m in
    record {
      x = record {
        x = record { p = m.x.x.p; q = m.x.x.q };
        y = record { p = m.x.y.p; q = m.x.y.q };
        z = record { p = m.x.z.p; q = m.x.z.q };
      };
      y = record {
        x = record { p = m.y.x.p; q = m.y.x.q };
        y = record { p = m.y.y.p; q = m.y.y.q };
        z = record { p = m.y.z.p; q = m.y.z.q };
      };
      z = record {
        x = record { p = m.z.x.p; q = m.z.x.q };
        y = record { p = m.z.y.p; q = m.z.y.q };
        z = record { p = m.z.z.p; q = m.z.z.q };
      };
      e = (e i).e;
    }

one_turned : (m : Matrix) → Only (AnswersRotation m)
one_turned m r s a b = λ i. record { refusal = (a.taken ∙ sym b.taken) i; rotation = rotation_inj both i }
  where
    same : Exact.SameRotation (rotation_of r.rotation) (rotation_of s.rotation)
    same = rotation_same (Same-refl m) a.is b.is

    exponents : r.rotation.e ≡ s.rotation.e
    exponents = least_once (least_moved same a.least) b.least

    both : rotation_of r.rotation ≡ rotation_of s.rotation
    both = one_rotation same exponents

pub rotation_unique : (k : ℤ) (n : ℕ) (z w : ZOmega) → Only (RotationOutcome k n z w)
rotation_unique k n z w =
    one_outcome refused (AnswersRotation (entries (given k n z w))) (checks k (quad z) (quad w)) (checks_one k (quad z) (quad w))
    (λ h. one_turned (entries (given k n z w)))

one_count : (m : Matrix) → Only (AnswersCount m)
one_count m r s a b =
    let same = rotation_same (Same-refl m) a.is b.is in
    λ i. record { refusal = (a.taken ∙ sym b.taken) i; tees = least_once (least_moved same a.least) b.least i }

pub count_unique : (k : ℤ) (n : ℕ) (z w : ZOmega) → Only (CountOutcome k n z w)
count_unique k n z w =
    one_outcome refused_count (AnswersCount (entries (given k n z w))) (checks k (quad z) (quad w)) (checks_one k (quad z) (quad w))
    (λ h. one_count (entries (given k n z w)))

-- ---- reading a result by its number loses nothing
pub rotation_result_unique : (k : ℤ) (n : ℕ) (z w : ZOmega) → Only (λ (r : Result Rotation Refusal). RotationOutcome k n z w (as_answer r))
rotation_result_unique k n z w =
    result_told refused (λ (t : Rotation). as_answer (Ok t)) (AnswersRotation (entries (given k n z w))) (λ (a : Answer). a.refusal) (λ m p. refl)
    (λ a x. x.taken) (λ t. refl) (λ t u e. ap (λ (a : Answer). a.rotation) e) k z w (rotation_unique k n z w)

pub count_result_unique : (k : ℤ) (n : ℕ) (z w : ZOmega) → Only (λ (r : Result ℕ Refusal). CountOutcome k n z w (as_count r))
count_result_unique k n z w =
    result_told refused_count (λ (t : ℕ). as_count (Ok t)) (AnswersCount (entries (given k n z w))) (λ (c : Count). c.refusal) (λ m p. refl)
    (λ c x. x.taken) (λ t. refl) (λ t u e. ap (λ (c : Count). c.tees) e) k z w (count_unique k n z w)
