-- The ways out of the two jobs: what the check refuses is refused; of the rest the rotation that was worked out, s, is divided by root two as often as it
-- can be, which is its least exponent. Assumes nothing.
use Rattle.std.specs.Prelude.{◌≡◌, refl, ℕ, ◌+◌, ◌-◌, ◌≤◌, ℤ, nat_abs, Ok, Err}
use Rattle.std.proofs.Common.{sym, subst, SFits, to_z-of_z}
use Rattle.std.specs.Int.{w64}
use Rattle.exact.specs.Meaning.Number.{ints}
use Rattle.exact.specs.Meaning.Matrix.{Matrix}
use Rattle.exact.specs.Meaning.Triple.{entries, Unitary}
use Rattle.exact.specs.Meaning.Rotation as Exact
use Rattle.exact.specs.Meaning.Rotation.{LeastExponent, RotationOf}
use Rattle.exact.specs.Meaning.Limits.{no_refusal}
use Rattle.exact.specs.Meaning.Outcome.{none}
use Rattle.exact.specs.Meaning.Handed.{number}
use Rattle.exact.specs.declared.Refusal.{Refusal}
use Rattle.exact.proofs.Whole.Machine.{held}
use Rattle.exact.proofs.Rotation.Laws.{rotation_written}
use Rattle.exact.specs.Rotation.Least.{Deepest}
use Rattle.exact.proofs.Rotation.Least.{quotient, lowered_same, lowered_least, least_moved}
use Rattle.exact.specs.Rotation.Worked.{with_n, columns}
use Rattle.ring.specs.Meaning.{quad}
use Rattle.ring.specs.declared.ZOmega.{ZOmega}
use Rattle.unitary.specs.Meaning.{given}
use Rattle.unitary.specs.Checks.{CheckOutcome, exponent_size}
use Rattle.unitary.specs.Checked.{passed_taken, passed_few, refusal_given, passed_on, taken, refused_as, taken_as}
use Rattle.rotation.specs.declared.Rotation.{Rotation}
use Rattle.rotation.specs.Meaning as Meaning
use Rattle.rotation.specs.Meaning.{axes_of, rotation_of, refused, as_answer, AnswersRotation, RotationOutcome}
use Rattle.rotation.specs.Meaning.{refused_count, as_count, AnswersCount, CountOutcome}
use Rattle.rotation.specs.Shared.{Lowered}
use Rattle.rotation.specs.Columns.{Held, unitary_held}
use Rattle.rotation.specs.Turned.{Turned, WorkedOut, worked}

-- ---- of the rotation s of a matrix m
module _ (m : Matrix) (s : Rotation) (d : ℕ) (is : RotationOf m (rotation_of s)) (deep : Deepest s.e (axes_of s) d) where
  tees_answer : AnswersCount m (as_count (Ok (s.e - d)))
  tees_answer =
      let q = quotient d (axes_of s) deep.so_often in
      record { taken = refl; rotation = rotation_of s; is = is; least = lowered_least s.e d (axes_of s) q.low q.is deep }

  rotation_answer : (t : Rotation) → Lowered d s t → AnswersRotation m (as_answer (Ok t))
  rotation_answer t l =
      record {
        taken = refl;
        is = rotation_written is same;
        least = subst (LeastExponent (rotation_of t)) (sym l.e_is) (least_moved same (lowered_least s.e d (axes_of s) (axes_of t) l.lifted deep));
      }
    where
      same : Exact.SameRotation (rotation_of s) (rotation_of t)
      same =
          subst (λ e. Exact.SameRotation (rotation_of s) (record { m = axes_of t; e = e })) (sym l.e_is)
          (lowered_same s.e d (axes_of s) (axes_of t) l.lifted deep.within)

-- ---- the check's refusals, and what comes behind it
module _ (k : ℤ) (n : ℕ) (z w : ZOmega) where
  pub rotation_refused : (e : Refusal) → CheckOutcome k z w (number e) → RotationOutcome k n z w (as_answer (Err e))
  rotation_refused = refusal_given refused (AnswersRotation (entries (given k n z w))) none k z w

  pub tees_refused : (e : Refusal) → CheckOutcome k z w (number e) → CountOutcome k n z w (as_count (Err e))
  tees_refused = refusal_given refused_count (AnswersCount (entries (given k n z w))) none k z w

  module _ (checked : CheckOutcome k z w no_refusal) where
    passed_unitary : SFits w64 k → Unitary (with_n (nat_abs (held w64 k)) 0 (quad z) (quad w))
    passed_unitary fits = rw (to_z-of_z fits) ((passed_taken checked).unitary_there 0)

    pub passed_held : SFits w64 k → Held (quad z) (quad w)
    passed_held fits = unitary_held (nat_abs (held w64 k)) (quad z) (quad w) (passed_few checked fits) (passed_unitary fits)

    -- of the columns s
    module _ (fits : SFits w64 k) (s : Rotation)
        (is : rotation_of s ≡ record { m = columns ints (quad z) (quad w); e = nat_abs (held w64 k) + nat_abs (held w64 k) }) where
      pub passed_worked : (r : Rotation) → Turned n (rotation_of s) (rotation_of r) → WorkedOut (nat_abs k) n z w r
      passed_worked r t =
          subst (λ (y : ℤ). WorkedOut (nat_abs y) n z w r) (to_z-of_z fits)
          (worked (nat_abs (held w64 k)) n z w (passed_few checked fits) (passed_unitary fits) s is r t)

    module _ (s : Rotation) (d : ℕ) (out : WorkedOut (nat_abs k) n z w s) (deep : Deepest s.e (axes_of s) d) where
      pub tees_taken : CountOutcome k n z w (as_count (Ok (s.e - d)))
      tees_taken =
          passed_on refused_count (AnswersCount (entries (given k n z w))) none k z w checked (as_count (Ok (s.e - d)))
          (tees_answer (entries (given k n z w)) s d out.is deep)

      pub rotation_taken : (t : Rotation) → Lowered d s t → RotationOutcome k n z w (as_answer (Ok t))
      rotation_taken t l =
          passed_on refused (AnswersRotation (entries (given k n z w))) none k z w checked (as_answer (Ok t))
          (rotation_answer (entries (given k n z w)) s d out.is deep t l)

-- ---- the same where the check gave a number
module _ (k : ℤ) (n : ℕ) (z w : ZOmega) (fits : SFits w64 k) (r : ℕ) (checked : CheckOutcome (held w64 k) z w r) where
  pub rotate_refused : (r ≡ 0 → ⊥) → (t : Rotation) → t ≡ Meaning.none → RotationOutcome k n z w (record { refusal = r; rotation = t })
  rotate_refused f t e = rw e (refused_as fits checked refused (AnswersRotation (entries (given k n z w))) none f)

  pub count_refused : (r ≡ 0 → ⊥) → CountOutcome k n z w (record { refusal = r; tees = 0 })
  count_refused f = refused_as fits checked refused_count (AnswersCount (entries (given k n z w))) none f

  module _ (yes : r ≡ 0) where
    pub taken_few : nat_abs (held w64 k) ≤ 60
    taken_few = rw (to_z-of_z fits) (exponent_size k (taken fits checked yes).exponent_in)

    pub taken_unitary : Unitary (with_n (nat_abs (held w64 k)) 0 (quad z) (quad w))
    taken_unitary = rw (to_z-of_z fits) ((taken fits checked yes).unitary_there 0)

    module _ (s : Rotation) (d : ℕ) (out : WorkedOut (nat_abs (held w64 k)) n z w s) (deep : Deepest s.e (axes_of s) d) where
      is : RotationOf (entries (given k n z w)) (rotation_of s)
      is = subst (λ (y : ℤ). RotationOf (entries (given y n z w)) (rotation_of s)) (to_z-of_z fits) out.is

      pub count_taken : CountOutcome k n z w (record { refusal = 0; tees = s.e - d })
      count_taken =
          taken_as fits checked refused_count (AnswersCount (entries (given k n z w))) none yes (record { refusal = 0; tees = s.e - d })
          (tees_answer (entries (given k n z w)) s d is deep)

      pub rotate_taken : (t : Rotation) → Lowered d s t → RotationOutcome k n z w (record { refusal = 0; rotation = t })
      rotate_taken t l =
          taken_as fits checked refused (AnswersRotation (entries (given k n z w))) none yes (record { refusal = 0; rotation = t })
          (rotation_answer (entries (given k n z w)) s d is deep t l)
