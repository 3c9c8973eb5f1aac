-- The ways out of `check`, and of job 1 behind it: a lemma for each, over plain values. Assumes nothing.
use Rattle.std.specs.Prelude.{◌≡◌, refl, Bool, true, false, not, ℕ, ◌≤◌, T, ℤ, pos, nat_abs, Ok, Err}
use Rattle.std.proofs.Common.{ap, subst, arith, SFits, Fits, to_z-of_z}
use Rattle.std.proofs.lemmas.Bool.{not-true, not-false}
use Rattle.std.specs.Int.Signed.{lt_z, non_neg}
use Rattle.std.specs.Int.{w8, w64}
use Rattle.exact.specs.Meaning.Number.{Sized}
use Rattle.exact.specs.Meaning.Triple.{entries}
use Rattle.exact.specs.Meaning.Limits as Limits
use Rattle.exact.specs.Meaning.Limits.{largest, deepest}
use Rattle.exact.specs.Meaning.Outcome as Meaning
use Rattle.exact.specs.Meaning.Handed.{number, place}
use Rattle.exact.specs.declared.Refusal.{Refusal}
use Rattle.exact.specs.Meaning.Outcome.{Rung, ◌also◌, Decides}
use Rattle.exact.specs.Meaning.Refusals.{InExponents, InCoefficients, checks}
use Rattle.exact.proofs.Outcomes.Ladder.{pass, check_passed, check_refused}
use Rattle.exact.proofs.Outcomes.Handed.{check_given}
use Rattle.exact.proofs.Outcomes.Checked.{Taken, checks_taken, taken_checks, checks_placeless}
use Rattle.exact.proofs.Whole.Machine.{held}
use Rattle.exact.proofs.Matrices.Sizes.{sized_le}
use Rattle.ring.specs.Meaning.{quad}
use Rattle.ring.specs.Number.{Small}
use Rattle.ring.specs.declared.ZOmega.{ZOmega}
use Rattle.unitary.specs.declared.DOmegaUnitary.{DOmegaUnitary}
use Rattle.unitary.specs.Meaning.{triple, given, none, Answers, refused, Reduces, ReduceOutcome, as_checked}
use Rattle.unitary.specs.Checks.{UnitaryAt, CheckOutcome, below_zero, over_sixty, in_exponents, exponent_cast, exponent_size}

-- ---- the check
module _ (k : ℤ) (fits : SFits w64 k) (low : lt_z (held w64 k) (pos 0) ≡ false) (high : lt_z (pos 60) (held w64 k) ≡ false) where
  inside : InExponents k
  inside = in_exponents k (held w64 k) (to_z-of_z fits) low high

  pub cast_inside : T (non_neg (held w64 k)) × Fits w8 (nat_abs (held w64 k))
  cast_inside = exponent_cast k (held w64 k) (to_z-of_z fits) inside

  pub few_inside : nat_abs (held w64 k) ≤ deepest
  few_inside = rw (to_z-of_z fits) (exponent_size k inside)

pub small_inside : {z w : ZOmega} {a b : Bool} → Decides (Sized largest (quad z)) a → not a ≡ false → Decides (Sized largest (quad w)) b
    → not b ≡ false
    → InCoefficients (quad z) (quad w)
small_inside {z} {w} {a} {b} z_small z-yes w_small w-yes =
    record { z_in = z_small.yes (not-false a z-yes); w_in = w_small.yes (not-false b w-yes) }

module _ (k : ℤ) (z w : ZOmega) (fits : SFits w64 k) where
  pub refused_low : lt_z (held w64 k) (pos 0) ≡ true → CheckOutcome k z w Limits.exponent_refusal
  refused_low t = Rung.given 0 (below_zero k (held w64 k) (to_z-of_z fits) t, refl) refl

  pub refused_high : lt_z (pos 60) (held w64 k) ≡ true → CheckOutcome k z w Limits.exponent_refusal
  refused_high t = Rung.given 0 (over_sixty k (held w64 k) (to_z-of_z fits) t, refl) refl

  module _ (low : lt_z (held w64 k) (pos 0) ≡ false) (high : lt_z (pos 60) (held w64 k) ≡ false) where
    exponent_passed : (p : ℕ) → (InExponents k → ⊥) × (p ≡ 0) → ⊥
    exponent_passed p h = h.0 (inside k fits low high)

    outside : (InCoefficients (quad z) (quad w) → ⊥) → CheckOutcome k z w Limits.coefficient_refusal
    outside f = Rung.passed exponent_passed (Rung.given 0 (f, refl) refl)

    pub refused_z : {b : Bool} → Decides (Sized largest (quad z)) b → not b ≡ true → CheckOutcome k z w Limits.coefficient_refusal
    refused_z {b} d t = outside (λ h. d.no (not-true b t) h.z_in)

    pub refused_w : {b : Bool} → Decides (Sized largest (quad w)) b → not b ≡ true → CheckOutcome k z w Limits.coefficient_refusal
    refused_w {b} d t = outside (λ h. d.no (not-true b t) h.w_in)

    module _ {a b c : Bool} (z_small : Decides (Sized largest (quad z)) a) (z-yes : not a ≡ false)
        (w_small : Decides (Sized largest (quad w)) b) (w-yes : not b ≡ false)
        (sums : Decides (UnitaryAt (nat_abs (held w64 k)) z w) c) where
      coefficients_passed : (p : ℕ) → (InCoefficients (quad z) (quad w) → ⊥) × (p ≡ 0) → ⊥
      coefficients_passed p h = h.0 (small_inside z_small z-yes w_small w-yes)

      sums_of : Decides (UnitaryAt (nat_abs k) z w) c
      sums_of = subst (λ (y : ℤ). Decides (UnitaryAt (nat_abs y) z w) c) (to_z-of_z fits) sums

      pub refused_sums : not c ≡ true → CheckOutcome k z w Limits.unitary_refusal
      refused_sums t = Rung.passed exponent_passed (Rung.passed coefficients_passed (Rung.given 0 (sums_of.no (not-true c t), refl) refl))

      pub all_passed : not c ≡ false → CheckOutcome k z w Limits.no_refusal
      all_passed t =
          Rung.passed exponent_passed (Rung.passed coefficients_passed (Rung.passed (λ p h. h.0 (sums_of.yes (not-false c t))) refl))

-- ---- what a job knows that has asked the check
-- where nothing is refused
module _ {k : ℤ} {z w : ZOmega} (checked : CheckOutcome k z w Limits.no_refusal) where
  pub passed_taken : Taken k (quad z) (quad w)
  passed_taken = checks_taken k (quad z) (quad w) (check_passed (checks k (quad z) (quad w)) (checks_placeless k (quad z) (quad w)) 0 checked refl)

  pub passed_small : Small z × Small w
  passed_small =
      let h = passed_taken.coefficients_in in
      (record { sized = sized_le (omega arith) h.z_in }, record { sized = sized_le (omega arith) h.w_in })

  module _ (fits : SFits w64 k) where
    pub passed_cast : T (non_neg (held w64 k)) × Fits w8 (nat_abs (held w64 k))
    passed_cast = exponent_cast k (held w64 k) (to_z-of_z fits) passed_taken.exponent_in

    pub passed_few : nat_abs (held w64 k) ≤ deepest
    passed_few = rw (to_z-of_z fits) (exponent_size k passed_taken.exponent_in)

-- what is handed back: its refusal, or what comes behind it
module _ {R : Type 0} (refused : ℕ → ℕ → R) (Answer : R → Type 0) (more : Meaning.Refusals) (k : ℤ) (z w : ZOmega) where
  pub refusal_given : (e : Refusal) → CheckOutcome k z w (number e)
      → Meaning.Outcome refused Answer (checks k (quad z) (quad w) also more) (refused (number e) (place e))
  refusal_given e c = check_given k (quad z) (quad w) {A = Unit {0}} (Err e) c e refl refused Answer more

  pub passed_on : CheckOutcome k z w Limits.no_refusal → (r : R) → Meaning.Outcome refused Answer more r
      → Meaning.Outcome refused Answer (checks k (quad z) (quad w) also more) r
  passed_on c = pass refused Answer (checks k (quad z) (quad w)) more (taken_checks k (quad z) (quad w) (passed_taken c))

-- ---- the same of a number
module _ {k : ℤ} {z w : ZOmega} (fits : SFits w64 k) {r : ℕ} (checked : CheckOutcome (held w64 k) z w r) where
  of_k : CheckOutcome k z w r
  of_k = subst (λ (y : ℤ). CheckOutcome y z w r) (to_z-of_z fits) checked

  pub taken : r ≡ 0 → Taken k (quad z) (quad w)
  taken e = checks_taken k (quad z) (quad w) (check_passed (checks k (quad z) (quad w)) (checks_placeless k (quad z) (quad w)) r of_k e)

  pub taken_cast : r ≡ 0 → T (non_neg (held w64 k)) × Fits w8 (nat_abs (held w64 k))
  taken_cast e = exponent_cast k (held w64 k) (to_z-of_z fits) (taken e).exponent_in

  pub taken_small : r ≡ 0 → Small z × Small w
  taken_small e =
      let h = (taken e).coefficients_in in
      (record { sized = sized_le (omega arith) h.z_in }, record { sized = sized_le (omega arith) h.w_in })

  pub taken_k : r ≡ 0 → nat_abs (held w64 k) ≤ 61
  taken_k e = omega (arith, ap nat_abs (to_z-of_z fits), exponent_size k (taken e).exponent_in)

  -- what comes behind the check: refused as it says, or passed on
  module _ {R : Type 0} (refused : ℕ → ℕ → R) (Answer : R → Type 0) (more : Meaning.Refusals) where
    pub refused_as : (r ≡ 0 → ⊥) → Meaning.Outcome refused Answer (checks k (quad z) (quad w) also more) (refused r 0)
    refused_as n = check_refused refused Answer (checks k (quad z) (quad w)) more (checks_placeless k (quad z) (quad w)) r of_k n

    pub taken_as : r ≡ 0 → (o : R) → Meaning.Outcome refused Answer more o → Meaning.Outcome refused Answer (checks k (quad z) (quad w) also more) o
    taken_as e = pass refused Answer (checks k (quad z) (quad w)) more (taken_checks k (quad z) (quad w) (taken e))

-- ---- job 1
module _ (k : ℤ) (n : ℕ) (z w : ZOmega) where
  pub reduce_err : (e : Refusal) → CheckOutcome k z w (number e) → ReduceOutcome k n z w (as_checked (Err e))
  reduce_err = refusal_given refused (Reduces (entries (given k n z w))) Meaning.none k z w

  pub reduce_ok : CheckOutcome k z w Limits.no_refusal → SFits w64 k → (t : DOmegaUnitary)
      → Answers (entries (given (held w64 k) n z w)) (triple t) → ReduceOutcome k n z w (as_checked (Ok t))
  reduce_ok c fits t a =
      passed_on refused (Reduces (entries (given k n z w))) Meaning.none k z w c (as_checked (Ok t))
      (record { taken = refl; answer = subst (λ (y : ℤ). Answers (entries (given y n z w)) (triple t)) (to_z-of_z fits) a })

-- by a check's number
module _ (k : ℤ) (n : ℕ) (z w : ZOmega) (fits : SFits w64 k) (r : ℕ) (checked : CheckOutcome (held w64 k) z w r) where
  pub reduce_refused : (r ≡ 0 → ⊥) → (m : DOmegaUnitary) → m ≡ none → ReduceOutcome k n z w (record { refusal = r; matrix = m })
  reduce_refused f m e = rw e (refused_as fits checked refused (Reduces (entries (given k n z w))) Meaning.none f)

  pub reduce_taken : r ≡ 0 → (t : DOmegaUnitary) → Answers (entries (given (held w64 k) n z w)) (triple t)
      → ReduceOutcome k n z w (record { refusal = 0; matrix = t })
  reduce_taken e t a =
      taken_as fits checked refused (Reduces (entries (given k n z w))) Meaning.none e (record { refusal = 0; matrix = t })
      (record { taken = refl; answer = subst (λ (y : ℤ). Answers (entries (given y n z w)) (triple t)) (to_z-of_z fits) a })
