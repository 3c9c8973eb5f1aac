-- Programs that refuse all, or answer one matrix to everything, do not meet the promises of jobs 1 and 2: at named inputs their outcomes
-- are not allowed. Assumes nothing.
use Rattle.std.specs.Prelude.{◌≡◌, refl, [], ℕ, suc, ◌<◌, pos}
use Rattle.std.proofs.Common.{sym, ap, subst, arith}
use Rattle.exact.proofs.Matrices.Same.{Same-of}
use Rattle.exact.proofs.Matrices.Least.{test_reduced}
use Rattle.exact.specs.Meaning.Triple.{entries, Reduced}
use Rattle.exact.specs.Meaning.Outcome.{none}
use Rattle.exact.specs.Meaning.Refusals.{checks}
use Rattle.exact.proofs.Outcomes.Ladder.{pass}
use Rattle.exact.proofs.Outcomes.Checked.{Taken, taken_checks}
use Rattle.ring.specs.Meaning.{quad}
use Rattle.ring.specs.declared.ZOmega.{ZOmega}
use Rattle.unitary.specs.Meaning.{Checked, FromGates, triple, given, refused, Reduces, ReduceOutcome, MatrixOutcome}
use Rattle.unitary.specs.declared.DOmegaUnitary.{DOmegaUnitary}
use Rattle.unitary.specs.Reading.{read_start, read_whole}
use Rattle.unitary.specs.Unique.{reduce_unique, matrix_unique}

abbrev whole : ℕ → ZOmega
whole n = record { a = pos 0; b = pos 0; c = pos 0; d = pos n }

abbrev one : DOmegaUnitary
one = record { z = whole 1; w = whole 0; n = 0; k = 0 }

abbrev swap : DOmegaUnitary
swap = record { z = whole 0; w = whole 1; n = 4; k = 0 }

-- ---- what jobs 1 and 2 must answer
-- a reduced unitary triple at k = 0 is answered as it is
taken_as_it_is : (t : DOmegaUnitary) → Taken (pos 0) (quad t.z) (quad t.w) → t.k ≡ 0 → t.n < 8
    → ReduceOutcome (pos 0) t.n t.z t.w (record { refusal = 0; matrix = t })
taken_as_it_is t h e n =
    pass refused (Reduces (entries (given (pos 0) t.n t.z t.w))) (checks (pos 0) (quad t.z) (quad t.w)) none
    (taken_checks (pos 0) (quad t.z) (quad t.w) h) (record { refusal = 0; matrix = t })
    (record {
      taken = refl;
      answer =
          record {
            same = Same-of (ap entries at_0);
            reduced = subst Reduced (sym at_0) (test_reduced (given (pos 0) t.n t.z t.w) tt);
            n_small = n;
          };
    })
  where
    at_0 : triple t ≡ given (pos 0) t.n t.z t.w
    at_0 = λ i. record { k = e i; n = t.n; z = quad t.z; w = quad t.w }

one_taken : Taken (pos 0) (quad (whole 1)) (quad (whole 0))
one_taken =
    record {
      exponent_in = record { low = record { le = tt }; high = record { le = tt } };
      coefficients_in = record { z_in = omega arith; w_in = omega arith };
      unitary_there = λ n. record { squares_sum = refl; crosses_sum = refl };
    }

swap_taken : Taken (pos 0) (quad (whole 0)) (quad (whole 1))
swap_taken =
    record {
      exponent_in = record { low = record { le = tt }; high = record { le = tt } };
      coefficients_in = record { z_in = omega arith; w_in = omega arith };
      unitary_there = λ n. record { squares_sum = refl; crosses_sum = refl };
    }

empty_taken : MatrixOutcome [] (record { refusal = 0; place = 0; matrix = one })
empty_taken =
    read_whole [] (omega arith) 0 (record { most = omega arith; before = λ i h. absurd (omega arith); outside = λ h. absurd (omega arith) })
    (omega arith)
    one 0 (omega arith) (read_start [] one refl)

-- ---- refuses all
pub no_refusal_1 : (n : ℕ) (m : DOmegaUnitary) → ReduceOutcome (pos 0) 0 (whole 1) (whole 0) (record { refusal = suc n; matrix = m }) → ⊥
no_refusal_1 n m h =
    omega (
      arith,
      ap (λ (r : Checked). r.refusal) (reduce_unique (pos 0) 0 (whole 1) (whole 0) _ _ (taken_as_it_is one one_taken refl (omega arith)) h),
    )

pub no_refusal_2 : (n p : ℕ) (m : DOmegaUnitary) → MatrixOutcome [] (record { refusal = suc n; place = p; matrix = m }) → ⊥
no_refusal_2 n p m h = omega (arith, ap (λ (r : FromGates). r.refusal) (matrix_unique [] _ _ empty_taken h))

-- ---- always the identity
pub not_the_identity_1 : ReduceOutcome (pos 0) 4 (whole 0) (whole 1) (record { refusal = 0; matrix = one }) → ⊥
not_the_identity_1 h =
    omega (
      arith,
      ap (λ (r : Checked). r.matrix.n)
          (reduce_unique (pos 0) 4 (whole 0) (whole 1) _ _ (taken_as_it_is swap swap_taken refl (omega arith)) h),
    )
