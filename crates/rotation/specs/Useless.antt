-- Wrong programs, and that what they hand back does not meet the promises: one that refuses all, one that hands on k or twice k for the T count, one whose
-- exponent is not the least, one that answers the transpose, one with the Y axis turned round. At T, where k is 0, and at HT, where it is 1. Assumes
-- nothing.
use Rattle.std.specs.Prelude.{◌≡◌, refl, [], ◌∷◌, ℕ, suc, ℤ, pos, negsuc, nat_abs}
use Rattle.std.proofs.Common.{ap, arith}
use Rattle.exact.specs.Meaning.Number.{up}
use Rattle.exact.specs.Meaning.Matrix.{Same}
use Rattle.exact.specs.Meaning.Word.{I, H, T', word}
use Rattle.exact.specs.Meaning.Triple.{entries}
use Rattle.exact.specs.Meaning.Rotation as Exact
use Rattle.exact.specs.Meaning.Rotation.{LeastExponent, RotationOf}
use Rattle.exact.specs.Meaning.Refusals.{checks}
use Rattle.exact.specs.Meaning.Outcome.{none}
use Rattle.exact.proofs.Cases.NormalTest.{normal_by}
use Rattle.exact.proofs.Matrices.Test.{same_by}
use Rattle.exact.proofs.Outcomes.Ladder.{pass, answered}
use Rattle.exact.proofs.Outcomes.Checked.{Taken, taken_checks}
use Rattle.exact.proofs.Rotation.Laws.{word_rotation, rotation_word, rotation_moved}
use Rattle.exact.proofs.Rotation.Least.{least_once, normal_least}
use Rattle.ring.specs.Meaning.{quad}
use Rattle.ring.specs.declared.ZOmega.{ZOmega}
use Rattle.unitary.specs.Meaning.{given}
use Rattle.root_two.specs.declared.Vect.{Vect}
use Rattle.rotation.specs.declared.Rotation.{Rotation}
use Rattle.rotation.specs.Meaning.{Answer, Count, refused, AnswersRotation, RotationOutcome, refused_count, AnswersCount, CountOutcome}
use Rattle.rotation.specs.Unique.{rotation_unique, count_unique}

-- ---- HT: z = 1, w = 1, n = 5, k = 1
abbrev one : ZOmega
one = record { a = pos 0; b = pos 0; c = pos 0; d = pos 1 }

ht_taken : Taken (pos 1) (quad one) (quad one)
ht_taken =
    record {
      exponent_in = record { low = record { le = tt }; high = record { le = tt } };
      coefficients_in = record { z_in = omega arith; w_in = omega arith };
      unitary_there = λ n. record { squares_sum = refl; crosses_sum = refl };
    }

ht_word : Same (word (H ∷ T' ∷ I ∷ [])) (entries (given (pos 1) 5 one one))
ht_word = same_by (word (H ∷ T' ∷ I ∷ [])) (entries (given (pos 1) 5 one one)) tt

abbrev turned_word : Exact.Rotation
turned_word = word_rotation (H ∷ T' ∷ I ∷ [])

ht_is : RotationOf (entries (given (pos 1) 5 one one)) turned_word
ht_is = rotation_moved ht_word (rotation_word (H ∷ T' ∷ I ∷ []))

ht_least : LeastExponent turned_word 1
ht_least = normal_least (normal_by (H ∷ T' ∷ I ∷ []) tt) (rotation_word (H ∷ T' ∷ I ∷ []))

ht_counts : CountOutcome (pos 1) 5 one one (record { refusal = 0; tees = 1 })
ht_counts =
    pass refused_count (AnswersCount (entries (given (pos 1) 5 one one))) (checks (pos 1) (quad one) (quad one)) none
    (taken_checks (pos 1) (quad one) (quad one) ht_taken) (record { refusal = 0; tees = 1 })
    (record { taken = refl; rotation = turned_word; is = ht_is; least = ht_least })

abbrev vector : ℤ → ℤ → ℤ → ℤ → Vect
vector x y z q = record { x = record { p = x; q = q }; y = record { p = y; q = pos 0 }; z = record { p = z; q = pos 0 } }

-- X becomes (Z - Y) over root two, Y becomes (-Y - Z) over root two, Z becomes X
ht : Rotation
ht = record {
  x = vector (pos 0) (negsuc 0) (pos 1) (pos 0);
  y = vector (pos 0) (negsuc 0) (negsuc 0) (pos 0);
  z = vector (pos 0) (pos 0) (pos 0) (pos 1);
  e = 1;
}

ht_turns : RotationOutcome (pos 1) 5 one one (record { refusal = 0; rotation = ht })
unfolding ht
ht_turns =
    pass refused (AnswersRotation (entries (given (pos 1) 5 one one))) (checks (pos 1) (quad one) (quad one)) none
    (taken_checks (pos 1) (quad one) (quad one) ht_taken) (record { refusal = 0; rotation = ht })
    (record { taken = refl; is = ht_is; least = ht_least })

-- ---- refuses all
pub no_refusal_t : (n : ℕ) (c : Count) → CountOutcome (pos 1) 5 one one c → c.refusal ≡ suc n → ⊥
no_refusal_t n c o e = omega (arith, e, ap (λ (j : Count). j.refusal) (count_unique (pos 1) 5 one one _ c ht_counts o))

pub no_refusal_r : (n : ℕ) (a : Answer) → RotationOutcome (pos 1) 5 one one a → a.refusal ≡ suc n → ⊥
no_refusal_r n a o e = omega (arith, e, ap (λ (j : Answer). j.refusal) (rotation_unique (pos 1) 5 one one _ a ht_turns o))

-- ---- k for the T count: at T that is 0
abbrev zero : ZOmega
zero = record { a = pos 0; b = pos 0; c = pos 0; d = pos 0 }

t_taken : Taken (pos 0) (quad one) (quad zero)
t_taken =
    record {
      exponent_in = record { low = record { le = tt }; high = record { le = tt } };
      coefficients_in = record { z_in = omega arith; w_in = omega arith };
      unitary_there = λ n. record { squares_sum = refl; crosses_sum = refl };
    }

pub k_alone : CountOutcome (pos 0) 1 one zero (record { refusal = 0; tees = 0 }) → ⊥
k_alone o =
    omega (arith, least_once (normal_least (normal_by (T' ∷ I ∷ []) tt) (rotation_moved t_word c.is)) c.least)
  where
    t_word : Same (entries (given (pos 0) 1 one zero)) (word (T' ∷ I ∷ []))
    t_word = same_by (entries (given (pos 0) 1 one zero)) (word (T' ∷ I ∷ [])) tt

    c : AnswersCount (entries (given (pos 0) 1 one zero)) (record { refusal = 0; tees = 0 })
    c =
        answered refused_count (AnswersCount (entries (given (pos 0) 1 one zero))) (checks (pos 0) (quad one) (quad zero))
        (taken_checks (pos 0) (quad one) (quad zero) t_taken) (record { refusal = 0; tees = 0 }) o

-- ---- twice k for the T count, and nothing
pub twice_k : CountOutcome (pos 1) 5 one one (record { refusal = 0; tees = 2 }) → ⊥
twice_k o = omega (arith, ap (λ (j : Count). j.tees) (count_unique (pos 1) 5 one one _ _ ht_counts o))

pub always_nought : CountOutcome (pos 1) 5 one one (record { refusal = 0; tees = 0 }) → ⊥
always_nought o = omega (arith, ap (λ (j : Count). j.tees) (count_unique (pos 1) 5 one one _ _ ht_counts o))

-- ---- no other rotation is allowed
other : (r : Rotation) → RotationOutcome (pos 1) 5 one one (record { refusal = 0; rotation = r }) → ht ≡ r
other r o = ap (λ (j : Answer). j.rotation) (rotation_unique (pos 1) 5 one one _ _ ht_turns o)

-- its exponent is not the least
pub not_lowered : (x y z : Vect) → RotationOutcome (pos 1) 5 one one (record { refusal = 0; rotation = record { x = x; y = y; z = z; e = 2 } }) → ⊥
unfolding ht
not_lowered x y z o = omega (arith, ap (λ (r : Rotation). r.e) (other (record { x = x; y = y; z = z; e = 2 }) o))

-- the transpose: what X becomes is the first row
pub transposed : (y z : Vect) → RotationOutcome (pos 1) 5 one one
    (record { refusal = 0; rotation = record { x = vector (pos 0) (pos 0) (pos 0) (pos 1); y = y; z = z; e = 1 } }) → ⊥
unfolding ht
transposed y z o =
    omega (arith, ap (λ (r : Rotation). nat_abs r.x.z.p) (other (record { x = vector (pos 0) (pos 0) (pos 0) (pos 1); y = y; z = z; e = 1 }) o))

-- the Y axis turned round: what X becomes has Y with the other sign
pub y_turned : (y z : Vect) → RotationOutcome (pos 1) 5 one one
    (record { refusal = 0; rotation = record { x = vector (pos 0) (pos 1) (pos 1) (pos 0); y = y; z = z; e = 1 } }) → ⊥
unfolding ht
y_turned y z o =
    omega (arith, ap (λ (r : Rotation). up r.x.y.p) (other (record { x = vector (pos 0) (pos 1) (pos 1) (pos 0); y = y; z = z; e = 1 }) o))
