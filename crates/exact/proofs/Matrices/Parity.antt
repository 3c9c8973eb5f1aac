-- The number of T letters is even in all words with one matrix, up to a power of omega, or odd in all; for a triple's matrix it is odd exactly where n is.
-- Assumes nothing.
use Rattle.std.specs.Prelude.{◌≡◌, List, [], ◌∷◌, ◌%◌}
use Rattle.std.proofs.Common.{◌∙◌, ap, arith}
use Rattle.exact.specs.Meaning.Number.{ints, omegas, mul_q, conj_q, omega^}
use Rattle.exact.specs.Meaning.Matrix.{Same, ByOmega}
use Rattle.exact.specs.Meaning.Word.{Letter, word, tees}
use Rattle.exact.specs.Meaning.Triple.{Triple, entries, Unitary}
use Rattle.exact.proofs.Algebra.Solver.{var, ◌⊕◌, ◌⊗◌, ⊖, solve}
use Rattle.exact.proofs.Algebra.Omega.{omegas_laws}
use Rattle.exact.proofs.Algebra.Norm.{unitary_equation, two^}
use Rattle.exact.proofs.Matrices.Star.{Same-isometry}
use Rattle.exact.proofs.Matrices.Words.{word_isometry}
use Rattle.exact.proofs.Matrices.Triples.{isometry_unitary}
use Rattle.exact.proofs.Matrices.Determinant.{Det, scaled_det, same_det, word_det, odd_for_tees}

pub same_parity : (u v : List Letter) → ByOmega (word u) (word v) → tees u % 2 ≡ tees v % 2
same_parity u v h =
    omega (arith, odd_for_tees u, odd_for_tees v, same_det h.same (word_det u) (scaled_det h.power (word_det v)))

-- a unitary triple's determinant is omega to the n
triple_det : {t : Triple} → Unitary t → Det (entries t) t.n
triple_det {t} u =
    record {
      is =
          solve omegas omegas_laws (t.z ∷ conj_q ints t.z ∷ t.w ∷ conj_q ints t.w ∷ omega^ t.n ∷ [])
          ((var 0 ⊗ (var 1 ⊗ var 4)) ⊕ ⊖ (⊖ (var 3 ⊗ var 4) ⊗ var 2)) (((var 0 ⊗ var 1) ⊕ (var 2 ⊗ var 3)) ⊗ var 4) tt
          ∙ ap (λ c. mul_q ints c (omega^ t.n)) (unitary_equation u ∙ two^ t.k);
    }

-- every triple with a word's matrix is unitary
pub tees_n : (u : List Letter) (t : Triple) → Same (word u) (entries t) → tees u % 2 ≡ t.n % 2
tees_n u t h =
    omega (arith, odd_for_tees u, same_det {n = t.n} h (word_det u) (triple_det (isometry_unitary (Same-isometry h (word_isometry u)))))
