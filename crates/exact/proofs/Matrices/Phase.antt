-- A matrix times a number: the same of two that are the same; powers of omega; W letters behind a word are one. Assumes nothing.
use Rattle.std.specs.Prelude.{◌≡◌, refl, List, ◌++◌, ℕ, zero, suc, ◌+◌, ◌%◌}
use Rattle.std.proofs.Common.{sym, ◌∙◌, ap, add-zero, arith}
use Rattle.exact.specs.Meaning.Number.{Ω, omegas, omega^, root2^}
use Rattle.exact.specs.Meaning.Matrix.{unit_m, scale_m, Matrix, unit, ◌·◌, Same, scaled, ByOmega}
use Rattle.exact.specs.Meaning.Word.{Letter, W, letter, word}
use Rattle.exact.specs.Meaning.Normal.{times}
use Rattle.exact.proofs.Algebra.Omega.{omegas_laws}
use Rattle.exact.proofs.Algebra.OmegaPower.{omega^_add, omega^_mod}
use Rattle.exact.proofs.Matrices.Laws.{mul_m_unit, mul_m_scale, scale_scale, scale_swap, scale_one}
use Rattle.exact.proofs.Matrices.Same.{matrix_path, Same-of, Same-trans}
use Rattle.exact.proofs.Matrices.Words.{word_append}

pub scaled_same : (c : Ω) {x y : Matrix} → Same x y → Same (scaled c x) (scaled c y)
scaled_same c {x} {y} h =
    record {
      same =
          scale_swap omegas omegas_laws (root2^ y.e) c x.m
          ∙ ap (scale_m omegas c) h.same
          ∙ scale_swap omegas omegas_laws c (root2^ x.e) y.m;
    }

-- ---- powers of omega
pub omega_one : (x : Matrix) → scaled (omega^ 0) x ≡ x
omega_one x = matrix_path (scale_one omegas omegas_laws x.m) refl

-- the same matrix is omega to the 0 times it
pub same_apart : {x y : Matrix} → Same x y → ByOmega x y
same_apart {x} {y} h = record { power = 0; few = omega arith; same = Same-trans h (Same-of (sym (omega_one y))) }

pub omega_twice : (m n : ℕ) (x : Matrix) → scaled (omega^ m) (scaled (omega^ n) x) ≡ scaled (omega^ (m + n)) x
omega_twice m n x =
    sym (matrix_path (ap (λ c. scale_m omegas c x.m) (omega^_add m n) ∙ scale_scale omegas omegas_laws (omega^ m) (omega^ n) x.m) refl)

pub omega_mod : (n : ℕ) (x : Matrix) → scaled (omega^ n) x ≡ scaled (omega^ (n % 8)) x
omega_mod n x = ap (λ c. scaled c x) (omega^_mod n)

-- ---- W letters
-- a number times a matrix is that number times the unit, on the right
scaled_right : (c : Ω) (x : Matrix) → x · scaled c unit ≡ scaled c x
scaled_right c x =
    matrix_path
    (mul_m_scale omegas omegas_laws c x.m (unit_m omegas) ∙ ap (scale_m omegas c) (mul_m_unit omegas omegas_laws x.m))
    (add-zero x.e)

ws_word : (n : ℕ) → word (times n W) ≡ scaled (omega^ n) unit
ws_word zero = sym (omega_one unit)
ws_word (suc n) =
    let more : n + 1 ≡ suc n = omega arith in
    ap (λ x. letter W · x) (ws_word n)
    ∙ scaled_right (omega^ n) (letter W)
    ∙ omega_twice n 1 unit
    ∙ ap (λ k. scaled (omega^ k) unit) more

pub ws_behind : (u : List Letter) (n : ℕ) → word (u ++ times n W) ≡ scaled (omega^ n) (word u)
ws_behind u n = word_append u (times n W) ∙ ap (λ x. word u · x) (ws_word n) ∙ scaled_right (omega^ n) (word u)
