-- "The same matrix" is an equivalence and respects the product on both sides; the product is associative. Assumes nothing.
use Rattle.std.specs.Prelude.{◌≡◌, refl, ℕ, ◌+◌}
use Rattle.std.proofs.Common.{sym, ◌∙◌, ap, ap₂}
use native.Mathlib.Nat.{zero-add, add_assoc}
use Rattle.exact.specs.Meaning.Number.{Ω, omegas, root2^}
use Rattle.exact.specs.Meaning.Matrix.{Mat, mul_m, scale_m, Matrix, unit, ◌·◌, Same}
use Rattle.exact.proofs.Algebra.Omega.{omegas_laws, root2^_add, root2^_cancel}
use Rattle.exact.proofs.Matrices.Laws.{mat_path, mul_m_assoc, unit_mul_m, mul_m_unit, scale_swap, scale_both}

pub matrix_path : {x y : Matrix} → x.m ≡ y.m → x.e ≡ y.e → x ≡ y
matrix_path h k = λ i. record { m = h i; e = k i }

pub mul_assoc : (x y z : Matrix) → (x · y) · z ≡ x · (y · z)
mul_assoc x y z = matrix_path (mul_m_assoc omegas omegas_laws x.m y.m z.m) (add_assoc x.e y.e z.e)

pub unit_mul : (x : Matrix) → unit · x ≡ x
unit_mul x = matrix_path (unit_mul_m omegas omegas_laws x.m) (zero-add x.e)

pub mul_unit : (x : Matrix) → x · unit ≡ x
mul_unit x = matrix_path (mul_m_unit omegas omegas_laws x.m) (native.Mathlib.Nat.add-zero x.e)

-- root two to the n times
abbrev pub lifted : ℕ → Mat Ω → Mat Ω
lifted n x = scale_m omegas (root2^ n) x

pub lifted_cancel : (n : ℕ) (x y : Mat Ω) → lifted n x ≡ lifted n y → x ≡ y
lifted_cancel n x y h =
    mat_path
    (root2^_cancel n x.p y.p (ap (λ m. m.p) h))
    (root2^_cancel n x.q y.q (ap (λ m. m.q) h))
    (root2^_cancel n x.r y.r (ap (λ m. m.r) h))
    (root2^_cancel n x.s y.s (ap (λ m. m.s) h))

-- ---- an equivalence
pub Same-refl : (x : Matrix) → Same x x
Same-refl x = record { same = refl }

pub Same-of : {x y : Matrix} → x ≡ y → Same x y
Same-of {x} {y} e = rw e (Same-refl y)

pub Same-sym : {x y : Matrix} → Same x y → Same y x
Same-sym h = record { same = sym h.same }

pub Same-trans : {x y z : Matrix} → Same x y → Same y z → Same x z
Same-trans {x} {y} {z} h k =
    record {
      same =
          lifted_cancel y.e (lifted z.e x.m) (lifted x.e z.m)
          (scale_swap omegas omegas_laws b c x.m
          ∙ ap (scale_m omegas c) h.same
          ∙ scale_swap omegas omegas_laws c a y.m
          ∙ ap (scale_m omegas a) k.same
          ∙ scale_swap omegas omegas_laws a b z.m);
    }
  where
    a : Ω
    a = root2^ x.e

    b : Ω
    b = root2^ y.e

    c : Ω
    c = root2^ z.e

-- ---- the product
pub Same-mul : {x x' y y' : Matrix} → Same x x' → Same y y' → Same (x · y) (x' · y')
Same-mul {x} {x'} {y} {y'} h k = record { same = side x x' y y' ∙ ap₂ (mul_m omegas) h.same k.same ∙ sym (side x' x y' y) }
  where
    side : (x x' y y' : Matrix) → lifted (x'.e + y'.e) (mul_m omegas x.m y.m) ≡ mul_m omegas (lifted x'.e x.m) (lifted y'.e y.m)
    side x x' y y' =
        ap (λ c. scale_m omegas c (mul_m omegas x.m y.m)) (root2^_add x'.e y'.e)
        ∙ sym (scale_both omegas omegas_laws (root2^ x'.e) (root2^ y'.e) x.m y.m)

-- ---- one matrix at one exponent
pub Same-level : {x y : Matrix} → Same x y → x.e ≡ y.e → x.m ≡ y.m
Same-level {x} {y} h k = lifted_cancel y.e x.m y.m (h.same ∙ ap (λ n. lifted n y.m) k)
