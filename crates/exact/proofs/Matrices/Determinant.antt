-- Determinants: that of a product is the product, one matrix has one, and a letter's is a power of omega, odd for T alone. Assumes nothing.
use Rattle.std.specs.Prelude.{◌≡◌, refl, List, [], ◌∷◌, ℕ, ◌+◌, ◌%◌}
use Rattle.std.proofs.Common.{sym, ◌∙◌, ap, ap₂, arith}
use Rattle.exact.specs.Meaning.Number.{Ops, Ω, ints, omegas, mul_q, omega^, root2^}
use Rattle.exact.specs.Meaning.Matrix.{Mat, mul_m, scale_m, Matrix, ◌·◌, Same, scaled}
use Rattle.exact.specs.Meaning.Word.{Letter, I, H, S, X, W, T', letter, word, tee, tees}
use Rattle.exact.proofs.Algebra.Ring.{Laws}
use Rattle.exact.proofs.Algebra.Solver.{var, ◌⊗◌, exprs, solve, ring₃, ring₄}
use Rattle.exact.proofs.Algebra.Omega.{omegas_laws, root2^_add, root2^_cancel}
use Rattle.exact.proofs.Algebra.OmegaPower.{omega^_add, omega^_same}
use Rattle.exact.proofs.Matrices.Laws.{M₀, M₁, entries_of}
use Rattle.exact.specs.Matrices.Determinant.{eighths}

module _ (O : Ops) where
  abbrev pub det_m : Mat O.Car → O.Car
  det_m x = O.add (O.mul x.p x.s) (O.neg (O.mul x.q x.r))

module _ (O : Ops) (L : Laws O) where
  det_mul : (x y : Mat O.Car) → det_m O (mul_m O x y) ≡ O.mul (det_m O x) (det_m O y)
  det_mul x y = solve O L (entries_of x (entries_of y [])) (det_m exprs (mul_m exprs M₀ M₁)) (det_m exprs M₀ ⊗ det_m exprs M₁) tt

  det_scale : (c : O.Car) (x : Mat O.Car) → det_m O (scale_m O c x) ≡ O.mul (O.mul c c) (det_m O x)
  det_scale c x = solve O L (entries_of x (c ∷ [])) (det_m exprs (scale_m exprs (var 4) M₀)) ((var 4 ⊗ var 4) ⊗ det_m exprs M₀) tt

-- ---- the determinant of m over root two to the e is omega to the n
pub record Det (x : Matrix) (n : ℕ) : Type 0 where
  pub is : det_m omegas x.m ≡ mul_q ints (mul_q ints (root2^ x.e) (root2^ x.e)) (omega^ n)

mul_det : {x y : Matrix} {m n : ℕ} → Det x m → Det y n → Det (x · y) (m + n)
mul_det {x} {y} {m} {n} h k =
    record {
      is =
          det_mul omegas omegas_laws x.m y.m
          ∙ ap₂ (mul_q ints) h.is k.is
          ∙ ring₄ omegas omegas_laws (λ a b c d. ((a ⊗ a) ⊗ c) ⊗ ((b ⊗ b) ⊗ d)) (λ a b c d. ((a ⊗ b) ⊗ (a ⊗ b)) ⊗ (c ⊗ d)) tt
          (root2^ x.e) (root2^ y.e) (omega^ m) (omega^ n)
          ∙ sym (ap₂ (λ r c. mul_q ints (mul_q ints r r) c) (root2^_add x.e y.e) (omega^_add m n));
    }

pub scaled_det : (k : ℕ) {x : Matrix} {n : ℕ} → Det x n → Det (scaled (omega^ k) x) (k + k + n)
scaled_det k {x} {n} h =
    record {
      is =
          det_scale omegas omegas_laws (omega^ k) x.m
          ∙ ap (mul_q ints (mul_q ints (omega^ k) (omega^ k))) h.is
          ∙ ring₃ omegas omegas_laws (λ c r d. (c ⊗ c) ⊗ ((r ⊗ r) ⊗ d)) (λ c r d. (r ⊗ r) ⊗ ((c ⊗ c) ⊗ d)) tt
          (omega^ k) (root2^ x.e) (omega^ n)
          ∙ sym (ap (mul_q ints (mul_q ints (root2^ x.e) (root2^ x.e)))
          (omega^_add (k + k) n ∙ ap (λ c. mul_q ints c (omega^ n)) (omega^_add k k)));
    }

-- one matrix, one power
pub same_det : {x y : Matrix} {m n : ℕ} → Same x y → Det x m → Det y n → m % 8 ≡ n % 8
same_det {x} {y} {m} {n} h p q =
    omega^_same m n (strike x.e (strike x.e (strike y.e (strike y.e whole))))
  where
    a : Ω
    a = root2^ x.e

    b : Ω
    b = root2^ y.e

    -- the four root twos that are struck
    before : Ω → Ω
    before c = mul_q ints b (mul_q ints b (mul_q ints a (mul_q ints a c)))

    strike : (e : ℕ) {c d : Ω} → mul_q ints (root2^ e) c ≡ mul_q ints (root2^ e) d → c ≡ d
    strike e {c} {d} = root2^_cancel e c d

    whole : before (omega^ m) ≡ before (omega^ n)
    whole =
        ring₃ omegas omegas_laws (λ a b c. b ⊗ (b ⊗ (a ⊗ (a ⊗ c)))) (λ a b c. (b ⊗ b) ⊗ ((a ⊗ a) ⊗ c)) tt a b (omega^ m)
        ∙ sym (ap (mul_q ints (mul_q ints b b)) p.is)
        ∙ sym (det_scale omegas omegas_laws b x.m)
        ∙ ap (det_m omegas) h.same
        ∙ det_scale omegas omegas_laws a y.m
        ∙ ap (mul_q ints (mul_q ints a a)) q.is
        ∙ ring₃ omegas omegas_laws (λ a b c. (a ⊗ a) ⊗ ((b ⊗ b) ⊗ c)) (λ a b c. b ⊗ (b ⊗ (a ⊗ (a ⊗ c)))) tt a b (omega^ n)

letter_det : (l : Letter) → Det (letter l) (eighths l)
letter_det I = record { is = refl }
letter_det H = record { is = refl }
letter_det S = record { is = refl }
letter_det X = record { is = refl }
letter_det W = record { is = refl }
letter_det T' = record { is = refl }

odd_for_T : (l : Letter) → eighths l % 2 ≡ tee l
odd_for_T I = refl
odd_for_T H = refl
odd_for_T S = refl
odd_for_T X = refl
odd_for_T W = refl
odd_for_T T' = refl

abbrev eighths_of : List Letter → ℕ
eighths_of [] = 0
eighths_of (l ∷ u) = eighths l + eighths_of u

pub word_det : (u : List Letter) → Det (word u) (eighths_of u)
word_det [] = record { is = refl }
word_det (l ∷ u) = mul_det (letter_det l) (word_det u)

pub odd_for_tees : (u : List Letter) → eighths_of u % 2 ≡ tees u % 2
odd_for_tees [] = refl
odd_for_tees (l ∷ u) = omega (arith, odd_for_T l, odd_for_tees u)
