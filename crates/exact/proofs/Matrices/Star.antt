-- The conjugate transposed; matrices that it inverts, up to their root twos, can be struck from the left; and M·s·M*. Assumes nothing.
use Rattle.std.specs.Prelude.{◌≡◌, refl, ℕ, ◌+◌}
use Rattle.std.proofs.Common.{sym, ◌∙◌, ap, ap₂}
use Rattle.exact.specs.Meaning.Number.{Ω, ints, omegas, mul_q, conj_q, root2^}
use Rattle.exact.specs.Meaning.Matrix.{Mat, unit_m, mul_m, scale_m, star_m, Matrix, unit, ◌·◌, Same}
use Rattle.exact.proofs.Algebra.Ring.{ints_laws}
use Rattle.exact.proofs.Algebra.Omega.{omegas_laws, conj_add, conj_mul, root2^_add, root2^_conj}
use Rattle.exact.proofs.Matrices.Laws.{mat_path, mul_m_assoc, unit_mul_m, scale_mul_m, mul_m_scale, scale_scale, scale_both, scale_past, scale_twice}
use Rattle.exact.proofs.Matrices.Same.{lifted, lifted_cancel}

star_entry : (a b c d : Ω)
    → conj_q ints (omegas.add (mul_q ints a b) (mul_q ints c d))
    ≡ omegas.add (mul_q ints (conj_q ints b) (conj_q ints a)) (mul_q ints (conj_q ints d) (conj_q ints c))
star_entry a b c d =
    conj_add ints ints_laws (mul_q ints a b) (mul_q ints c d)
    ∙ ap₂ omegas.add (conj_mul ints ints_laws a b ∙ omegas_laws.mul_comm (conj_q ints a) (conj_q ints b))
    (conj_mul ints ints_laws c d ∙ omegas_laws.mul_comm (conj_q ints c) (conj_q ints d))

pub star_mul : (x y : Mat Ω) → star_m ints (mul_m omegas x y) ≡ mul_m omegas (star_m ints y) (star_m ints x)
star_mul x y =
    mat_path
    (star_entry x.p y.p x.q y.r)
    (star_entry x.r y.p x.s y.r)
    (star_entry x.p y.q x.q y.s)
    (star_entry x.r y.q x.s y.s)

pub star_lifted : (n : ℕ) (x : Mat Ω) → star_m ints (lifted n x) ≡ lifted n (star_m ints x)
star_lifted n x = mat_path (one x.p) (one x.r) (one x.q) (one x.s)
  where
    one : (y : Ω) → conj_q ints (mul_q ints (root2^ n) y) ≡ mul_q ints (root2^ n) (conj_q ints y)
    one y = conj_mul ints ints_laws (root2^ n) y ∙ ap (λ c. mul_q ints c (conj_q ints y)) (root2^_conj n)

-- ---- M*·M is 2 to the exponent
pub record Isometry (x : Matrix) : Type 0 where
  pub inverted : mul_m omegas (star_m ints x.m) x.m ≡ lifted x.e (lifted x.e (unit_m omegas))

pub unit_isometry : Isometry unit
unit_isometry = record { inverted = refl }

-- M* takes M away, and leaves 2 to the exponent
undo : (x : Matrix) → Isometry x → (y : Mat Ω) → mul_m omegas (star_m ints x.m) (mul_m omegas x.m y) ≡ lifted x.e (lifted x.e y)
undo x i y =
    sym (mul_m_assoc omegas omegas_laws (star_m ints x.m) x.m y)
    ∙ ap (λ n. mul_m omegas n y) i.inverted
    ∙ scale_mul_m omegas omegas_laws (root2^ x.e) (lifted x.e (unit_m omegas)) y
    ∙ ap (lifted x.e) (scale_mul_m omegas omegas_laws (root2^ x.e) (unit_m omegas) y ∙ ap (lifted x.e) (unit_mul_m omegas omegas_laws y))

pub mul_isometry : {x y : Matrix} → Isometry x → Isometry y → Isometry (x · y)
mul_isometry {x} {y} h k =
    record {
      inverted =
          ap (λ s. mul_m omegas s (mul_m omegas x.m y.m)) (star_mul x.m y.m)
          ∙ mul_m_assoc omegas omegas_laws (star_m ints y.m) (star_m ints x.m) (mul_m omegas x.m y.m)
          ∙ ap (mul_m omegas (star_m ints y.m)) (undo x h y.m)
          ∙ mul_m_scale omegas omegas_laws (root2^ x.e) (star_m ints y.m) (lifted x.e y.m)
          ∙ ap (lifted x.e) (mul_m_scale omegas omegas_laws (root2^ x.e) (star_m ints y.m) y.m ∙ ap (lifted x.e) k.inverted)
          ∙ scale_twice omegas omegas_laws (root2^ x.e) (root2^ y.e) (unit_m omegas)
          ∙ sym (ap (λ c. scale_m omegas c (scale_m omegas c (unit_m omegas)))
          (root2^_add x.e y.e ∙ omegas_laws.mul_comm (root2^ x.e) (root2^ y.e)));
    }

pub Same-isometry : {x y : Matrix} → Same x y → Isometry x → Isometry y
Same-isometry {x} {y} h i =
    record {
      inverted =
          lifted_cancel x.e (mul_m omegas (star_m ints y.m) y.m) (lifted y.e (lifted y.e (unit_m omegas)))
          (lifted_cancel x.e (lifted x.e (mul_m omegas (star_m ints y.m) y.m))
          (lifted x.e (lifted y.e (lifted y.e (unit_m omegas))))
          (sym (squared x.e y.m)
          ∙ ap (λ m. mul_m omegas (star_m ints m) m) (sym h.same)
          ∙ squared y.e x.m
          ∙ ap (λ m. lifted y.e (lifted y.e m)) i.inverted
          ∙ ap (lifted y.e) (scale_past omegas omegas_laws (root2^ y.e) (root2^ x.e) (unit_m omegas))
          ∙ scale_past omegas omegas_laws (root2^ y.e) (root2^ x.e) (lifted y.e (unit_m omegas))));
    }
  where
    squared : (n : ℕ) (m : Mat Ω) → mul_m omegas (star_m ints (lifted n m)) (lifted n m) ≡ lifted n (lifted n (mul_m omegas (star_m ints m) m))
    squared n m =
        ap (λ s. mul_m omegas s (lifted n m)) (star_lifted n m)
        ∙ scale_both omegas omegas_laws (root2^ n) (root2^ n) (star_m ints m) m
        ∙ scale_scale omegas omegas_laws (root2^ n) (root2^ n) (mul_m omegas (star_m ints m) m)

-- ---- a common left factor is struck
pub strike : {x y z : Matrix} → Isometry x → Same (x · y) (x · z) → Same y z
strike {x} {y} {z} i h =
    record {
      same =
          lifted_cancel x.e P Q
          (lifted_cancel x.e (lifted x.e P) (lifted x.e Q)
          (lifted_cancel x.e (lifted x.e (lifted x.e P)) (lifted x.e (lifted x.e Q))
          (sym (side y z) ∙ ap (mul_m omegas (star_m ints x.m)) h.same ∙ side z y)));
    }
  where
    P : Mat Ω
    P = lifted z.e y.m

    Q : Mat Ω
    Q = lifted y.e z.m

    side : (y z : Matrix)
        → mul_m omegas (star_m ints x.m) (lifted (x.e + z.e) (mul_m omegas x.m y.m))
        ≡ lifted x.e (lifted x.e (lifted x.e (lifted z.e y.m)))
    side y z =
        ap (λ c. mul_m omegas (star_m ints x.m) (scale_m omegas c (mul_m omegas x.m y.m))) (root2^_add x.e z.e)
        ∙ mul_m_scale omegas omegas_laws (mul_q ints (root2^ x.e) (root2^ z.e)) (star_m ints x.m) (mul_m omegas x.m y.m)
        ∙ ap (scale_m omegas (mul_q ints (root2^ x.e) (root2^ z.e))) (undo x i y.m)
        ∙ scale_scale omegas omegas_laws (root2^ x.e) (root2^ z.e) (lifted x.e (lifted x.e y.m))
        ∙ ap (lifted x.e) (scale_past omegas omegas_laws (root2^ z.e) (root2^ x.e) y.m)

-- ---- M·s·M*
abbrev pub sand : Mat Ω → Mat Ω → Mat Ω
sand m s = mul_m omegas (mul_m omegas m s) (star_m ints m)

pub sand_mul : (m n s : Mat Ω) → sand (mul_m omegas m n) s ≡ sand m (sand n s)
sand_mul m n s =
    ap₂ (mul_m omegas) (mul_m_assoc omegas omegas_laws m n s) (star_mul m n)
    ∙ sym (mul_m_assoc omegas omegas_laws (mul_m omegas m (mul_m omegas n s)) (star_m ints n) (star_m ints m))
    ∙ ap (λ y. mul_m omegas y (star_m ints m)) (mul_m_assoc omegas omegas_laws m (mul_m omegas n s) (star_m ints n))

pub sand_scale : (c : Ω) (m s : Mat Ω) → sand m (scale_m omegas c s) ≡ scale_m omegas c (sand m s)
sand_scale c m s =
    ap (λ y. mul_m omegas y (star_m ints m)) (mul_m_scale omegas omegas_laws c m s)
    ∙ scale_mul_m omegas omegas_laws c (mul_m omegas m s) (star_m ints m)

pub lifted_sand : (n : ℕ) (m s : Mat Ω) → sand (lifted n m) s ≡ lifted n (lifted n (sand m s))
lifted_sand n m s =
    ap₂ (mul_m omegas) (scale_mul_m omegas omegas_laws (root2^ n) m s) (star_lifted n m)
    ∙ scale_both omegas omegas_laws (root2^ n) (root2^ n) (mul_m omegas m s) (star_m ints m)
    ∙ scale_scale omegas omegas_laws (root2^ n) (root2^ n) (sand m s)
