-- A triple divided by a power of root two, its exponent as much lower: it has the same matrix, and there is one. Assumes nothing.
use Rattle.std.specs.Prelude.{◌≡◌, ℕ}
use Rattle.std.proofs.Common.{sym, ◌∙◌, ap, ap₂, arith}
use Rattle.exact.specs.Meaning.Number.{Ω, ints, omegas, neg_q, mul_q, conj_q, omega^, root2^}
use Rattle.exact.specs.Meaning.Matrix.{Mat, scale_m, Same}
use Rattle.exact.specs.Meaning.Triple.{Triple, entries}
use Rattle.exact.proofs.Algebra.Ring.{ints_laws}
use Rattle.exact.proofs.Algebra.Solver.{◌⊗◌, ⊖, ring₃}
use Rattle.exact.proofs.Algebra.Omega.{omegas_laws, conj_mul, root2^_add, root2^_cancel, root2^_conj}
use Rattle.exact.proofs.Matrices.Laws.{mat_path, scale_scale, scale_swap}
use Rattle.exact.proofs.Matrices.Same.{lifted}
use Rattle.exact.specs.Matrices.Divided.{Divided}

pub divided_same : (j : ℕ) (t r : Triple) → Divided j t r → Same (entries r) (entries t)
divided_same j t r h =
    record {
      same =
          ap (λ i. lifted i (entries r).m) h.k_is
          ∙ ap (λ c. lifted_by c) (root2^_add j r.k)
          ∙ scale_scale omegas omegas_laws (root2^ j) (root2^ r.k) (entries r).m
          ∙ scale_swap omegas omegas_laws (root2^ j) (root2^ r.k) (entries r).m
          ∙ ap (lifted r.k)
          (mat_path h.z_is (column_q ∙ ap₂ (λ x m. neg_q ints (mul_q ints (conj_q ints x) (omega^ m))) h.w_is h.n_is) h.w_is
          (column_s ∙ ap₂ (λ x m. mul_q ints (conj_q ints x) (omega^ m)) h.z_is h.n_is));
    }
  where
    c : Ω
    c = root2^ j

    u : Ω
    u = omega^ r.n

    lifted_by : Ω → Mat Ω
    lifted_by s = scale_m omegas s (entries r).m

    -- conjugation leaves the factor as it is
    through : (x : Ω) → mul_q ints c (conj_q ints x) ≡ conj_q ints (mul_q ints c x)
    through x = ap (λ y. mul_q ints y (conj_q ints x)) (sym (root2^_conj j)) ∙ sym (conj_mul ints ints_laws c x)

    column_s : mul_q ints c (mul_q ints (conj_q ints r.z) u) ≡ mul_q ints (conj_q ints (mul_q ints c r.z)) u
    column_s = sym (omegas_laws.mul_assoc c (conj_q ints r.z) u) ∙ ap (λ x. mul_q ints x u) (through r.z)

    column_q : mul_q ints c (neg_q ints (mul_q ints (conj_q ints r.w) u)) ≡ neg_q ints (mul_q ints (conj_q ints (mul_q ints c r.w)) u)
    column_q =
        ring₃ omegas omegas_laws (λ r x u. r ⊗ ⊖ (x ⊗ u)) (λ r x u. ⊖ (r ⊗ x ⊗ u)) tt c (conj_q ints r.w) u
        ∙ ap (λ x. neg_q ints (mul_q ints x u)) (through r.w)

pub divided_once : (j : ℕ) (t r s : Triple) → Divided j t r → Divided j t s → r ≡ s
divided_once j t r s g h = λ i. record { k = k_same i; n = (g.n_is ∙ sym h.n_is) i; z = z_same i; w = w_same i }
  where
    k_same : r.k ≡ s.k
    k_same = omega (arith, g.k_is, h.k_is)

    z_same : r.z ≡ s.z
    z_same = root2^_cancel j r.z s.z (g.z_is ∙ sym h.z_is)

    w_same : r.w ≡ s.w
    w_same = root2^_cancel j r.w s.w (g.w_is ∙ sym h.w_is)
