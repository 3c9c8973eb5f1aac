-- Triples (docs/SCOPE.md, Triples): each letter acts on them from the left, exactly; their product; unitary means that M*·M is 2 to the k.
-- Every word's matrix is that of a unitary triple. Assumes nothing.
use Rattle.std.specs.Prelude.{◌≡◌, refl, List, [], ◌∷◌, ℕ, ◌+◌, ℤ, pos}
use Rattle.std.proofs.Common.{sym, ◌∙◌, ap, ap₂, arith}
use Rattle.exact.specs.Meaning.Number.{Quad, Ω, ints, omegas, quads, power, add_q, neg_q, mul_q, const_q, conj_q, omega', omega^, root2^}
use Rattle.exact.specs.Meaning.Matrix.{Mat, mul_m, star_m, ◌·◌, Same}
use Rattle.exact.specs.Meaning.Word.{Letter, I, H, S, X, W, T', letter_m, letter, word}
use Rattle.exact.specs.Meaning.Triple.{Triple, rows, entries, Unitary}
use Rattle.exact.proofs.Algebra.Ring.{ints_laws}
use Rattle.exact.proofs.Algebra.Solver.{Expr, var, con, ◌⊕◌, ◌⊗◌, ⊖, exprs, solve, solve_from, ring₁, ring₄}
use Rattle.exact.proofs.Algebra.Omega.{omegas_laws, conj_conj, conj_eval, X₀, X₁, X₂, parts}
use Rattle.exact.proofs.Algebra.OmegaPower.{omega^_add, omega^_conj}
use Rattle.exact.proofs.Algebra.Norm.{norm, unitary_equation, equation_unitary, two^}
use Rattle.exact.proofs.Matrices.Laws.{mat_path, passed, solve_MQ}
use Rattle.exact.proofs.Matrices.Same.{matrix_path}
use Rattle.exact.proofs.Matrices.Star.{Isometry, mul_isometry, Same-isometry}
use Rattle.exact.proofs.Matrices.Words.{letter_isometry}
use Rattle.exact.specs.Matrices.Triples.{act, identity}

-- what the solver's variables stand for, the new omega^n, and the letter's product
abbrev vars : Triple → List ℤ
vars t = parts t.z (parts t.w (parts (omega^ t.n) []))

abbrev turned : ℕ → Quad Expr
turned j = mul_q exprs X₂ (power (quads exprs) (omega' exprs) j)

abbrev product : Letter → Mat (Quad Expr)
product l = mul_m (quads exprs) (letter_m exprs l) (rows exprs X₀ X₁ X₂)

shifted : (j : ℕ) (t : Triple) (z w : Ω) → rows ints z w (omega^ (t.n + j)) ≡ rows ints z w (mul_q ints (omega^ t.n) (omega^ j))
shifted j t z w = ap (rows ints z w) (omega^_add t.n j)

acts_m : (l : Letter) (t : Triple) → (entries (act l t)).m ≡ mul_m omegas (letter_m ints l) (entries t).m
acts_m I t = solve_MQ ints ints_laws (vars t) (rows exprs X₀ X₁ X₂) (product I) passed
acts_m H t =
    shifted 4 t (act H t).z (act H t).w
    ∙ solve_MQ ints ints_laws (vars t) (rows exprs (add_q exprs X₀ X₁) (add_q exprs X₀ (neg_q exprs X₁)) (turned 4)) (product H) passed
acts_m S t =
    shifted 2 t (act S t).z (act S t).w
    ∙ solve_MQ ints ints_laws (vars t) (rows exprs X₀ (mul_q exprs (power (quads exprs) (omega' exprs) 2) X₁) (turned 2)) (product S) passed
acts_m X t = shifted 4 t (act X t).z (act X t).w ∙ solve_MQ ints ints_laws (vars t) (rows exprs X₁ X₀ (turned 4)) (product X) passed
acts_m W t =
    shifted 2 t (act W t).z (act W t).w
    ∙ solve_MQ ints ints_laws (vars t) (rows exprs (mul_q exprs (omega' exprs) X₀) (mul_q exprs (omega' exprs) X₁) (turned 2))
    (product W) passed
acts_m T' t =
    shifted 1 t (act T' t).z (act T' t).w
    ∙ solve_MQ ints ints_laws (vars t) (rows exprs X₀ (mul_q exprs (omega' exprs) X₁) (turned 1)) (product T') passed

acts_e : (l : Letter) (t : Triple) → (entries (act l t)).e ≡ (letter l · entries t).e
acts_e I t = omega arith
acts_e H t = omega arith
acts_e S t = omega arith
acts_e X t = omega arith
acts_e W t = omega arith
acts_e T' t = omega arith

pub acts : (l : Letter) (t : Triple) → entries (act l t) ≡ letter l · entries t
acts l t = matrix_path (acts_m l t) (acts_e l t)

-- ---- the conjugate transposed
pub star_entries : (t : Triple)
    → star_m ints (entries t).m
    ≡ record {
      p = conj_q ints t.z;
      q = conj_q ints t.w;
      r = neg_q ints (mul_q ints t.w (conj_q ints (omega^ t.n)));
      s = mul_q ints t.z (conj_q ints (omega^ t.n));
    }
star_entries t =
    mat_path refl refl
    (conj_eval (conj_q ints t.w ∷ omega^ t.n ∷ []) (⊖ (var 0 ⊗ var 1))
    ∙ ap (λ x. neg_q ints (mul_q ints x (conj_q ints (omega^ t.n)))) (conj_conj ints ints_laws t.w))
    (conj_eval (conj_q ints t.z ∷ omega^ t.n ∷ []) (var 0 ⊗ var 1)
    ∙ ap (λ x. mul_q ints x (conj_q ints (omega^ t.n))) (conj_conj ints ints_laws t.z))

-- ---- unitary
-- the four entries of M*·M, for numbers z and w, their conjugates, and u with its inverse v
pub unitary_isometry : {t : Triple} → Unitary t → Isometry (entries t)
unitary_isometry {t} h =
    record {
      inverted =
          ap (λ s. mul_m omegas s (entries t).m) (star_entries t)
          ∙ mat_path
          (ring₄ omegas omegas_laws (λ z z* w w*. z* ⊗ z ⊕ w* ⊗ w) (λ z z* w w*. z ⊗ z* ⊕ w ⊗ w*) tt z z* w w*
          ∙ size ∙ sym (one_at (root2^ t.k)))
          (solve omegas omegas_laws (z* ∷ w* ∷ u ∷ []) (var 0 ⊗ ⊖ (var 1 ⊗ var 2) ⊕ var 1 ⊗ (var 0 ⊗ var 2)) (con (pos 0)) tt
          ∙ sym (nil_at (root2^ t.k)))
          (solve omegas omegas_laws (z ∷ w ∷ v ∷ []) (⊖ (var 1 ⊗ var 2) ⊗ var 0 ⊕ var 0 ⊗ var 2 ⊗ var 1) (con (pos 0)) tt
          ∙ sym (nil_at (root2^ t.k)))
          (solve_from omegas omegas_laws (z ∷ z* ∷ w ∷ w* ∷ u ∷ v ∷ [])
          (record { c = var 0 ⊗ var 1 ⊕ var 2 ⊗ var 3; l = var 4 ⊗ var 5; r = con (pos 1) } ∷ [])
          (⊖ (var 2 ⊗ var 5) ⊗ ⊖ (var 3 ⊗ var 4) ⊕ var 0 ⊗ var 5 ⊗ (var 1 ⊗ var 4)) (var 0 ⊗ var 1 ⊕ var 2 ⊗ var 3) tt
          (omega^_conj t.n, tt)
          ∙ size ∙ sym (one_at (root2^ t.k)));
    }
  where
    z : Ω
    z = t.z

    z* : Ω
    z* = conj_q ints t.z

    w : Ω
    w = t.w

    w* : Ω
    w* = conj_q ints t.w

    u : Ω
    u = omega^ t.n

    v : Ω
    v = conj_q ints (omega^ t.n)

    size : add_q ints (norm t.z) (norm t.w) ≡ mul_q ints (root2^ t.k) (root2^ t.k)
    size = unitary_equation h ∙ two^ t.k

    one_at : (c : Ω) → mul_q ints c (mul_q ints c (const_q ints (pos 1))) ≡ mul_q ints c c
    one_at = ring₁ omegas omegas_laws (λ c. c ⊗ (c ⊗ con (pos 1))) (λ c. c ⊗ c) tt

    nil_at : (c : Ω) → mul_q ints c (mul_q ints c (const_q ints (pos 0))) ≡ const_q ints (pos 0)
    nil_at = ring₁ omegas omegas_laws (λ c. c ⊗ (c ⊗ con (pos 0))) (λ c. con (pos 0)) tt

pub isometry_unitary : {t : Triple} → Isometry (entries t) → Unitary t
isometry_unitary {t} i =
    equation_unitary
    (ring₄ omegas omegas_laws (λ z z* w w*. z ⊗ z* ⊕ w ⊗ w*) (λ z z* w w*. z* ⊗ z ⊕ w* ⊗ w) tt
    t.z (conj_q ints t.z) t.w (conj_q ints t.w)
    ∙ ap (λ m. m.p) i.inverted
    ∙ ring₁ omegas omegas_laws (λ c. c ⊗ (c ⊗ con (pos 1))) (λ c. c ⊗ c) tt (root2^ t.k)
    ∙ sym (two^ t.k))

-- unitary is a matter of the matrix alone
pub unitary_same : {s t : Triple} → Same (entries s) (entries t) → Unitary s → Unitary t
unitary_same h u = isometry_unitary (Same-isometry h (unitary_isometry u))

pub unitary_act : (l : Letter) {t : Triple} → Unitary t → Unitary (act l t)
unitary_act l {t} u = isometry_unitary (rw (acts l t) (mul_isometry (letter_isometry l) (unitary_isometry u)))

abbrev pub triple_of : List Letter → Triple
triple_of [] = identity
triple_of (l ∷ u) = act l (triple_of u)

pub word_triple : (u : List Letter) → entries (triple_of u) ≡ word u
word_triple [] = refl
word_triple (l ∷ u) = acts l (triple_of u) ∙ ap (λ x. letter l · x) (word_triple u)

pub word_unitary : (u : List Letter) → Unitary (triple_of u)
word_unitary [] = record { squares_sum = refl; crosses_sum = refl }
word_unitary (l ∷ u) = unitary_act l (word_unitary u)

-- ---- the product of two triples
abbrev pub mul_t : Triple → Triple → Triple
mul_t s t = record {
  k = s.k + t.k;
  n = s.n + t.n;
  z = add_q ints (mul_q ints s.z t.z) (neg_q ints (mul_q ints (mul_q ints (conj_q ints s.w) (omega^ s.n)) t.w));
  w = add_q ints (mul_q ints s.w t.z) (mul_q ints (mul_q ints (conj_q ints s.z) (omega^ s.n)) t.w);
}

pub mul_t_is : (s t : Triple) → entries (mul_t s t) ≡ entries s · entries t
mul_t_is s t =
    matrix_path
    (mat_path
    (solve omegas omegas_laws xs (var 0 ⊗ var 6 ⊕ ⊖ (var 3 ⊗ var 4 ⊗ var 8)) (var 0 ⊗ var 6 ⊕ ⊖ (var 3 ⊗ var 4) ⊗ var 8) tt)
    (ap₂ (λ x y. neg_q ints (mul_q ints x y))
    (conj_eval xs (var 2 ⊗ var 6 ⊕ var 1 ⊗ var 4 ⊗ var 8)
    ∙ ap (λ a. add_q ints (mul_q ints w* z₂*) (mul_q ints (mul_q ints a v) w₂*)) (conj_conj ints ints_laws s.z)) (omega^_add s.n t.n)
    ∙ solve_from omegas omegas_laws xs (record { c = ⊖ (var 0 ⊗ var 9 ⊗ var 10); l = var 4 ⊗ var 5; r = con (pos 1) } ∷ [])
    (⊖ ((var 3 ⊗ var 7 ⊕ var 0 ⊗ var 5 ⊗ var 9) ⊗ (var 4 ⊗ var 10)))
    (var 0 ⊗ ⊖ (var 9 ⊗ var 10) ⊕ ⊖ (var 3 ⊗ var 4) ⊗ (var 7 ⊗ var 10)) tt
    (omega^_conj s.n, tt))
    (solve omegas omegas_laws xs (var 2 ⊗ var 6 ⊕ var 1 ⊗ var 4 ⊗ var 8) (var 2 ⊗ var 6 ⊕ var 1 ⊗ var 4 ⊗ var 8) tt)
    (ap₂ (mul_q ints)
    (conj_eval xs (var 0 ⊗ var 6 ⊕ ⊖ (var 3 ⊗ var 4 ⊗ var 8))
    ∙ ap (λ a. add_q ints (mul_q ints z* z₂*) (neg_q ints (mul_q ints (mul_q ints a v) w₂*))) (conj_conj ints ints_laws s.w))
    (omega^_add s.n t.n)
    ∙ solve_from omegas omegas_laws xs (record { c = ⊖ (var 2 ⊗ var 9 ⊗ var 10); l = var 4 ⊗ var 5; r = con (pos 1) } ∷ [])
    ((var 1 ⊗ var 7 ⊕ ⊖ (var 2 ⊗ var 5 ⊗ var 9)) ⊗ (var 4 ⊗ var 10))
    (var 2 ⊗ ⊖ (var 9 ⊗ var 10) ⊕ var 1 ⊗ var 4 ⊗ (var 7 ⊗ var 10)) tt
    (omega^_conj s.n, tt)))
    refl
  where
    z* : Ω
    z* = conj_q ints s.z

    w* : Ω
    w* = conj_q ints s.w

    v : Ω
    v = conj_q ints (omega^ s.n)

    z₂* : Ω
    z₂* = conj_q ints t.z

    w₂* : Ω
    w₂* = conj_q ints t.w

    -- z, z*, w, w*, u, u* of the first; z, z*, w, w*, u of the second
    xs : List Ω
    xs = s.z ∷ z* ∷ s.w ∷ w* ∷ omega^ s.n ∷ v ∷ t.z ∷ z₂* ∷ t.w ∷ w₂* ∷ omega^ t.n ∷ []

pub unitary_mul_t : {s t : Triple} → Unitary s → Unitary t → Unitary (mul_t s t)
unitary_mul_t {s} {t} u v = isometry_unitary (rw (mul_t_is s t) (mul_isometry (unitary_isometry u) (unitary_isometry v)))
