-- Vectors (x,y,z) over ℤ[root two], their matrices sigma v = [z, x-iy; x+iy, -z], and how a letter turns them: T scaled by root two, the others
-- exactly. Over any ring's operations. Assumes nothing.
use Rattle.std.specs.Prelude.{◌≡◌, refl, List, [], ◌∷◌, ℕ, zero, suc, ◌+◌, ℤ, pos, ◌+ℤ◌, ◌-ℤ◌}
use Rattle.std.proofs.Common.{◌∙◌, ap, arith, zero-add, suc-add}
use Rattle.exact.specs.Meaning.Number.{Ops, Quad, ints, omegas, quads, root2, root2^}
use Rattle.exact.specs.Meaning.Matrix.{Mat, scale_m}
use Rattle.exact.specs.Meaning.Word.{Letter, I, H, S, X, W, T'}
use Rattle.exact.specs.Meaning.Rotation.{Vect, add_r, times_r, times_v, lift}
use Rattle.exact.proofs.Whole.Linear.{int}
use Rattle.exact.proofs.Whole.Linear.{sum, difference}
use Rattle.exact.proofs.Algebra.Ring.{ints_laws}
use Rattle.exact.proofs.Algebra.Solver.{Expr, var, exprs}
use Rattle.exact.proofs.Algebra.Omega.{omegas_laws}
use Rattle.exact.specs.Algebra.RootTwo.{neg_r}
use Rattle.exact.proofs.Algebra.RootTwo.{root_path, times_r_cancel}
use Rattle.exact.specs.Algebra.RootPower.{lift_r}
use Rattle.exact.proofs.Matrices.Laws.{passed, solve_MQ, scale_scale, scale_one}
use Rattle.exact.proofs.Matrices.Same.{lifted}

pub vect_path : {A : Type 0} {v w : Vect A} → v.x ≡ w.x → v.y ≡ w.y → v.z ≡ w.z → v ≡ w
vect_path h k m = λ i. record { x = h i; y = k i; z = m i }

module _ (O : Ops) where
  open O use {Car, add as ◌+'◌, neg, const}

  infixl 6 ◌+'◌
  abbrev pub turn_l : Letter → Vect Car → Vect Car
  turn_l I v = v
  turn_l H v = record { x = v.z; y = neg_r O v.y; z = v.x }
  turn_l S v = record { x = neg_r O v.y; y = v.x; z = v.z }
  turn_l X v = record { x = v.x; y = neg_r O v.y; z = neg_r O v.z }
  turn_l W v = v
  turn_l T' v = record { x = add_r O v.x (neg_r O v.y); y = add_r O v.x v.y; z = times_r O v.z }

  -- [z, x-iy; x+iy, -z], root two being w - w³ and i being w²
  abbrev pub sigma : Vect Car → Mat (Quad Car)
  sigma v = record {
    p = record { a = neg v.z.q; b = const (pos 0); c = v.z.q; d = v.z.p };
    q = record { a = neg (v.x.q +' v.y.q); b = neg v.y.p; c = v.x.q +' neg v.y.q; d = v.x.p };
    r = record { a = v.y.q +' neg v.x.q; b = v.y.p; c = v.x.q +' v.y.q; d = v.x.p };
    s = record { a = v.z.q; b = const (pos 0); c = neg v.z.q; d = neg v.z.p };
  }

-- ---- words
abbrev pub turn : List Letter → Vect ℤ → Vect ℤ
turn [] v = v
turn (l ∷ u) v = turn_l ints l (turn u v)

-- ---- powers of root two
pub lift_parts : (n : ℕ) (v : Vect ℤ) → lift n v ≡ record { x = lift_r n v.x; y = lift_r n v.y; z = lift_r n v.z }
lift_parts zero v = refl
lift_parts (suc n) v = ap (λ w. record { x = times_r ints w.x; y = times_r ints w.y; z = times_r ints w.z }) (lift_parts n v)

pub lift_add : (m n : ℕ) (v : Vect ℤ) → lift (m + n) v ≡ lift m (lift n v)
lift_add zero n v = ap (λ k. lift k v) (zero-add n)
lift_add (suc m) n v = ap (λ k. lift k v) (suc-add m n) ∙ ap (times_v ints) (lift_add m n v)

pub lift_cancel : (n : ℕ) (v w : Vect ℤ) → lift n v ≡ lift n w → v ≡ w
lift_cancel zero v w h = h
lift_cancel (suc n) v w h = lift_cancel n v w (once (lift n v) (lift n w) h)
  where
    once : (v w : Vect ℤ) → times_v ints v ≡ times_v ints w → v ≡ w
    once v w e =
        vect_path
        (times_r_cancel v.x w.x (ap (λ u. u.x) e))
        (times_r_cancel v.y w.y (ap (λ u. u.y) e))
        (times_r_cancel v.z w.z (ap (λ u. u.z) e))

-- ---- the solver's vector
abbrev pub V₀ : Vect Expr
V₀ = record { x = record { p = var 0; q = var 1 }; y = record { p = var 2; q = var 3 }; z = record { p = var 4; q = var 5 } }

abbrev pub coords : {A : Type 0} → Vect A → List A
coords v = v.x.p ∷ v.x.q ∷ v.y.p ∷ v.y.q ∷ v.z.p ∷ v.z.q ∷ []

pub lifted_sigma : (n : ℕ) (v : Vect ℤ) → lifted n (sigma ints v) ≡ sigma ints (lift n v)
lifted_sigma zero v = scale_one omegas omegas_laws (sigma ints v)
lifted_sigma (suc n) v =
    scale_scale omegas omegas_laws (root2 ints) (root2^ n) (sigma ints v) ∙ ap (scale_m omegas (root2 ints)) (lifted_sigma n v) ∙ once (lift n v)
  where
    once : (v : Vect ℤ) → scale_m omegas (root2 ints) (sigma ints v) ≡ sigma ints (times_v ints v)
    once v = solve_MQ ints ints_laws (coords v) (scale_m (quads exprs) (root2 exprs) (sigma exprs V₀)) (sigma exprs (times_v exprs V₀)) passed

-- a vector is read off its matrix
pub sigma_inj : (v w : Vect ℤ) → sigma ints v ≡ sigma ints w → v ≡ w
sigma_inj v w h =
    vect_path
    (root_path (ap (λ m. m.r.d) h) (left v.x.q v.y.q w.x.q w.y.q (ap (λ m. m.r.c) h) (ap (λ m. m.q.c) h)))
    (root_path (ap (λ m. m.r.b) h) (right v.x.q v.y.q w.x.q w.y.q (ap (λ m. m.r.c) h) (ap (λ m. m.q.c) h)))
    (root_path (ap (λ m. m.p.d) h) (ap (λ m. m.p.c) h))
  where
    left : (a b c d : ℤ) → a +ℤ b ≡ c +ℤ d → a -ℤ b ≡ c -ℤ d → a ≡ c
    left a b c d h k = omega (arith, int, sum a b, sum c d, difference a b, difference c d)

    right : (a b c d : ℤ) → a +ℤ b ≡ c +ℤ d → a -ℤ b ≡ c -ℤ d → b ≡ d
    right a b c d h k = omega (arith, int, sum a b, sum c d, difference a b, difference c d)
