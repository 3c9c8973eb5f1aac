-- What a matrix M over root two to the e does to a vector v: it turns v into y over root two to the f, where M·sigma v·M* is sigma y, the root twos
-- counted on either side. Products turn one after the other; one matrix turns a vector in one way. So it is for letters and words. Assumes nothing.
use Rattle.std.specs.Prelude.{◌≡◌, List, [], ◌∷◌, ℕ, ◌+◌, ℤ, negsuc}
use Rattle.std.proofs.Common.{sym, ◌∙◌, ap, ap₂}
use Rattle.exact.specs.Meaning.Number.{Ops, Quad, Ω, ints, omegas, quads, power, mul_q, root2, root2^}
use Rattle.exact.specs.Meaning.Matrix.{Mat, mul_m, scale_m, star_m, Matrix, unit, ◌·◌, Same}
use Rattle.exact.specs.Meaning.Word.{Letter, I, H, S, X, W, T', letter_m, roots, letter, word, tee, tees}
use Rattle.exact.specs.Meaning.Rotation.{Vect, lift}
use Rattle.exact.proofs.Algebra.Ring.{ints_laws}
use Rattle.exact.proofs.Algebra.Solver.{Expr, var, con, ◌⊗◌, exprs, solve_from}
use Rattle.exact.proofs.Algebra.Omega.{omegas_laws, root2^_add, root2^_cancel}
use Rattle.exact.proofs.Matrices.Laws.{mat_path, unit_mul_m, mul_m_unit, passed, solve_MQ, scale_one, scale_scale, scale_past, scale_twice}
use Rattle.exact.proofs.Matrices.Same.{lifted}
use Rattle.exact.proofs.Matrices.Star.{sand, sand_mul, sand_scale, lifted_sand}
use Rattle.exact.proofs.Rotation.Vectors.{turn_l, turn, sigma, lifted_sigma, sigma_inj, V₀, coords}

pub record Turns (x : Matrix) (v y : Vect ℤ) (f : ℕ) : Type 0 where
  pub turned : lifted f (sand x.m (sigma ints v)) ≡ lifted x.e (lifted x.e (sigma ints y))

-- ---- the product law
pub turns_unit : (v : Vect ℤ) → Turns unit v v 0
turns_unit v =
    record {
      turned =
          ap (lifted 0)
          (ap (λ m. mul_m omegas m unit.m) (unit_mul_m omegas omegas_laws (sigma ints v)) ∙ mul_m_unit omegas omegas_laws (sigma ints v))
          ∙ sym (scale_one omegas omegas_laws (lifted 0 (sigma ints v)));
    }

pub turns_mul : {x z : Matrix} {v y y' : Vect ℤ} {f f' : ℕ} → Turns x y y' f' → Turns z v y f → Turns (x · z) v y' (f' + f)
turns_mul {x} {z} {v} {y} {y'} {f} {f'} h k =
    record {
      turned =
          ap₂ (scale_m omegas) (root2^_add f' f) (sand_mul x.m z.m (sigma ints v))
          ∙ scale_scale omegas omegas_laws (root2^ f') (root2^ f) (sand x.m (sand z.m (sigma ints v)))
          ∙ ap (lifted f') (sym (sand_scale (root2^ f) x.m (sand z.m (sigma ints v))) ∙ ap (sand x.m) k.turned ∙ twice)
          ∙ scale_past omegas omegas_laws (root2^ f') (root2^ z.e) (sand x.m (sigma ints y))
          ∙ ap (λ m. lifted z.e (lifted z.e m)) h.turned
          ∙ scale_twice omegas omegas_laws (root2^ z.e) (root2^ x.e) (sigma ints y')
          ∙ sym (ap (λ c. scale_m omegas c (scale_m omegas c (sigma ints y'))) (root2^_add x.e z.e));
    }
  where
    twice : sand x.m (lifted z.e (lifted z.e (sigma ints y))) ≡ lifted z.e (lifted z.e (sand x.m (sigma ints y)))
    twice = sand_scale (root2^ z.e) x.m (lifted z.e (sigma ints y)) ∙ ap (lifted z.e) (sand_scale (root2^ z.e) x.m (sigma ints y))

-- ---- one matrix turns a vector in one way
-- from c·u = a²·p, d·v = b²·q and b²·u = a²·v follows a²b²·(d·p) = a²b²·(c·q)
mix : (a b c d u v p q : Ω) → mul_q ints c u ≡ mul_q ints a (mul_q ints a p) → mul_q ints d v ≡ mul_q ints b (mul_q ints b q)
    → mul_q ints b (mul_q ints b u) ≡ mul_q ints a (mul_q ints a v)
    → mul_q ints a (mul_q ints a (mul_q ints b (mul_q ints b (mul_q ints d p))))
    ≡ mul_q ints a (mul_q ints a (mul_q ints b (mul_q ints b (mul_q ints c q))))
mix a b c d u v p q h k m =
    solve_from omegas omegas_laws (a ∷ b ∷ c ∷ d ∷ u ∷ v ∷ p ∷ q ∷ [])
    (record { c = con (negsuc 0) ⊗ (B ⊗ B ⊗ D); l = C ⊗ U; r = A ⊗ (A ⊗ P) } ∷
    record { c = C ⊗ A ⊗ A; l = D ⊗ V'; r = B ⊗ (B ⊗ Q) } ∷
    record { c = C ⊗ D; l = B ⊗ (B ⊗ U); r = A ⊗ (A ⊗ V') } ∷
    [])
    (A ⊗ (A ⊗ (B ⊗ (B ⊗ (D ⊗ P))))) (A ⊗ (A ⊗ (B ⊗ (B ⊗ (C ⊗ Q))))) tt (h, (k, (m, tt)))
  where
    A : Expr
    A = var 0

    B : Expr
    B = var 1

    C : Expr
    C = var 2

    D : Expr
    D = var 3

    U : Expr
    U = var 4

    V' : Expr
    V' = var 5

    P : Expr
    P = var 6

    Q : Expr
    Q = var 7

-- the same with powers of root two, which are cancelled
mixed : (j k m n : ℕ) (u v p q : Ω) → mul_q ints (root2^ m) u ≡ mul_q ints (root2^ j) (mul_q ints (root2^ j) p)
    → mul_q ints (root2^ n) v ≡ mul_q ints (root2^ k) (mul_q ints (root2^ k) q)
    → mul_q ints (root2^ k) (mul_q ints (root2^ k) u) ≡ mul_q ints (root2^ j) (mul_q ints (root2^ j) v)
    → mul_q ints (root2^ n) p ≡ mul_q ints (root2^ m) q
mixed j k m n u v p q f g h =
    let P : Ω = mul_q ints (root2^ n) p in
    let Q : Ω = mul_q ints (root2^ m) q in
    root2^_cancel k P Q
    (root2^_cancel k (mul_q ints (root2^ k) P) (mul_q ints (root2^ k) Q)
    (root2^_cancel j (mul_q ints (root2^ k) (mul_q ints (root2^ k) P)) (mul_q ints (root2^ k) (mul_q ints (root2^ k) Q))
    (root2^_cancel j (mul_q ints (root2^ j) (mul_q ints (root2^ k) (mul_q ints (root2^ k) P)))
    (mul_q ints (root2^ j) (mul_q ints (root2^ k) (mul_q ints (root2^ k) Q)))
    (mix (root2^ j) (root2^ k) (root2^ m) (root2^ n) u v p q f g h))))

mixed_m : (j k m n : ℕ) (u v p q : Mat Ω) → lifted m u ≡ lifted j (lifted j p) → lifted n v ≡ lifted k (lifted k q)
    → lifted k (lifted k u) ≡ lifted j (lifted j v) → lifted n p ≡ lifted m q
mixed_m j k m n u v p q f g h =
    mat_path
    (mixed j k m n u.p v.p p.p q.p (ap (λ x. x.p) f) (ap (λ x. x.p) g) (ap (λ x. x.p) h))
    (mixed j k m n u.q v.q p.q q.q (ap (λ x. x.q) f) (ap (λ x. x.q) g) (ap (λ x. x.q) h))
    (mixed j k m n u.r v.r p.r q.r (ap (λ x. x.r) f) (ap (λ x. x.r) g) (ap (λ x. x.r) h))
    (mixed j k m n u.s v.s p.s q.s (ap (λ x. x.s) f) (ap (λ x. x.s) g) (ap (λ x. x.s) h))

pub turns_same : {x z : Matrix} {v y y' : Vect ℤ} {f f' : ℕ} → Same x z → Turns x v y f → Turns z v y' f' → lift f' y ≡ lift f y'
turns_same {x} {z} {v} {y} {y'} {f} {f'} s h k =
    sigma_inj (lift f' y) (lift f y')
    (sym (lifted_sigma f' y)
    ∙ mixed_m x.e z.e f f' (sand x.m (sigma ints v)) (sand z.m (sigma ints v)) (sigma ints y) (sigma ints y') h.turned k.turned e
    ∙ lifted_sigma f y')
  where
    e : lifted z.e (lifted z.e (sand x.m (sigma ints v))) ≡ lifted x.e (lifted x.e (sand z.m (sigma ints v)))
    e = sym (lifted_sand z.e x.m (sigma ints v)) ∙ ap (λ m. sand m (sigma ints v)) s.same ∙ lifted_sand x.e z.m (sigma ints v)

-- ---- letters and words
module _ (O : Ops) where
  abbrev lhs : Letter → Vect O.Car → Mat (Quad O.Car)
  lhs l v = scale_m (quads O) (power (quads O) (root2 O) (tee l)) (mul_m (quads O) (mul_m (quads O) (letter_m O l) (sigma O v)) (star_m O (letter_m O l)))

  abbrev rhs : Letter → Vect O.Car → Mat (Quad O.Car)
  rhs l v = scale_m (quads O) (power (quads O) (root2 O) (roots l)) (scale_m (quads O) (power (quads O) (root2 O) (roots l)) (sigma O (turn_l O l v)))

pub turns_letter : (l : Letter) (v : Vect ℤ) → Turns (letter l) v (turn_l ints l v) (tee l)
turns_letter I v = record { turned = solve_MQ ints ints_laws (coords v) (lhs exprs I V₀) (rhs exprs I V₀) passed }
turns_letter H v = record { turned = solve_MQ ints ints_laws (coords v) (lhs exprs H V₀) (rhs exprs H V₀) passed }
turns_letter S v = record { turned = solve_MQ ints ints_laws (coords v) (lhs exprs S V₀) (rhs exprs S V₀) passed }
turns_letter X v = record { turned = solve_MQ ints ints_laws (coords v) (lhs exprs X V₀) (rhs exprs X V₀) passed }
turns_letter W v = record { turned = solve_MQ ints ints_laws (coords v) (lhs exprs W V₀) (rhs exprs W V₀) passed }
turns_letter T' v = record { turned = solve_MQ ints ints_laws (coords v) (lhs exprs T' V₀) (rhs exprs T' V₀) passed }

pub turns_word : (u : List Letter) (v : Vect ℤ) → Turns (word u) v (turn u v) (tees u)
turns_word [] v = turns_unit v
turns_word (l ∷ u) v = turns_mul (turns_letter l (turn u v)) (turns_word u v)

-- words with the same matrix turn every vector equally, each side scaled by the other's T count
pub same_turn : (u v : List Letter) → Same (word u) (word v) → (x : Vect ℤ) → lift (tees v) (turn u x) ≡ lift (tees u) (turn v x)
same_turn u v h x = turns_same h (turns_word u x) (turns_word v x)
