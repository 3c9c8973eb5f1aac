-- Two by two matrices over any commutative ring: the product's laws and how a scalar moves through it, each one computed test.
-- Assumes nothing.
use Rattle.std.specs.Prelude.{◌≡◌, List, [], ◌∷◌, T, pos}
use Rattle.exact.specs.Meaning.Number.{Ops, Quad}
use Rattle.exact.specs.Meaning.Matrix.{Mat, unit_m, mul_m, scale_m}
use Rattle.exact.proofs.Algebra.Ring.{Laws}
use Rattle.exact.proofs.Algebra.Solver.{Expr, var, con, ◌⊗◌, exprs, eval, at, same, solve}
use Rattle.exact.proofs.Algebra.Omega.{eval_q, SameQ, solve_q}

pub mat_path : {A : Type 0} {x y : Mat A} → x.p ≡ y.p → x.q ≡ y.q → x.r ≡ y.r → x.s ≡ y.s → x ≡ y
mat_path h k m n = λ i. record { p = h i; q = k i; r = m i; s = n i }

-- ---- the solver, at each of the four entries
abbrev pub M₀ : Mat Expr
M₀ = record { p = var 0; q = var 1; r = var 2; s = var 3 }

abbrev pub M₁ : Mat Expr
M₁ = record { p = var 4; q = var 5; r = var 6; s = var 7 }

abbrev pub M₂ : Mat Expr
M₂ = record { p = var 8; q = var 9; r = var 10; s = var 11 }

abbrev pub M₃ : Mat Expr
M₃ = record { p = var 12; q = var 13; r = var 14; s = var 15 }

abbrev pub entries_of : {A : Type 0} → Mat A → List A → List A
entries_of x xs = x.p ∷ x.q ∷ x.r ∷ x.s ∷ xs

abbrev pub eval_m : (O : Ops) → List O.Car → Mat Expr → Mat O.Car
eval_m O xs e = record { p = eval O (at O xs) e.p; q = eval O (at O xs) e.q; r = eval O (at O xs) e.r; s = eval O (at O xs) e.s }

abbrev pub SameM : Mat Expr → Mat Expr → Type 0
SameM e f = T (same e.p f.p) × T (same e.q f.q) × T (same e.r f.r) × T (same e.s f.s)

pub solve_m : (O : Ops) → Laws O → (xs : List O.Car) (e f : Mat Expr) → SameM e f → eval_m O xs e ≡ eval_m O xs f
solve_m O L xs e f t =
    mat_path
    (solve O L xs e.p f.p t.0)
    (solve O L xs e.q f.q t.1)
    (solve O L xs e.r f.r t.2)
    (solve O L xs e.s f.s t.3)

-- ---- the solver over a ring with omega, at each of the sixteen coefficients
abbrev pub eval_MQ : (O : Ops) → List O.Car → Mat (Quad Expr) → Mat (Quad O.Car)
eval_MQ O xs e = record { p = eval_q O xs e.p; q = eval_q O xs e.q; r = eval_q O xs e.r; s = eval_q O xs e.s }

abbrev pub SameMQ : Mat (Quad Expr) → Mat (Quad Expr) → Type 0
SameMQ e f = SameQ e.p f.p × SameQ e.q f.q × SameQ e.r f.r × SameQ e.s f.s

abbrev Four : Type 0
Four = Unit {0} × Unit {0} × Unit {0} × Unit {0}

-- sixteen tests that pass
abbrev pub passed : Four × Four × Four × Four
passed = ((tt, tt, tt, tt), (tt, tt, tt, tt), (tt, tt, tt, tt), (tt, tt, tt, tt))

pub solve_MQ : (O : Ops) → Laws O → (xs : List O.Car) (e f : Mat (Quad Expr)) → SameMQ e f → eval_MQ O xs e ≡ eval_MQ O xs f
solve_MQ O L xs e f t =
    mat_path
    (solve_q O L xs e.p f.p t.0)
    (solve_q O L xs e.q f.q t.1)
    (solve_q O L xs e.r f.r t.2)
    (solve_q O L xs e.s f.s t.3)

-- ---- the laws
module _ (O : Ops) (L : Laws O) where
  abbrev M : Type 0
  M = Mat O.Car

  pub mul_m_assoc : (x y z : M) → mul_m O (mul_m O x y) z ≡ mul_m O x (mul_m O y z)
  mul_m_assoc x y z =
      solve_m O L (entries_of x (entries_of y (entries_of z []))) (mul_m exprs (mul_m exprs M₀ M₁) M₂) (mul_m exprs M₀ (mul_m exprs M₁ M₂))
      (tt, tt, tt, tt)

  pub unit_mul_m : (x : M) → mul_m O (unit_m O) x ≡ x
  unit_mul_m x = solve_m O L (entries_of x []) (mul_m exprs (unit_m exprs) M₀) M₀ (tt, tt, tt, tt)

  pub mul_m_unit : (x : M) → mul_m O x (unit_m O) ≡ x
  mul_m_unit x = solve_m O L (entries_of x []) (mul_m exprs M₀ (unit_m exprs)) M₀ (tt, tt, tt, tt)

  -- a scalar moves out of either factor
  pub scale_mul_m : (c : O.Car) (x y : M) → mul_m O (scale_m O c x) y ≡ scale_m O c (mul_m O x y)
  scale_mul_m c x y =
      solve_m O L (entries_of x (entries_of y (c ∷ []))) (mul_m exprs (scale_m exprs (var 8) M₀) M₁) (scale_m exprs (var 8) (mul_m exprs M₀ M₁))
      (tt, tt, tt, tt)

  pub mul_m_scale : (c : O.Car) (x y : M) → mul_m O x (scale_m O c y) ≡ scale_m O c (mul_m O x y)
  mul_m_scale c x y =
      solve_m O L (entries_of x (entries_of y (c ∷ []))) (mul_m exprs M₀ (scale_m exprs (var 8) M₁)) (scale_m exprs (var 8) (mul_m exprs M₀ M₁))
      (tt, tt, tt, tt)

  -- scalars one after the other
  pub scale_scale : (a b : O.Car) (x : M) → scale_m O (O.mul a b) x ≡ scale_m O a (scale_m O b x)
  scale_scale a b x =
      solve_m O L (entries_of x (a ∷ b ∷ [])) (scale_m exprs (var 4 ⊗ var 5) M₀) (scale_m exprs (var 4) (scale_m exprs (var 5) M₀))
      (tt, tt, tt, tt)

  pub scale_swap : (a b : O.Car) (x : M) → scale_m O a (scale_m O b x) ≡ scale_m O b (scale_m O a x)
  scale_swap a b x =
      solve_m O L (entries_of x (a ∷ b ∷ [])) (scale_m exprs (var 4) (scale_m exprs (var 5) M₀))
      (scale_m exprs (var 5) (scale_m exprs (var 4) M₀)) (tt, tt, tt, tt)

  -- a scalar used twice moves past another, and joins another used twice
  pub scale_past : (c a : O.Car) (x : M) → scale_m O c (scale_m O a (scale_m O a x)) ≡ scale_m O a (scale_m O a (scale_m O c x))
  scale_past c a x =
      solve_m O L (entries_of x (c ∷ a ∷ [])) (scale_m exprs (var 4) (scale_m exprs (var 5) (scale_m exprs (var 5) M₀)))
      (scale_m exprs (var 5) (scale_m exprs (var 5) (scale_m exprs (var 4) M₀))) (tt, tt, tt, tt)

  pub scale_twice : (a b : O.Car) (x : M) → scale_m O a (scale_m O a (scale_m O b (scale_m O b x))) ≡ scale_m O (O.mul b a) (scale_m O (O.mul b a) x)
  scale_twice a b x =
      solve_m O L (entries_of x (a ∷ b ∷ [])) (scale_m exprs (var 4) (scale_m exprs (var 4) (scale_m exprs (var 5) (scale_m exprs (var 5) M₀))))
      (scale_m exprs (var 5 ⊗ var 4) (scale_m exprs (var 5 ⊗ var 4) M₀)) (tt, tt, tt, tt)

  pub scale_one : (x : M) → scale_m O (O.const (pos 1)) x ≡ x
  scale_one x = solve_m O L (entries_of x []) (scale_m exprs (con (pos 1)) M₀) M₀ (tt, tt, tt, tt)

  -- of two products of scaled matrices
  pub scale_both : (a b : O.Car) (x y : M) → mul_m O (scale_m O a x) (scale_m O b y) ≡ scale_m O (O.mul a b) (mul_m O x y)
  scale_both a b x y =
      solve_m O L (entries_of x (entries_of y (a ∷ b ∷ []))) (mul_m exprs (scale_m exprs (var 8) M₀) (scale_m exprs (var 9) M₁))
      (scale_m exprs (var 8 ⊗ var 9) (mul_m exprs M₀ M₁)) (tt, tt, tt, tt)
