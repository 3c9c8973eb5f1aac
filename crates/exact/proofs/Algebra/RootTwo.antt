-- ℤ[root two], p + q·root two: a commutative ring, and a part of ℤ[omega]: the numbers that are their own conjugates. Root two can be
-- cancelled in it. Over any ring's operations, so that each law is one computed test. Assumes nothing.
use Rattle.std.specs.Prelude.{◌≡◌, refl, List, [], ◌∷◌, T, ℤ, pos, neg_ℤ}
use Rattle.std.proofs.Common.{ap, arith}
use Rattle.exact.specs.Meaning.Number.{Ops, ints, add_q, mul_q, conj_q, root2, Ω}
use Rattle.exact.specs.Meaning.Rotation.{Root, const_r, add_r, mul_r, times_r, of_root}
use Rattle.exact.proofs.Whole.Linear.{int}
use Rattle.exact.proofs.Whole.Linear.{negation}
use Rattle.exact.proofs.Whole.Parity.{halved}
use Rattle.exact.proofs.Algebra.Ring.{Laws, ints_laws}
use Rattle.exact.proofs.Algebra.Solver.{Expr, var, con, ◌⊕◌, ◌⊗◌, exprs, eval, at, same, solve}
use Rattle.exact.proofs.Algebra.Omega.{quad_path, solve_q}
use Rattle.exact.specs.Algebra.RootTwo.{neg_r, root_twos}

pub root_path : {A : Type 0} {x y : Root A} → x.p ≡ y.p → x.q ≡ y.q → x ≡ y
root_path h k = λ i. record { p = h i; q = k i }

-- ---- the solver, at each of the two parts
abbrev R₀ : Root Expr
R₀ = record { p = var 0; q = var 1 }

abbrev R₁ : Root Expr
R₁ = record { p = var 2; q = var 3 }

abbrev R₂ : Root Expr
R₂ = record { p = var 4; q = var 5 }

abbrev two : {A : Type 0} → Root A → List A → List A
two x xs = x.p ∷ x.q ∷ xs

abbrev pub eval_r : (O : Ops) → List O.Car → Root Expr → Root O.Car
eval_r O xs e = record { p = eval O (at O xs) e.p; q = eval O (at O xs) e.q }

pub solve_r : (O : Ops) → Laws O → (xs : List O.Car) (e f : Root Expr)
    → T (same e.p f.p) × T (same e.q f.q)
    → eval_r O xs e ≡ eval_r O xs f
solve_r O L xs e f t = root_path (solve O L xs e.p f.p t.0) (solve O L xs e.q f.q t.1)

-- ---- the laws
module _ (O : Ops) (L : Laws O) where
  pub root_twos_laws : Laws (root_twos O)
  root_twos_laws = record {
    add_assoc = λ x y z. solve_r O L (two x (two y (two z []))) (add_r exprs (add_r exprs R₀ R₁) R₂) (add_r exprs R₀ (add_r exprs R₁ R₂)) (tt, tt);
    add_comm = λ x y. solve_r O L (two x (two y [])) (add_r exprs R₀ R₁) (add_r exprs R₁ R₀) (tt, tt);
    zero_add = λ x. solve_r O L (two x []) (add_r exprs (const_r exprs (pos 0)) R₀) R₀ (tt, tt);
    add_neg = λ x. solve_r O L (two x []) (add_r exprs R₀ (neg_r exprs R₀)) (const_r exprs (pos 0)) (tt, tt);
    mul_assoc = λ x y z. solve_r O L (two x (two y (two z []))) (mul_r exprs (mul_r exprs R₀ R₁) R₂) (mul_r exprs R₀ (mul_r exprs R₁ R₂)) (tt, tt);
    mul_comm = λ x y. solve_r O L (two x (two y [])) (mul_r exprs R₀ R₁) (mul_r exprs R₁ R₀) (tt, tt);
    one_mul = λ x. solve_r O L (two x []) (mul_r exprs (const_r exprs (pos 1)) R₀) R₀ (tt, tt);
    add_mul = λ x y z.
        solve_r O L (two x (two y (two z []))) (mul_r exprs (add_r exprs R₀ R₁) R₂) (add_r exprs (mul_r exprs R₀ R₂) (mul_r exprs R₁ R₂)) (tt, tt);
    const_add = λ m n.
        rw (L.const_add m n)
        (solve_r O L (O.const m ∷ O.const n ∷ []) (scalar (var 0 ⊕ var 1)) (add_r exprs (scalar (var 0)) (scalar (var 1))) (tt, tt));
    const_mul = λ m n.
        rw (L.const_mul m n)
        (solve_r O L (O.const m ∷ O.const n ∷ []) (scalar (var 0 ⊗ var 1)) (mul_r exprs (scalar (var 0)) (scalar (var 1))) (tt, tt));
  }
    where
      scalar : Expr → Root Expr
      scalar e = record { p = e; q = con (pos 0) }

  -- sums and products are those of ring numbers, and root two's multiples too
  pub of_root_add : (x y : Root O.Car) → of_root O (add_r O x y) ≡ add_q O (of_root O x) (of_root O y)
  of_root_add x y = solve_q O L (two x (two y [])) (of_root exprs (add_r exprs R₀ R₁)) (add_q exprs (of_root exprs R₀) (of_root exprs R₁)) (tt, tt, tt, tt)

  pub of_root_mul : (x y : Root O.Car) → of_root O (mul_r O x y) ≡ mul_q O (of_root O x) (of_root O y)
  of_root_mul x y = solve_q O L (two x (two y [])) (of_root exprs (mul_r exprs R₀ R₁)) (mul_q exprs (of_root exprs R₀) (of_root exprs R₁)) (tt, tt, tt, tt)

  pub of_root_times : (x : Root O.Car) → of_root O (times_r O x) ≡ mul_q O (root2 O) (of_root O x)
  of_root_times x = solve_q O L (two x []) (of_root exprs (times_r exprs R₀)) (mul_q exprs (root2 exprs) (of_root exprs R₀)) (tt, tt, tt, tt)

-- ---- over the whole numbers
pub root_two_laws : Laws (root_twos ints)
root_two_laws = root_twos_laws ints ints_laws

pub times_r_cancel : (x y : Root ℤ) → times_r ints x ≡ times_r ints y → x ≡ y
times_r_cancel x y e = root_path (ap (λ r. r.q) e) (halved x.q y.q (ap (λ r. r.p) e))

-- a ring number that is its own conjugate
abbrev pub to_root : Ω → Root ℤ
to_root x = record { p = x.d; q = x.c }

pub of_root_real : (x : Ω) → conj_q ints x ≡ x → of_root ints (to_root x) ≡ x
of_root_real x h = quad_path (ap (λ y. y.a) h) (nil x.b (ap (λ y. y.b) h)) refl refl
  where
    nil : (b : ℤ) → neg_ℤ b ≡ b → pos 0 ≡ b
    nil b e = omega (arith, int, negation b)
