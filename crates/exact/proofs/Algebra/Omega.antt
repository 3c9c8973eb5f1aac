-- A ring with an eighth root of unity put to it, omega⁴ = -1, is a commutative ring; conjugation respects its sums and products; root two squares
-- to 2. Over the whole numbers this is ℤ[omega], where root two can be cancelled and its powers are their own conjugates.
-- The operations also act on the solver's expressions, so that each law is one computed test. Assumes nothing.
use Rattle.std.specs.Prelude.{◌≡◌, refl, List, [], ◌∷◌, ℕ, zero, suc, ◌+◌, T, ℤ, pos, negsuc, neg_ℤ}
use Rattle.std.proofs.Common.{sym, ◌∙◌, ap, ap₂}
use Rattle.exact.specs.Meaning.Number.{Ops, Quad, ints, const_q, add_q, neg_q, mul_q, conj_q, omega', root2, quads, Ω, omegas, root2^}
use Rattle.exact.proofs.Whole.Parity.{halved}
use Rattle.exact.proofs.Algebra.Ring.{Laws, ints_laws}
use Rattle.exact.proofs.Algebra.Solver.{Expr, var, con, ◌⊕◌, ◌⊗◌, ⊖, exprs, eval, at, same, solve}
use Rattle.exact.proofs.Algebra.Power.{power_add, power_cancel}

pub quad_path : {A : Type 0} {x y : Quad A} → x.a ≡ y.a → x.b ≡ y.b → x.c ≡ y.c → x.d ≡ y.d → x ≡ y
quad_path p q r s = λ i. record { a = p i; b = q i; c = r i; d = s i }

-- ---- the solver, at each of the four parts
-- the variables xₖ .. xₖ₊₃
abbrev pub X₀ : Quad Expr
X₀ = record { a = var 0; b = var 1; c = var 2; d = var 3 }

abbrev pub X₁ : Quad Expr
X₁ = record { a = var 4; b = var 5; c = var 6; d = var 7 }

abbrev pub X₂ : Quad Expr
X₂ = record { a = var 8; b = var 9; c = var 10; d = var 11 }

abbrev pub parts : {A : Type 0} → Quad A → List A → List A
parts x xs = x.a ∷ x.b ∷ x.c ∷ x.d ∷ xs

abbrev pub eval_q : (O : Ops) → List O.Car → Quad Expr → Quad O.Car
eval_q O xs e = record { a = eval O (at O xs) e.a; b = eval O (at O xs) e.b; c = eval O (at O xs) e.c; d = eval O (at O xs) e.d }

-- the test at each of the four parts
abbrev pub SameQ : Quad Expr → Quad Expr → Type 0
SameQ e f = T (same e.a f.a) × T (same e.b f.b) × T (same e.c f.c) × T (same e.d f.d)

pub solve_q : (O : Ops) → Laws O → (xs : List O.Car) (e f : Quad Expr) → SameQ e f → eval_q O xs e ≡ eval_q O xs f
solve_q O L xs e f t =
    quad_path
    (solve O L xs e.a f.a t.0)
    (solve O L xs e.b f.b t.1)
    (solve O L xs e.c f.c t.2)
    (solve O L xs e.d f.d t.3)

-- ---- the laws
module _ (O : Ops) (L : Laws O) where
  abbrev Q : Type 0
  Q = Quad O.Car

  pub quads_laws : Laws (quads O)
  quads_laws = record {
    add_assoc = λ x y z.
        solve_q O L (parts x (parts y (parts z []))) (add_q exprs (add_q exprs X₀ X₁) X₂) (add_q exprs X₀ (add_q exprs X₁ X₂)) (tt, tt, tt, tt);
    add_comm = λ x y. solve_q O L (parts x (parts y [])) (add_q exprs X₀ X₁) (add_q exprs X₁ X₀) (tt, tt, tt, tt);
    zero_add = λ x. solve_q O L (parts x []) (add_q exprs (const_q exprs (pos 0)) X₀) X₀ (tt, tt, tt, tt);
    add_neg = λ x. solve_q O L (parts x []) (add_q exprs X₀ (neg_q exprs X₀)) (const_q exprs (pos 0)) (tt, tt, tt, tt);
    mul_assoc = λ x y z.
        solve_q O L (parts x (parts y (parts z []))) (mul_q exprs (mul_q exprs X₀ X₁) X₂) (mul_q exprs X₀ (mul_q exprs X₁ X₂)) (tt, tt, tt, tt);
    mul_comm = λ x y. solve_q O L (parts x (parts y [])) (mul_q exprs X₀ X₁) (mul_q exprs X₁ X₀) (tt, tt, tt, tt);
    one_mul = λ x. solve_q O L (parts x []) (mul_q exprs (const_q exprs (pos 1)) X₀) X₀ (tt, tt, tt, tt);
    add_mul = λ x y z.
        solve_q O L (parts x (parts y (parts z []))) (mul_q exprs (add_q exprs X₀ X₁) X₂) (add_q exprs (mul_q exprs X₀ X₂) (mul_q exprs X₁ X₂))
        (tt, tt, tt, tt);
    const_add = λ m n.
        rw (L.const_add m n)
        (solve_q O L (O.const m ∷ O.const n ∷ []) (scalar (var 0 ⊕ var 1)) (add_q exprs (scalar (var 0)) (scalar (var 1))) (tt, tt, tt, tt));
    const_mul = λ m n.
        rw (L.const_mul m n)
        (solve_q O L (O.const m ∷ O.const n ∷ []) (scalar (var 0 ⊗ var 1)) (mul_q exprs (scalar (var 0)) (scalar (var 1))) (tt, tt, tt, tt));
  }
    where
      scalar : Expr → Quad Expr
      scalar e = record { a = con (pos 0); b = con (pos 0); c = con (pos 0); d = e }

  -- conjugation keeps sums, products and the integers, and is its own inverse
  pub conj_add : (x y : Q) → conj_q O (add_q O x y) ≡ add_q O (conj_q O x) (conj_q O y)
  conj_add x y = solve_q O L (parts x (parts y [])) (conj_q exprs (add_q exprs X₀ X₁)) (add_q exprs (conj_q exprs X₀) (conj_q exprs X₁)) (tt, tt, tt, tt)

  pub conj_mul : (x y : Q) → conj_q O (mul_q O x y) ≡ mul_q O (conj_q O x) (conj_q O y)
  conj_mul x y = solve_q O L (parts x (parts y [])) (conj_q exprs (mul_q exprs X₀ X₁)) (mul_q exprs (conj_q exprs X₀) (conj_q exprs X₁)) (tt, tt, tt, tt)

  pub conj_neg : (x : Q) → conj_q O (neg_q O x) ≡ neg_q O (conj_q O x)
  conj_neg x = solve_q O L (parts x []) (conj_q exprs (neg_q exprs X₀)) (neg_q exprs (conj_q exprs X₀)) (tt, tt, tt, tt)

  pub conj_conj : (x : Q) → conj_q O (conj_q O x) ≡ x
  conj_conj x = solve_q O L (parts x []) (conj_q exprs (conj_q exprs X₀)) X₀ (tt, tt, tt, tt)

  pub conj_const : (n : ℤ) → conj_q O (const_q O n) ≡ const_q O n
  conj_const n =
      solve_q O L (O.const n ∷ []) (conj_q exprs (record { a = con (pos 0); b = con (pos 0); c = con (pos 0); d = var 0 }))
      (record { a = con (pos 0); b = con (pos 0); c = con (pos 0); d = var 0 }) (tt, tt, tt, tt)

  -- omega⁴ = -1, and root two squares to 2
  pub root_fourth : mul_q O (mul_q O (omega' O) (omega' O)) (mul_q O (omega' O) (omega' O)) ≡ const_q O (negsuc 0)
  root_fourth =
      solve_q O L [] (mul_q exprs (mul_q exprs (omega' exprs) (omega' exprs)) (mul_q exprs (omega' exprs) (omega' exprs)))
      (const_q exprs (negsuc 0)) (tt, tt, tt, tt)

  pub root2_square : mul_q O (root2 O) (root2 O) ≡ const_q O (pos 2)
  root2_square = solve_q O L [] (mul_q exprs (root2 exprs) (root2 exprs)) (const_q exprs (pos 2)) (tt, tt, tt, tt)

-- ---- ℤ[omega]
pub omegas_laws : Laws omegas
omegas_laws = quads_laws ints ints_laws

-- omega times
pub times_omega : (x : Ω) → mul_q ints (omega' ints) x ≡ record { a = x.b; b = x.c; c = x.d; d = neg_ℤ x.a }
times_omega x =
    solve_q ints ints_laws (parts x []) (mul_q exprs (omega' exprs) X₀) (record { a = X₀.b; b = X₀.c; c = X₀.d; d = ⊖ X₀.a })
    (tt, tt, tt, tt)

-- ---- conjugation goes through every polynomial
abbrev pub conjs : List Ω → List Ω
conjs [] = []
conjs (x ∷ xs) = conj_q ints x ∷ conjs xs

conj_at : (xs : List Ω) (i : ℕ) → conj_q ints (at omegas xs i) ≡ at omegas (conjs xs) i
conj_at [] i = conj_const ints ints_laws (pos 0)
conj_at (x ∷ xs) zero = refl
conj_at (x ∷ xs) (suc i) = conj_at xs i

pub conj_eval : (xs : List Ω) (e : Expr) → conj_q ints (eval omegas (at omegas xs) e) ≡ eval omegas (at omegas (conjs xs)) e
conj_eval xs (var i) = conj_at xs i
conj_eval xs (con n) = conj_const ints ints_laws n
conj_eval xs (e ⊕ f) =
    conj_add ints ints_laws (eval omegas (at omegas xs) e) (eval omegas (at omegas xs) f)
    ∙ ap₂ (add_q ints) (conj_eval xs e) (conj_eval xs f)
conj_eval xs (e ⊗ f) =
    conj_mul ints ints_laws (eval omegas (at omegas xs) e) (eval omegas (at omegas xs) f)
    ∙ ap₂ (mul_q ints) (conj_eval xs e) (conj_eval xs f)
conj_eval xs (⊖ e) = conj_neg ints ints_laws (eval omegas (at omegas xs) e) ∙ ap (neg_q ints) (conj_eval xs e)

-- ---- root two
-- it is no zero divisor
pub root2_twice : (x : Ω) → mul_q ints (root2 ints) (mul_q ints (root2 ints) x) ≡ add_q ints x x
root2_twice x = solve_q ints ints_laws (parts x []) (mul_q exprs (root2 exprs) (mul_q exprs (root2 exprs) X₀)) (add_q exprs X₀ X₀) (tt, tt, tt, tt)

pub root2_cancel : (x y : Ω) → mul_q ints (root2 ints) x ≡ mul_q ints (root2 ints) y → x ≡ y
root2_cancel x y h =
    let e : add_q ints x x ≡ add_q ints y y = sym (root2_twice x) ∙ ap (mul_q ints (root2 ints)) h ∙ root2_twice y in
    quad_path
    (halved x.a y.a (ap (λ q. q.a) e))
    (halved x.b y.b (ap (λ q. q.b) e))
    (halved x.c y.c (ap (λ q. q.c) e))
    (halved x.d y.d (ap (λ q. q.d) e))

pub root2^_add : (m n : ℕ) → root2^ (m + n) ≡ mul_q ints (root2^ m) (root2^ n)
root2^_add = power_add omegas omegas_laws (root2 ints)

pub root2^_cancel : (n : ℕ) (x y : Ω) → mul_q ints (root2^ n) x ≡ mul_q ints (root2^ n) y → x ≡ y
root2^_cancel = power_cancel omegas omegas_laws (root2 ints) root2_cancel

pub root2^_conj : (n : ℕ) → conj_q ints (root2^ n) ≡ root2^ n
root2^_conj zero = conj_const ints ints_laws (pos 1)
root2^_conj (suc n) = conj_mul ints ints_laws (root2 ints) (root2^ n) ∙ ap (mul_q ints (root2 ints)) (root2^_conj n)
