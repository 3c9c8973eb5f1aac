-- The parts of an entry are what `Surd` says, shown in the ring itself: x and its conjugate x* sum to twice the real part of x, and their
-- difference is twice i times its imaginary part, i being omega². So that of x over root two to the k is A + B·root two over 2 to the s
-- means: 2^s·(x + x*) = 2·root two^k·(A + B·root two), and 2^s·(x - x*) = 2·i·root two^k·(A + B·root two). Assumes nothing.
use Rattle.std.specs.Prelude.{◌≡◌, Bool, true, false, not, cond, [], ◌∷◌, ℕ, suc, ◌+◌, ◌/◌, ◌%◌, ◌^◌, T, eqb, ℤ, pos, ◌+ℤ◌, ◌-ℤ◌, ◌*ℤ◌}
use Rattle.std.proofs.Common.{sym, ◌∙◌, ap, ap₂, subst, arith, eqb→eq, pow-add}
use Rattle.exact.specs.Meaning.Number.{Quad, Ω, ints, omegas, quads, power, add_q, const_q, mul_q, neg_q, conj_q, omega', omega^, root2, root2^}
use Rattle.exact.proofs.Algebra.Ring.{ints_laws}
use Rattle.exact.proofs.Algebra.Solver.{Expr, var, con, ◌⊕◌, ◌⊗◌, ◌⊝◌, exprs, solve, ring₄}
use Rattle.exact.proofs.Algebra.Omega.{omegas_laws, root2^_add, X₀, parts, solve_q}
use Rattle.exact.proofs.Algebra.Norm.{two^}
use Rattle.view.specs.Meaning.Surd.{Surd, even, over, real, imaginary}

-- A + B·root two as a ring number
abbrev pub surd : Surd → Ω
surd q = add_q ints (const_q ints q.A) (mul_q ints (const_q ints q.B) (root2 ints))

-- y over twice root two to the k is f times q
pub record Is (k : ℕ) (y f : Ω) (q : Surd) : Type 0 where
  pub same : mul_q ints (const_q ints (pos (2 ^ q.s))) y ≡ mul_q ints (const_q ints (pos 2)) (mul_q ints f (mul_q ints (root2^ k) (surd q)))

-- ---- root two to the k
-- k = 2j: it is 2^j; k = 2j + 1: it is 2^j·root two
root_even : (k : ℕ) → k % 2 ≡ 0 → root2^ k ≡ const_q ints (pos (2 ^ (k / 2)))
root_even k e = ap root2^ (whole k e) ∙ root2^_add (k / 2) (k / 2) ∙ sym (two^ (k / 2))
  where
    whole : (k : ℕ) → k % 2 ≡ 0 → k ≡ k / 2 + k / 2
    whole k e = omega arith

root_odd : (k : ℕ) → k % 2 ≡ 1 → root2^ k ≡ mul_q ints (root2 ints) (const_q ints (pos (2 ^ (k / 2))))
root_odd k e = ap root2^ (whole k e) ∙ ap (mul_q ints (root2 ints)) (root2^_add (k / 2) (k / 2) ∙ sym (two^ (k / 2)))
  where
    whole : (k : ℕ) → k % 2 ≡ 1 → k ≡ suc (k / 2 + k / 2)
    whole k e = omega arith

scale_is : (k : ℕ) → pos (2 ^ ((k + 2) / 2)) ≡ pos (2 ^ (k / 2)) *ℤ pos 2
scale_is k = ap (λ s. pos (2 ^ s)) (one_up k) ∙ ap pos (pow-add 2 (k / 2) 1)
  where
    one_up : (k : ℕ) → (k + 2) / 2 ≡ k / 2 + 1
    one_up k = omega arith

abbrev scalar : Expr → Quad Expr
scalar e = record { a = con (pos 0); b = con (pos 0); c = con (pos 0); d = e }

-- 2u + v·root two
abbrev twice : Expr → Expr → Quad Expr
twice u v = add_q exprs (scalar (u ⊕ u)) (mul_q exprs (scalar v) (root2 exprs))

-- ---- u + v over root two, twice: 2u + v·root two
abbrev doubled : ℤ → ℤ → Ω
doubled u v = surd (record { A = u +ℤ u; B = v; s = 0 })

-- at an odd k the numerator v + u·root two has one root two less
lifted : (u v : ℤ) → mul_q ints (root2 ints) (surd (record { A = v; B = u; s = 0 })) ≡ doubled u v
lifted u v =
    solve_q ints ints_laws (u ∷ v ∷ []) (mul_q exprs (root2 exprs) (add_q exprs (scalar (var 1)) (mul_q exprs (scalar (var 0)) (root2 exprs))))
    (twice (var 0) (var 1)) (tt, tt, tt, tt)

tied : (k : ℕ) (u v : ℤ) (y f : Ω) → y ≡ mul_q ints f (doubled u v) → Is k y f (over k u v)
tied k u v y f h = record { same = go (even k) (eqb→eq (k % 2) 0) (λ t e. absurd (subst (λ n. T (not (eqb n 0))) e t)) }
  where
    p : Ω
    p = const_q ints (pos (2 ^ (k / 2)))

    two : Ω
    two = const_q ints (pos 2)

    left : mul_q ints (const_q ints (pos (2 ^ ((k + 2) / 2)))) y ≡ mul_q ints (mul_q ints p two) (mul_q ints f (doubled u v))
    left = ap₂ (mul_q ints) (ap (const_q ints) (scale_is k) ∙ omegas_laws.const_mul (pos (2 ^ (k / 2))) (pos 2)) h

    other : (k : ℕ) → (k % 2 ≡ 0 → ⊥) → k % 2 ≡ 1
    other k e = omega arith

    go : (e : Bool) → (T e → k % 2 ≡ 0) → (T (not e) → k % 2 ≡ 0 → ⊥)
        → mul_q ints (const_q ints (pos (2 ^ ((k + 2) / 2)))) y
        ≡ mul_q ints two (mul_q ints f (mul_q ints (root2^ k) (surd (record { A = cond e (u +ℤ u) v; B = cond e v u; s = (k + 2) / 2 }))))
    go true e o =
        left
        ∙ ring₄ omegas omegas_laws (λ p t f g. (p ⊗ t) ⊗ (f ⊗ g)) (λ p t f g. t ⊗ (f ⊗ (p ⊗ g))) tt p two f (doubled u v)
        ∙ ap (λ r. mul_q ints two (mul_q ints f (mul_q ints r (doubled u v)))) (sym (root_even k (e tt)))
    go false e o =
        left
        ∙ ap (λ g. mul_q ints (mul_q ints p two) (mul_q ints f g)) (sym (lifted u v))
        ∙ solve omegas omegas_laws (p ∷ two ∷ f ∷ root2 ints ∷ surd (record { A = v; B = u; s = 0 }) ∷ [])
        ((var 0 ⊗ var 1) ⊗ (var 2 ⊗ (var 3 ⊗ var 4))) (var 1 ⊗ (var 2 ⊗ ((var 3 ⊗ var 0) ⊗ var 4))) tt
        ∙ ap (λ r. mul_q ints two (mul_q ints f (mul_q ints r (surd (record { A = v; B = u; s = 0 }))))) (sym (root_odd k (other k (o tt))))

-- ---- the two parts of a number
pub real_is : (k : ℕ) (x : Ω) → Is k (add_q ints x (conj_q ints x)) (const_q ints (pos 1)) (real k x)
real_is k x = tied k x.d (x.c -ℤ x.a) (add_q ints x (conj_q ints x)) (const_q ints (pos 1))
    (solve_q ints ints_laws (parts x []) (add_q exprs X₀ (conj_q exprs X₀)) (mul_q exprs (scalar (con (pos 1))) (twice X₀.d (X₀.c ⊝ X₀.a)))
    (tt, tt, tt, tt))

pub imaginary_is : (k : ℕ) (x : Ω) → Is k (add_q ints x (neg_q ints (conj_q ints x))) (omega^ 2) (imaginary k x)
imaginary_is k x = tied k x.b (x.c +ℤ x.a) (add_q ints x (neg_q ints (conj_q ints x))) (omega^ 2)
    (solve_q ints ints_laws (parts x []) (add_q exprs X₀ (neg_q exprs (conj_q exprs X₀)))
    (mul_q exprs (power (quads exprs) (omega' exprs) 2) (twice X₀.b (X₀.c ⊕ X₀.a))) (tt, tt, tt, tt))
