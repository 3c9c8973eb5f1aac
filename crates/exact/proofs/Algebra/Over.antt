-- Division by root two: allowed exactly where b+d and c+a are even, and then (a,b,c,d) is half of (b-d, c+a, b+d, c-a). Assumes nothing.
use Rattle.std.specs.Prelude.{◌≡◌, refl, Bool, true, false, not, [], T, ℤ, ◌+ℤ◌, ◌-ℤ◌}
use Rattle.std.proofs.Common.{◌∙◌, ap, ap₂}
use Rattle.std.proofs.Math.Facts.{and_yes, yes_and}
use Rattle.exact.specs.Meaning.Number.{Ω, ints, mul_q, root2, odd}
use Rattle.exact.proofs.Whole.Parity.{xr, xr_self, odd_add, odd_sub, half_plus, half_minus}
use Rattle.exact.proofs.Algebra.Ring.{ints_laws}
use Rattle.exact.proofs.Algebra.Solver.{◌⊕◌, ◌⊝◌, exprs}
use Rattle.exact.proofs.Algebra.Omega.{quad_path, X₀, parts, solve_q}
use Rattle.exact.specs.Algebra.Over.{divides, over}

-- root two times
pub root2_times : (x : Ω) → mul_q ints (root2 ints) x ≡ record { a = x.b -ℤ x.d; b = x.c +ℤ x.a; c = x.b +ℤ x.d; d = x.c -ℤ x.a }
root2_times x =
    solve_q ints ints_laws (parts x []) (mul_q exprs (root2 exprs) X₀)
    (record { a = X₀.b ⊝ X₀.d; b = X₀.c ⊕ X₀.a; c = X₀.b ⊕ X₀.d; d = X₀.c ⊝ X₀.a }) (tt, tt, tt, tt)

even_of : (b : Bool) → T (not b) → b ≡ false
even_of true t = absurd t
even_of false t = refl

-- where it divides, both sums are even
pub even_sums : (x : Ω) → T (divides x) → (odd (x.b +ℤ x.d) ≡ false) × (odd (x.c +ℤ x.a) ≡ false)
even_sums x t =
    let u = and_yes (not (odd (x.b +ℤ x.d))) (not (odd (x.c +ℤ x.a))) t in
    (even_of (odd (x.b +ℤ x.d)) u.0, even_of (odd (x.c +ℤ x.a)) u.1)

pub over_times : (x : Ω) → T (divides x) → mul_q ints (root2 ints) (over x) ≡ x
over_times x t =
    let e = even_sums x t in
    root2_times (over x)
    ∙ quad_path (half_minus x.c x.a e.1) (half_plus x.b x.d e.0) (half_plus x.c x.a e.1) (half_minus x.b x.d e.0)

-- root two divides its multiples
pub times_divides : (x y : Ω) → x ≡ mul_q ints (root2 ints) y → T (divides x)
times_divides x y e =
    yes_and (not (odd (x.b +ℤ x.d))) (not (odd (x.c +ℤ x.a)))
    (told (ap₂ (λ p q. odd (p +ℤ q)) (ap (λ q. q.b) f) (ap (λ q. q.d) f) ∙ twice y.c y.a))
    (told (ap₂ (λ p q. odd (p +ℤ q)) (ap (λ q. q.c) f) (ap (λ q. q.a) f) ∙ twice y.b y.d))
  where
    f : x ≡ record { a = y.b -ℤ y.d; b = y.c +ℤ y.a; c = y.b +ℤ y.d; d = y.c -ℤ y.a }
    f = e ∙ root2_times y

    twice : (p q : ℤ) → odd ((p +ℤ q) +ℤ (p -ℤ q)) ≡ false
    twice p q = odd_add (p +ℤ q) (p -ℤ q) ∙ ap₂ xr (odd_add p q) (odd_sub p q) ∙ xr_self (xr (odd p) (odd q))

    told : {b : Bool} → b ≡ false → T (not b)
    told e = rw e tt
