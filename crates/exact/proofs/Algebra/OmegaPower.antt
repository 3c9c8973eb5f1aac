-- Powers of omega: they repeat after 8, are told apart below 8, and are inverted by conjugation. Assumes nothing.
use Rattle.std.specs.Prelude.{◌≡◌, refl, [], ℕ, zero, suc, ◌+◌, ◌%◌, pos}
use Rattle.std.proofs.Common.{sym, ◌∙◌, ap, arith}
use Rattle.exact.specs.Meaning.Number.{Quad, ints, mul_q, conj_q, const_q, omega', omegas, omega^}
use Rattle.exact.proofs.Algebra.Ring.{ints_laws}
use Rattle.exact.proofs.Algebra.Solver.{Expr, exprs, ◌⊗◌, ring₄}
use Rattle.exact.proofs.Algebra.Power.{power_add}
use Rattle.exact.proofs.Algebra.Omega.{omegas_laws, X₀, parts, solve_q, conj_mul}
use Rattle.exact.specs.Algebra.OmegaPower.{which}

omega^_8 : (n : ℕ) → omega^ (suc (suc (suc (suc (suc (suc (suc (suc n)))))))) ≡ omega^ n
omega^_8 n = solve_q ints ints_laws (parts (omega^ n) []) (w (w (w (w (w (w (w (w X₀)))))))) X₀ (tt, tt, tt, tt)
  where
    w : Quad Expr → Quad Expr
    w = mul_q exprs (omega' exprs)

-- what holds of the first eight, and goes on by eights, holds of all
by_eights : (P : ℕ → Type 0) → P 0 → P 1 → P 2 → P 3 → P 4 → P 5 → P 6 → P 7
    → ((n : ℕ) → P n → P (suc (suc (suc (suc (suc (suc (suc (suc n))))))))) → (n : ℕ) → P n
by_eights P a b c d e f g h s zero = a
by_eights P a b c d e f g h s (suc zero) = b
by_eights P a b c d e f g h s (suc (suc zero)) = c
by_eights P a b c d e f g h s (suc (suc (suc zero))) = d
by_eights P a b c d e f g h s (suc (suc (suc (suc zero)))) = e
by_eights P a b c d e f g h s (suc (suc (suc (suc (suc zero))))) = f
by_eights P a b c d e f g h s (suc (suc (suc (suc (suc (suc zero)))))) = g
by_eights P a b c d e f g h s (suc (suc (suc (suc (suc (suc (suc zero))))))) = h
by_eights P a b c d e f g h s (suc (suc (suc (suc (suc (suc (suc (suc n)))))))) = s n (by_eights P a b c d e f g h s n)

eight_more : (n : ℕ) → n % 8 ≡ suc (suc (suc (suc (suc (suc (suc (suc n))))))) % 8
eight_more n = omega arith

pub which_omega^ : (n : ℕ) → which (omega^ n) ≡ n % 8
which_omega^ = by_eights (λ n. which (omega^ n) ≡ n % 8) refl refl refl refl refl refl refl refl (λ n h. ap which (omega^_8 n) ∙ h ∙ eight_more n)

pub omega^_mod : (n : ℕ) → omega^ n ≡ omega^ (n % 8)
omega^_mod = by_eights (λ n. omega^ n ≡ omega^ (n % 8)) refl refl refl refl refl refl refl refl (λ n h. omega^_8 n ∙ h ∙ ap omega^ (eight_more n))

pub omega^_same : (m n : ℕ) → omega^ m ≡ omega^ n → m % 8 ≡ n % 8
omega^_same m n e = sym (which_omega^ m) ∙ ap which e ∙ which_omega^ n

pub omega^_add : (m n : ℕ) → omega^ (m + n) ≡ mul_q ints (omega^ m) (omega^ n)
omega^_add = power_add omegas omegas_laws (omega' ints)

pub omega^_conj : (n : ℕ) → mul_q ints (omega^ n) (conj_q ints (omega^ n)) ≡ const_q ints (pos 1)
omega^_conj zero = refl
omega^_conj (suc n) =
    ap (mul_q ints (omega^ (suc n))) (conj_mul ints ints_laws (omega' ints) (omega^ n))
    ∙ ring₄ omegas omegas_laws (λ a x b y. (a ⊗ x) ⊗ (b ⊗ y)) (λ a x b y. (a ⊗ b) ⊗ (x ⊗ y)) tt (omega' ints) (omega^ n)
    (conj_q ints (omega' ints)) (conj_q ints (omega^ n))
    ∙ omegas_laws.one_mul (mul_q ints (omega^ n) (conj_q ints (omega^ n)))
    ∙ omega^_conj n
