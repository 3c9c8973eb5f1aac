-- Powers of omega turn by turn, and an exponent from 0 to 60 as the machine casts it. Assumes nothing.
use mathlib.Core.Path.{◌≡◌, sym, ◌∙◌, ap}
use Prim.Native.Nat.{ℕ, ◌+◌, ◌%◌}
use native.Mathlib.Numerals.{add-one}
use native.Mathlib.Omega.{arith}
use lib.Dec.{T}
use lib.IntN.{ℤ, nat_abs}
use lib.Signed.{non_neg, yes_non_neg}
use mir.Syntax.{w32}
use mir.Val.{Fits}
use Rattle.exact.specs.Meaning.Number.{Ω, ints, omegas, mul_q, omega', omega^}
use Rattle.exact.proofs.Algebra.Solver.{◌⊗◌, ring₃}
use Rattle.exact.proofs.Algebra.Omega.{omegas_laws}
use Rattle.exact.proofs.Algebra.OmegaPower.{omega^_mod}
use Rattle.exact.specs.Meaning.Refusals.{InExponents}
use Rattle.unitary.specs.Checks.{exponent_size}

-- ---- omega
pub no_turn : (x : Ω) → x ≡ mul_q ints x (omega^ 0)
no_turn x = sym (omegas_laws.mul_comm x (omega^ 0) ∙ omegas_laws.one_mul x)

pub one_more : (x y r : Ω) (i : ℕ) → y ≡ mul_q ints x (omega^ i) → r ≡ mul_q ints (omega' ints) y → r ≡ mul_q ints x (omega^ (i + 1))
one_more x y r i e f =
    f ∙ ap (mul_q ints (omega' ints)) e
    ∙ ring₃ omegas omegas_laws (λ w x u. w ⊗ (x ⊗ u)) (λ w x u. x ⊗ (w ⊗ u)) tt (omega' ints) x (omega^ i)
    ∙ ap (λ n. mul_q ints x (omega^ n)) (sym (add-one i))

pub all_turns : (x y : Ω) (i n : ℕ) → y ≡ mul_q ints x (omega^ i) → i ≡ n % 8 → y ≡ mul_q ints x (omega^ n)
all_turns x y i n e f = e ∙ ap (λ m. mul_q ints x (omega^ m)) f ∙ ap (mul_q ints x) (sym (omega^_mod n))

-- ---- an exponent
pub exponent_casts : (k : ℤ) → InExponents k → T (non_neg k) × Fits w32 (nat_abs k)
exponent_casts k e = (yes_non_neg e.low, record { fits = omega (arith, exponent_size k e) })
