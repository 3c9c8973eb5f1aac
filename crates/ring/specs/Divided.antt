-- What a machine's division of a ring number by root two, and its shift by m, come to: the number again, once it is multiplied back.
-- Assumes nothing.
use Rattle.std.specs.Prelude.{◌≡◌, [], ℕ, ◌+◌, ◌^◌, ◌≤◌, T, ℤ, nat_abs}
use Rattle.std.proofs.Common.{◌∙◌, ap, arith, SFits, to_z-of_z}
use Rattle.std.specs.Int.Signed.{shr_z, mag_shr}
use Rattle.std.specs.Int.{w64}
use Rattle.exact.specs.Meaning.Number.{ints, mul_q, root2, root2^}
use Rattle.exact.proofs.Whole.Size.{mag_abs, sfits_abs}
use Rattle.exact.proofs.Whole.Machine.{Code, arg, ◌∔◌, ◌∸◌, halved, held, ran}
use Rattle.exact.proofs.Algebra.Solver.{at}
use Rattle.exact.proofs.Algebra.Omega.{quad_path}
use Rattle.exact.specs.Algebra.Over.{divides}
use Rattle.exact.proofs.Algebra.Over.{over_times}
use Rattle.exact.specs.Algebra.Twos.{Multiple}
use Rattle.exact.proofs.Algebra.Twos.{shifted_times}
use Rattle.ring.specs.Code.{is₁}
use Rattle.ring.specs.Meaning.{quad}
use Rattle.ring.specs.Number.{Small, four}
use Rattle.ring.specs.declared.ZOmega.{ZOmega}

-- ---- by root two: what the machine hands back for each coefficient
abbrev divided : Code → Code → Code → Code → ZOmega → ZOmega
divided a b c d x =
    let read : Code → ℤ = λ e. held w64 (ran w64 (at ints (four x [])) e) in
    record { a = read a; b = read b; c = read c; d = read d }

abbrev pub by_root_two : ZOmega → ZOmega
by_root_two = divided (halved (arg 1 ∸ arg 3)) (halved (arg 2 ∔ arg 0)) (halved (arg 1 ∔ arg 3)) (halved (arg 2 ∸ arg 0))

pub by_root_two_lem : (x : ZOmega) → Small x → T (divides (quad x)) → mul_q ints (root2 ints) (quad (by_root_two x)) ≡ quad x
by_root_two_lem x s h =
    ap (mul_q ints (root2 ints))
    (quad_path
    (is₁ (2 ^ 31) (halved (arg 1 ∸ arg 3)) tt x s.sized)
    (is₁ (2 ^ 31) (halved (arg 2 ∔ arg 0)) tt x s.sized)
    (is₁ (2 ^ 31) (halved (arg 1 ∔ arg 3)) tt x s.sized)
    (is₁ (2 ^ 31) (halved (arg 2 ∸ arg 0)) tt x s.sized))
    ∙ over_times (quad x) h

-- ---- by 2 to the m
abbrev shift : ℕ → ℤ → ℤ
shift m z = held w64 (shr_z (held w64 z) (2 ^ m))

abbrev pub by_twos : ℕ → ZOmega → ZOmega
by_twos m x = record { a = shift m x.a; b = shift m x.b; c = shift m x.c; d = shift m x.d }

pub by_twos_lem : (m : ℕ) (x : ZOmega) → Small x → Multiple m (quad x) → mul_q ints (root2^ (m + m)) (quad (by_twos m x)) ≡ quad x
by_twos_lem m x s h =
    ap (mul_q ints (root2^ (m + m)))
    (quad_path
    (back x.a s.sized.a_small)
    (back x.b s.sized.b_small)
    (back x.c s.sized.c_small)
    (back x.d s.sized.d_small))
    ∙ shifted_times m (quad x) h
  where
    back : (z : ℤ) → nat_abs z ≤ 2 ^ 31 → shift m z ≡ shr_z z (2 ^ m)
    back z l = rw (to_z-of_z (fits z l)) (to_z-of_z less)
      where
        fits : (z : ℤ) → nat_abs z ≤ 2 ^ 31 → SFits w64 z
        fits z l = sfits_abs (omega arith)

        less : SFits w64 (shr_z z (2 ^ m))
        less = record { sfits = omega (arith, mag_shr z (2 ^ m), mag_abs z) }
