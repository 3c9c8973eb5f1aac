-- The size of a machine's ring number, and what a turn and a sign make of it. Assumes nothing.
use Rattle.std.specs.Prelude.{◌≡◌, List, [], ◌∷◌, ℕ, zero, suc, ◌+◌, ◌-◌, ◌^◌, ◌≤◌, ◌<◌, ℤ, pos, nat_abs, ◌-ℤ◌}
use Rattle.std.proofs.Common.{sym, ◌∙◌, ap, arith, SFits, to_z-of_z}
use Rattle.std.specs.Int.{w64}
use Rattle.exact.specs.Meaning.Number.{Quad, Ω, ints, quads, power, neg_q, mul_q, conj_q, omega', omega^, Sized}
use Rattle.exact.proofs.Algebra.Ring.{ints_laws}
use Rattle.exact.proofs.Algebra.Solver.{Expr, con, ◌⊝◌, exprs}
use Rattle.exact.proofs.Algebra.Omega.{X₀, parts, solve_q}
use Rattle.exact.proofs.Whole.Size.{nat_abs_sub, sfits_abs}
use Rattle.exact.proofs.Whole.Machine.{held}
use Rattle.ring.specs.declared.ZOmega.{ZOmega}
use Rattle.ring.specs.Meaning.{quad}

-- each coefficient is at most 2^31 in size
pub record Small (x : ZOmega) : Type 0 where
  pub sized : Sized (2 ^ 31) (quad x)

abbrev pub four : ZOmega → List ℤ → List ℤ
four x xs = x.a ∷ x.b ∷ x.c ∷ x.d ∷ xs

-- times omega, as the machine does it
pub turned : (x : Ω) → mul_q ints (omega' ints) x ≡ record { a = x.b; b = x.c; c = x.d; d = pos 0 -ℤ x.a }
turned x =
    solve_q ints ints_laws (parts x []) (mul_q exprs (omega' exprs) X₀) (record { a = X₀.b; b = X₀.c; c = X₀.d; d = con (pos 0) ⊝ X₀.a })
    (tt, tt, tt, tt)

-- less than nothing, as the machine does it
pub negated : (x : Ω) → neg_q ints x ≡ record { a = pos 0 -ℤ x.a; b = pos 0 -ℤ x.b; c = pos 0 -ℤ x.c; d = pos 0 -ℤ x.d }
negated x = solve_q ints ints_laws (parts x []) (neg_q exprs X₀) less (tt, tt, tt, tt)
  where
    less : Quad Expr
    less = record { a = con (pos 0) ⊝ X₀.a; b = con (pos 0) ⊝ X₀.b; c = con (pos 0) ⊝ X₀.c; d = con (pos 0) ⊝ X₀.d }

-- the conjugate, as the machine does it
pub conjugated : (x : Ω) → conj_q ints x ≡ record { a = pos 0 -ℤ x.c; b = pos 0 -ℤ x.b; c = pos 0 -ℤ x.a; d = x.d }
conjugated x =
    solve_q ints ints_laws (parts x []) (conj_q exprs X₀)
    (record { a = con (pos 0) ⊝ X₀.c; b = con (pos 0) ⊝ X₀.b; c = con (pos 0) ⊝ X₀.a; d = X₀.d }) (tt, tt, tt, tt)

pub opposite_fits : (z : ℤ) → nat_abs z ≤ 2 ^ 31 → SFits w64 (pos 0 -ℤ held w64 z)
opposite_fits z l = rw (to_z-of_z (fits z l)) (sfits_abs (omega (arith, nat_abs_sub (pos 0) z)))
  where
    fits : (z : ℤ) → nat_abs z ≤ 2 ^ 31 → SFits w64 z
    fits z l = sfits_abs (omega arith)

-- ---- by the inverse of omega, once, twice and three times
abbrev turns : ℕ → Quad Expr
turns j = mul_q exprs (power (quads exprs) (omega' exprs) j) X₀

module _ (x : Ω) where
  pub turned_back_lem : mul_q ints (omega^ 7) x ≡ record { a = pos 0 -ℤ x.d; b = x.a; c = x.b; d = x.c }
  turned_back_lem = solve_q ints ints_laws (parts x []) (turns 7) (record { a = con (pos 0) ⊝ X₀.d; b = X₀.a; c = X₀.b; d = X₀.c }) (tt, tt, tt, tt)

  pub turned_whole : x ≡ mul_q ints (omega^ 8) x
  turned_whole = solve_q ints ints_laws (parts x []) X₀ (turns 8) (tt, tt, tt, tt)

  pub turned_twice : mul_q ints (omega^ 7) (mul_q ints (omega^ 7) x) ≡ mul_q ints (omega^ 6) x
  turned_twice = solve_q ints ints_laws (parts x []) (mul_q exprs (power (quads exprs) (omega' exprs) 7) (turns 7)) (turns 6) (tt, tt, tt, tt)

  pub turned_thrice : mul_q ints (omega^ 7) (mul_q ints (omega^ 6) x) ≡ mul_q ints (omega^ 5) x
  turned_thrice = solve_q ints ints_laws (parts x []) (mul_q exprs (power (quads exprs) (omega' exprs) 7) (turns 6)) (turns 5) (tt, tt, tt, tt)

pub small_back : {x r : ZOmega} → Small x → quad r ≡ mul_q ints (omega^ 7) (quad x) → Small r
small_back {x} s e =
    record {
      sized =
          rw (e ∙ turned_back_lem (quad x))
          (record {
            a_small = omega (arith, nat_abs_sub (pos 0) x.d, s.sized.d_small);
            b_small = s.sized.a_small;
            c_small = s.sized.b_small;
            d_small = s.sized.c_small;
          });
    }

-- ---- what a number is by the power that m is, y, z and r being x by the inverse once, twice and three times
power_at : {y : Ω} (x : Ω) (m j : ℕ) → m ≡ j → y ≡ mul_q ints (omega^ (8 - j)) x → y ≡ mul_q ints (omega^ (8 - m)) x
power_at x m j e h = h ∙ ap (λ i. mul_q ints (omega^ (8 - i)) x) (sym e)

abbrev Back : ZOmega → ZOmega → Type 0
Back x y = quad y ≡ mul_q ints (omega^ 7) (quad x)

module _ (x : ZOmega) (m : ℕ) where
  pub power_none : m ≡ 0 → quad x ≡ mul_q ints (omega^ (8 - m)) (quad x)
  power_none e = power_at (quad x) m 0 e (turned_whole (quad x))

  pub power_once : (y : ZOmega) → Back x y → m ≡ 1 → quad y ≡ mul_q ints (omega^ (8 - m)) (quad x)
  power_once y h e = power_at (quad x) m 1 e h

  twice : (y z : ZOmega) → Back x y → Back y z → quad z ≡ mul_q ints (omega^ 6) (quad x)
  twice y z h k = k ∙ ap (mul_q ints (omega^ 7)) h ∙ turned_twice (quad x)

  pub power_twice : (y z : ZOmega) → Back x y → Back y z → m ≡ 2 → quad z ≡ mul_q ints (omega^ (8 - m)) (quad x)
  power_twice y z h k e = power_at (quad x) m 2 e (twice y z h k)

  pub power_thrice : (y z r : ZOmega) → Back x y → Back y z → Back z r → m < 4 → (m ≡ 0 → ⊥) → (m ≡ 1 → ⊥) → (m ≡ 2 → ⊥)
      → quad r ≡ mul_q ints (omega^ (8 - m)) (quad x)
  power_thrice y z r h k l few n₀ n₁ n₂ =
      power_at (quad x) m 3 (omega arith) (l ∙ ap (mul_q ints (omega^ 7)) (twice y z h k) ∙ turned_thrice (quad x))

-- ---- y being x by the inverse i times, z is x by it once more
pub power_more : (x y z : ZOmega) (i : ℕ) → quad y ≡ mul_q ints (omega^ (8 - i)) (quad x) → Back y z → i < 3
    → quad z ≡ mul_q ints (omega^ (8 - (i + 1))) (quad x)
power_more x y z zero e h l = h ∙ ap (mul_q ints (omega^ 7)) (e ∙ sym (turned_whole (quad x)))
power_more x y z (suc zero) e h l = h ∙ ap (mul_q ints (omega^ 7)) e ∙ turned_twice (quad x)
power_more x y z (suc (suc zero)) e h l = h ∙ ap (mul_q ints (omega^ 7)) e ∙ turned_thrice (quad x)
power_more x y z (suc (suc (suc i))) e h l = absurd (omega arith)

pub power_whole : (x y : ZOmega) (m i : ℕ) → quad y ≡ mul_q ints (omega^ (8 - i)) (quad x) → i ≤ m → m ≤ i
    → quad y ≡ mul_q ints (omega^ (8 - m)) (quad x)
power_whole x y m i e l h = power_at (quad x) m i (omega arith) e
