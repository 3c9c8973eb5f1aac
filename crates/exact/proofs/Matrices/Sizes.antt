-- A unitary triple's coefficients are small: their squares sum to 2^k, so each is at most 2^j in size where k is at most twice j. Assumes nothing.
use Rattle.std.specs.Prelude.{◌≡◌, refl, [], ◌∷◌, ℕ, ◌+◌, ◌*◌, ◌^◌, ◌≤◌, ◌<◌, ℤ, pos, negsuc, nat_abs, ◌+ℤ◌, ◌-ℤ◌, ◌*ℤ◌}
use Rattle.std.proofs.Common.{sym, ◌∙◌, ap, ap₂, mul-le-mul, arith, pow_mono, pow-add}
use Rattle.exact.specs.Meaning.Number.{Ω, ints, add_q, neg_q, mul_q, omega', Sized}
use Rattle.exact.specs.Meaning.Triple.{Triple, squares, crosses, Unitary}
use Rattle.exact.specs.Whole.Parity.{half}
use Rattle.exact.proofs.Whole.Size.{nat_abs_add, nat_abs_sub, nat_abs_neg, Within, abs_by}
use Rattle.exact.proofs.Algebra.Solver.{exprs}
use Rattle.exact.proofs.Algebra.Omega.{X₀, parts, times_omega}
use Rattle.exact.specs.Algebra.Over.{over}

pub sized_le : {m n : ℕ} {x : Ω} → m ≤ n → Sized m x → Sized n x
sized_le h s = omega arith

-- ---- squares are natural numbers
square : ℤ → ℕ
square x = nat_abs x * nat_abs x

square_is : (x : ℤ) → x *ℤ x ≡ pos (square x)
unfolding square
square_is (pos n) = refl
square_is (negsuc n) = refl

squares_n : Ω → ℕ
squares_n x = square x.a + square x.b + square x.c + square x.d

squares_are : (x : Ω) → squares ints x ≡ pos (squares_n x)
unfolding squares_n
squares_are x = ap₂ ◌+ℤ◌ (ap₂ ◌+ℤ◌ (ap₂ ◌+ℤ◌ (square_is x.a) (square_is x.b)) (square_is x.c)) (square_is x.d)

pos_inj : {m n : ℕ} → pos m ≡ pos n → m ≡ n
pos_inj e = ap nat_abs e

sum_is : {t : Triple} → Unitary t → squares_n t.z + squares_n t.w ≡ 2 ^ t.k
sum_is {t} u = pos_inj (sym (ap₂ ◌+ℤ◌ (squares_are t.z) (squares_are t.w)) ∙ u.squares_sum)

-- ---- a square at most 4^j
pub root_le : (m n : ℕ) → m * m ≤ n * n → m ≤ n
root_le m n h = omega (arith, no_more)
  where
    no_more : n < m → ⊥
    no_more l = omega (arith, mul-le-mul l l)

pub four^ : (j : ℕ) → 2 ^ (j + j) ≡ 2 ^ j * 2 ^ j
four^ j = pow-add 2 j j

module _ {t : Triple} (u : Unitary t) (j : ℕ) (h : t.k ≤ j + j) where
  below : squares_n t.z + squares_n t.w ≤ 2 ^ j * 2 ^ j
  below = omega (arith, sum_is u, pow_mono h, four^ j)

  each : (x : ℤ) → square x ≤ 2 ^ j * 2 ^ j → nat_abs x ≤ 2 ^ j
  unfolding square
  each x l = root_le (nat_abs x) (2 ^ j) l

  pub z_sized : Sized (2 ^ j) t.z
  unfolding squares_n
  z_sized =
      let l = below in
      record {
        a_small = each t.z.a (omega arith);
        b_small = each t.z.b (omega arith);
        c_small = each t.z.c (omega arith);
        d_small = each t.z.d (omega arith);
      }

  pub w_sized : Sized (2 ^ j) t.w
  unfolding squares_n
  w_sized =
      let l = below in
      record {
        a_small = each t.w.a (omega arith);
        b_small = each t.w.b (omega arith);
        c_small = each t.w.c (omega arith);
        d_small = each t.w.d (omega arith);
      }

-- ---- division by root two, and sums
half_le : (x y : ℤ) (n : ℕ) → nat_abs x ≤ n → nat_abs y ≤ n → (nat_abs (half (x +ℤ y)) ≤ n) × (nat_abs (half (x -ℤ y)) ≤ n)
half_le x y n h k = (omega (arith, half_size (x +ℤ y), nat_abs_add x y), omega (arith, half_size (x -ℤ y), nat_abs_sub x y))
  where
    half_size : (z : ℤ) → nat_abs (half z) + nat_abs (half z) ≤ nat_abs z + 1
    half_size (pos n) = omega arith
    half_size (negsuc n) = omega arith

pub over_sized : (n : ℕ) (x : Ω) → Sized n x → Sized n (over x)
over_sized n x s =
    let bd = half_le x.b x.d n s.b_small s.d_small in
    let ca = half_le x.c x.a n s.c_small s.a_small in
    record { a_small = bd.1; b_small = ca.0; c_small = bd.0; d_small = ca.1 }

pub add_sized : (m n : ℕ) (x y : Ω) → Sized m x → Sized n y → Sized (m + n) (add_q ints x y)
add_sized m n x y s t =
    record {
      a_small = omega (arith, nat_abs_add x.a y.a, s.a_small, t.a_small);
      b_small = omega (arith, nat_abs_add x.b y.b, s.b_small, t.b_small);
      c_small = omega (arith, nat_abs_add x.c y.c, s.c_small, t.c_small);
      d_small = omega (arith, nat_abs_add x.d y.d, s.d_small, t.d_small);
    }

pub neg_sized : (n : ℕ) (x : Ω) → Sized n x → Sized n (neg_q ints x)
neg_sized n x s =
    record {
      a_small = rw (nat_abs_neg x.a) s.a_small;
      b_small = rw (nat_abs_neg x.b) s.b_small;
      c_small = rw (nat_abs_neg x.c) s.c_small;
      d_small = rw (nat_abs_neg x.d) s.d_small;
    }

pub omega_sized : (n : ℕ) (x : Ω) → Sized n x → Sized n (mul_q ints (omega' ints) x)
omega_sized n x s =
    rw (times_omega x)
    (record { a_small = s.b_small; b_small = s.c_small; c_small = s.d_small; d_small = rw (nat_abs_neg x.a) s.a_small })

-- ---- the two sums
module _ (x : Ω) (s : Sized (2 ^ 30) x) where
  within : Within (parts x []) (2 ^ 30 ∷ 2 ^ 30 ∷ 2 ^ 30 ∷ 2 ^ 30 ∷ [])
  within = (s.a_small, (s.b_small, (s.c_small, (s.d_small, tt))))

  pub squares_size : nat_abs (squares ints x) ≤ 2 ^ 62
  squares_size = abs_by (parts x []) (2 ^ 30 ∷ 2 ^ 30 ∷ 2 ^ 30 ∷ 2 ^ 30 ∷ []) within (squares exprs X₀) (2 ^ 62) tt

  pub crosses_size : nat_abs (crosses ints x) ≤ 2 ^ 62
  crosses_size = abs_by (parts x []) (2 ^ 30 ∷ 2 ^ 30 ∷ 2 ^ 30 ∷ 2 ^ 30 ∷ []) within (crosses exprs X₀) (2 ^ 62) tt
