-- Sizes: of a ring number, by the squares of its coefficients, which conjugation, a sign and powers of omega keep; of each coefficient by it;
-- and of A and B by it, at most 2 to the s. In a unitary triple both numbers' sizes are at most 2 to the k. Assumes nothing.
use Rattle.std.specs.Prelude.{◌≡◌, refl, Bool, true, false, not, cond, [], ℕ, zero, suc, ◌+◌, ◌*◌, ◌/◌, ◌%◌, ◌^◌, ◌≤◌, ◌<◌, T, eqb, ℤ, pos, negsuc, nat_abs, ◌+ℤ◌, ◌-ℤ◌, ◌*ℤ◌}
use Rattle.std.proofs.Common.{sym, ◌∙◌, ap, ap₂, subst, le_trans, le_of_suc-le-suc, lt_of_not-le, not-le_of_lt, le_of_lt, lt_of_le_of_lt, mul-le-mul_left, mul-lt-mul_of_pos_right, arith, eqb→eq, pow-add, pow_mono}
use Rattle.exact.specs.Meaning.Number.{Ω, ints, Sized, mul_q, neg_q, conj_q, omega', omega^}
use Rattle.exact.specs.Meaning.Triple.{Triple, squares, Unitary}
use Rattle.exact.proofs.Algebra.Ring.{ints_laws}
use Rattle.exact.proofs.Algebra.Solver.{con, ◌⊕◌, ◌⊗◌, ◌⊝◌, exprs, solve, ring₁, ring₂}
use Rattle.exact.proofs.Algebra.Omega.{omegas_laws, X₀, X₁, parts}
use Rattle.exact.proofs.Matrices.Sizes.{sized_le}
use Rattle.ring.specs.Meaning.{quad}
use Rattle.ring.specs.Number.{Small}
use Rattle.ring.specs.declared.ZOmega.{ZOmega}
use Rattle.view.specs.Meaning.Surd.{even, over, real, imaginary}
use Rattle.view.specs.Size.{size, Fit}

-- ---- squares
abbrev sq : ℤ → ℕ
sq z = nat_abs z * nat_abs z

sq_is : (z : ℤ) → z *ℤ z ≡ pos (sq z)
sq_is (pos n) = refl
sq_is (negsuc n) = refl

pos_same : {m n : ℕ} → pos m ≡ pos n → m ≡ n
pos_same e = ap nat_abs e

squares_are : (x : Ω) → squares ints x ≡ pos (sq x.a + sq x.b + sq x.c + sq x.d)
squares_are x =
    ap₂ (λ m n. m +ℤ n) (ap₂ (λ m n. m +ℤ n) (ap₂ (λ m n. m +ℤ n) (sq_is x.a) (sq_is x.b)) (sq_is x.c)) (sq_is x.d)

pub size_is : (x : Ω) → size x ≡ sq x.a + sq x.b + sq x.c + sq x.d
unfolding size
size_is x = ap nat_abs (squares_are x)

-- ---- what keeps it
size_neg : (x : Ω) → size (neg_q ints x) ≡ size x
unfolding size
size_neg x = ap nat_abs (solve ints ints_laws (parts x []) (squares exprs (neg_q exprs X₀)) (squares exprs X₀) tt)

size_conj : (x : Ω) → size (conj_q ints x) ≡ size x
unfolding size
size_conj x = ap nat_abs (solve ints ints_laws (parts x []) (squares exprs (conj_q exprs X₀)) (squares exprs X₀) tt)

size_omega : (x u : Ω) → size (mul_q ints x (mul_q ints (omega' ints) u)) ≡ size (mul_q ints x u)
unfolding size
size_omega x u =
    ap nat_abs (solve ints ints_laws (parts x (parts u [])) (squares exprs (mul_q exprs X₀ (mul_q exprs (omega' exprs) X₁)))
    (squares exprs (mul_q exprs X₀ X₁)) tt)

size_power : (x : Ω) (n : ℕ) → size (mul_q ints x (omega^ n)) ≡ size x
size_power x zero = ap size (omegas_laws.mul_comm x (omega^ 0) ∙ omegas_laws.one_mul x)
size_power x (suc n) = size_omega x (omega^ n) ∙ size_power x n

-- the same by what a number is: each is as small as x is
module _ (x y : Ω) (m : ℕ) (h : size x ≤ m) where
  pub small_neg : y ≡ neg_q ints x → size y ≤ m
  small_neg e = rw (ap size e ∙ size_neg x) h

  pub small_conj : y ≡ conj_q ints x → size y ≤ m
  small_conj e = rw (ap size e ∙ size_conj x) h

  pub small_power : (n : ℕ) → y ≡ mul_q ints x (omega^ n) → size y ≤ m
  small_power n e = rw (ap size e ∙ size_power x n) h

-- ---- the coefficients
positive : (m n : ℕ) → m < n → 0 < n
positive m n h = omega arith

root_le : (n m : ℕ) → n * n ≤ m * m → n ≤ m
root_le n m h =
    le_of_suc-le-suc
    (lt_of_not-le
    (λ (g : suc m ≤ n). not-le_of_lt (lt_of_le_of_lt (mul-le-mul_left m (le_of_lt g)) (mul-lt-mul_of_pos_right g (positive m n g))) h))

pub coefficients : (x : Ω) → size x ≤ 2 ^ 60 → Sized (2 ^ 30) x
coefficients x h = record {
  a_small = root_le (nat_abs x.a) (2 ^ 30) (omega (arith, size_is x));
  b_small = root_le (nat_abs x.b) (2 ^ 30) (omega (arith, size_is x));
  c_small = root_le (nat_abs x.c) (2 ^ 30) (omega (arith, size_is x));
  d_small = root_le (nat_abs x.d) (2 ^ 30) (omega (arith, size_is x));
}

-- and of a machine's number
pub small_of : (x : ZOmega) → size (quad x) ≤ 2 ^ 60 → Small x
small_of x h = record { sized = sized_le (omega arith) (coefficients (quad x) h) }

-- ---- A and B
-- (c - a)² + (c + a)² is twice a² + c²
both_squares : (a c : ℤ) → sq (c -ℤ a) + sq (c +ℤ a) ≡ 2 * (sq a + sq c)
both_squares a c = pos_same
    (sym (ap₂ (λ m n. m +ℤ n) (sq_is (c -ℤ a)) (sq_is (c +ℤ a)))
    ∙ ring₂ ints ints_laws (λ a c. (c ⊝ a) ⊗ (c ⊝ a) ⊕ (c ⊕ a) ⊗ (c ⊕ a)) (λ a c. con (pos 2) ⊗ (a ⊗ a ⊕ c ⊗ c)) tt a c
    ∙ ap₂ (λ m n. pos 2 *ℤ (m +ℤ n)) (sq_is a) (sq_is c))

twice_square : (u : ℤ) → sq (u +ℤ u) ≡ 4 * sq u
twice_square u = pos_same
    (sym (sq_is (u +ℤ u)) ∙ ring₁ ints ints_laws (λ u. (u ⊕ u) ⊗ (u ⊕ u)) (λ u. con (pos 4) ⊗ (u ⊗ u)) tt u ∙ ap (λ m. pos 4 *ℤ m) (sq_is u))

-- 2 to the s, squared, for s = (k + 2) / 2
squared_even : (k : ℕ) → k % 2 ≡ 0 → 2 ^ ((k + 2) / 2) * 2 ^ ((k + 2) / 2) ≡ 4 * 2 ^ k
squared_even k e = sym (pow-add 2 ((k + 2) / 2) ((k + 2) / 2)) ∙ ap (λ n. 2 ^ n) (whole k e) ∙ pow-add 2 2 k
  where
    whole : (k : ℕ) → k % 2 ≡ 0 → (k + 2) / 2 + (k + 2) / 2 ≡ 2 + k
    whole k e = omega arith

squared_odd : (k : ℕ) → (k % 2 ≡ 0 → ⊥) → 2 ^ ((k + 2) / 2) * 2 ^ ((k + 2) / 2) ≡ 2 * 2 ^ k
squared_odd k e = sym (pow-add 2 ((k + 2) / 2) ((k + 2) / 2)) ∙ ap (λ n. 2 ^ n) (whole k (other k e)) ∙ pow-add 2 1 k
  where
    other : (k : ℕ) → (k % 2 ≡ 0 → ⊥) → k % 2 ≡ 1
    other k e = omega arith

    whole : (k : ℕ) → k % 2 ≡ 1 → (k + 2) / 2 + (k + 2) / 2 ≡ 1 + k
    whole k e = omega arith

pub fit_of : (k : ℕ) (u v : ℤ) → k ≤ 60 → sq u ≤ 2 ^ k → sq v ≤ 2 * 2 ^ k → Fit (over k u v)
fit_of k u v K hu hv = go (even k) (eqb→eq (k % 2) 0) (λ t e. absurd (subst (λ n. T (not (eqb n 0))) e t))
  where
    few : (k : ℕ) → k ≤ 60 → (k + 2) / 2 ≤ 31
    few k h = omega arith

    go : (e : Bool) → (T e → k % 2 ≡ 0) → (T (not e) → k % 2 ≡ 0 → ⊥) → Fit (record { A = cond e (u +ℤ u) v; B = cond e v u; s = (k + 2) / 2 })
    go true y n = record {
      s_few = few k K;
      A_small = root_le (nat_abs (u +ℤ u)) (2 ^ ((k + 2) / 2)) (omega (arith, twice_square u, squared_even k (y tt)));
      B_small = root_le (nat_abs v) (2 ^ ((k + 2) / 2)) (omega (arith, squared_even k (y tt)));
    }
    go false y n = record {
      s_few = few k K;
      A_small = root_le (nat_abs v) (2 ^ ((k + 2) / 2)) (omega (arith, squared_odd k (n tt)));
      B_small = root_le (nat_abs u) (2 ^ ((k + 2) / 2)) (omega (arith, squared_odd k (n tt)));
    }

pub real_fit : (k : ℕ) (x : Ω) → k ≤ 60 → size x ≤ 2 ^ k → Fit (real k x)
real_fit k x K h =
    fit_of k x.d (x.c -ℤ x.a) K (omega (arith, size_is x)) (omega (arith, size_is x, both_squares x.a x.c))

pub imaginary_fit : (k : ℕ) (x : Ω) → k ≤ 60 → size x ≤ 2 ^ k → Fit (imaginary k x)
imaginary_fit k x K h =
    fit_of k x.b (x.c +ℤ x.a) K (omega (arith, size_is x)) (omega (arith, size_is x, both_squares x.a x.c))

-- ---- a unitary triple
sizes_sum : {t : Triple} → Unitary t → size t.z + size t.w ≡ 2 ^ t.k
sizes_sum {t} u =
    ap₂ (λ m n. m + n) (size_is t.z) (size_is t.w)
    ∙ pos_same (sym (ap₂ (λ m n. m +ℤ n) (squares_are t.z) (squares_are t.w)) ∙ u.squares_sum)

pub z_size : {t : Triple} → Unitary t → size t.z ≤ 2 ^ t.k
z_size {t} u = omega (arith, sizes_sum u)

pub w_size : {t : Triple} → Unitary t → size t.w ≤ 2 ^ t.k
w_size {t} u = omega (arith, sizes_sum u)

pub at_most_60 : {k n : ℕ} → k ≤ 60 → n ≤ 2 ^ k → n ≤ 2 ^ 60
at_most_60 h g = le_trans g (pow_mono h)
