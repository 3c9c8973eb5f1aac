-- How large an orthogonal rotation's numbers are: p² + 2q² is at most 2^e for an entry p + q·root two over root two to the e. Assumes nothing.
use Rattle.std.specs.Prelude.{◌≡◌, refl, ℕ, ◌+◌, ◌*◌, ◌^◌, ◌≤◌, ℤ, pos, negsuc, nat_abs, ◌+ℤ◌, ◌*ℤ◌}
use Rattle.std.proofs.Common.{sym, ◌∙◌, ap, ap₂, le_trans, arith}
use Rattle.exact.specs.Meaning.Number.{ints}
use Rattle.exact.specs.Meaning.Rotation.{Root, Three, Vect, const_r, add_r, mul_r, Rotation, Orthogonal}
use Rattle.exact.proofs.Whole.Size.{nat_abs_neg, nat_abs_add}
use Rattle.exact.specs.Algebra.RootTwo.{neg_r}
use Rattle.exact.specs.Algebra.RootPower.{lift_r}
use Rattle.exact.proofs.Algebra.RootPower.{twos_lift}
use Rattle.exact.proofs.Matrices.Sizes.{root_le, four^}
use Rattle.exact.proofs.Rotation.Vectors.{lift_parts}
use Rattle.exact.proofs.Rotation.Orthogonal.{dot}
use Rattle.exact.specs.Rotation.Sizes.{Up, UpV, UpC}

-- p² + 2q²
abbrev pub measure : Root ℤ → ℕ
measure r = nat_abs r.p * nat_abs r.p + (nat_abs r.q * nat_abs r.q + nat_abs r.q * nat_abs r.q)

-- each entry's is at most n
pub record Short (n : ℕ) (v : Vect ℤ) : Type 0 where
  pub x_short : measure v.x ≤ n
  pub y_short : measure v.y ≤ n
  pub z_short : measure v.z ≤ n

square_is : (r : Root ℤ) → (mul_r ints r r).p ≡ pos (measure r)
square_is r = ap₂ (λ a b. a +ℤ (b +ℤ b)) (sq_is r.p) (sq_is r.q)
  where
    sq_is : (z : ℤ) → z *ℤ z ≡ pos (nat_abs z * nat_abs z)
    sq_is (pos n) = refl
    sq_is (negsuc n) = refl

dot_is : (v : Vect ℤ) → (dot ints v v).p ≡ pos (measure v.x + measure v.y + measure v.z)
dot_is v = ap₂ (λ a b. a +ℤ b) (ap₂ (λ a b. a +ℤ b) (square_is v.x) (square_is v.y)) (square_is v.z)

one_lifted : (e : ℕ) → (lift_r (e + e) (const_r ints (pos 1))).p ≡ pos (2 ^ e)
one_lifted e = ap (λ r. r.p) (twos_lift e (const_r ints (pos 1))) ∙ ap pos one
  where
    one : 2 ^ e * 1 ≡ 2 ^ e
    one = omega arith

short_of : (v : Vect ℤ) (e : ℕ) → dot ints v v ≡ lift_r (e + e) (const_r ints (pos 1)) → Short (2 ^ e) v
short_of v e h =
    let sum : measure v.x + measure v.y + measure v.z ≡ 2 ^ e = ap nat_abs (sym (dot_is v) ∙ ap (λ r. r.p) h ∙ one_lifted e) in
    record { x_short = omega arith; y_short = omega arith; z_short = omega arith }

pub record Shorts (n : ℕ) (m : Three (Vect ℤ)) : Type 0 where
  pub x : Short n m.x
  pub y : Short n m.y
  pub z : Short n m.z

pub shorts : {r : Rotation} → Orthogonal r → Shorts (2 ^ r.e) r.m
shorts {r} o =
    let e = r.e in
    let s = o.inverted in
    record {
      x = short_of r.m.x e (ap (λ v. v.x) (s.x_same ∙ lift_parts (e + e) _));
      y = short_of r.m.y e (ap (λ v. v.y) (s.y_same ∙ lift_parts (e + e) _));
      z = short_of r.m.z e (ap (λ v. v.z) (s.z_same ∙ lift_parts (e + e) _));
    }

pub up_le : {m n : ℕ} {r : Root ℤ} → m ≤ n → Up m r → Up n r
up_le l h = record { p_small = le_trans h.p_small l; q_small = le_trans h.q_small l }

pub up_all : {m n : ℕ} {c : Three (Vect ℤ)} → m ≤ n → UpC m c → UpC n c
up_all {m} {n} {c} l h = record { x_up = of h.x_up; y_up = of h.y_up; z_up = of h.z_up }
  where
    of : {v : Vect ℤ} → UpV m v → UpV n v
    of u = record { x_up = up_le l u.x_up; y_up = up_le l u.y_up; z_up = up_le l u.z_up }

up_to : (j : ℕ) (r : Root ℤ) → measure r ≤ 2 ^ (j + j) → Up (2 ^ j) r
up_to j r h =
    record {
      p_small = root_le (nat_abs r.p) (2 ^ j) (omega (arith, four^ j));
      q_small = root_le (nat_abs r.q) (2 ^ j) (omega (arith, four^ j));
    }

pub ups_to : (j : ℕ) (m : Three (Vect ℤ)) → Shorts (2 ^ (j + j)) m → UpC (2 ^ j) m
ups_to j m h = record { x_up = of m.x h.x; y_up = of m.y h.y; z_up = of m.z h.z }
  where
    of : (v : Vect ℤ) → Short (2 ^ (j + j)) v → UpV (2 ^ j) v
    of v s = record { x_up = up_to j v.x s.x_short; y_up = up_to j v.y s.y_short; z_up = up_to j v.z s.z_short }

-- ---- of a negative
pub up_neg : {n : ℕ} {r : Root ℤ} → Up n r → Up n (neg_r ints r)
up_neg {n} {r} h = record { p_small = rw (nat_abs_neg r.p) h.p_small; q_small = rw (nat_abs_neg r.q) h.q_small }

pub up_of_neg : {n : ℕ} (r : Root ℤ) → Up n (neg_r ints r) → Up n r
up_of_neg r h = record { p_small = rw (nat_abs_neg r.p) at h.p_small; q_small = rw (nat_abs_neg r.q) at h.q_small }

pub up_add : {m n : ℕ} {r s : Root ℤ} → Up m r → Up n s → Up (m + n) (add_r ints r s)
up_add {m} {n} {r} {s} g h =
    record {
      p_small = omega (arith, nat_abs_add r.p s.p, g.p_small, h.p_small);
      q_small = omega (arith, nat_abs_add r.q s.q, g.q_small, h.q_small);
    }
