-- What a machine's sums, differences, negatives and shifts of p and q need and give. Assumes nothing.
use Rattle.std.specs.Prelude.{◌≡◌, ℕ, ◌+◌, ◌%◌, ◌/◌, ◌^◌, ◌≤◌, ℤ, pos, neg_ℤ, nat_abs, ◌+ℤ◌, ◌-ℤ◌}
use Rattle.std.proofs.Common.{◌∙◌, ap, ap₂, add-one, arith, SFits, to_z-of_z}
use Rattle.std.proofs.Math.IntN.{+ℤ_idl}
use Rattle.std.specs.Int.Signed.{shr_z, mag_shr}
use Rattle.std.specs.Int.{w64}
use Rattle.exact.specs.Meaning.Number.{ints}
use Rattle.exact.specs.Meaning.Rotation as Exact
use Rattle.exact.specs.Meaning.Rotation.{add_r, times_r, lift}
use Rattle.exact.proofs.Whole.Machine.{held}
use Rattle.exact.proofs.Whole.Size.{nat_abs_neg, nat_abs_add, sfits_abs}
use Rattle.exact.specs.Algebra.RootTwo.{neg_r}
use Rattle.exact.proofs.Algebra.RootTwo.{root_path}
use Rattle.exact.specs.Algebra.RootPower.{DividesR, lift_r}
use Rattle.exact.proofs.Algebra.RootPower.{evenly_lift, oddly_lift}
use Rattle.exact.proofs.Rotation.Vectors.{vect_path, lift_parts}
use Rattle.exact.specs.Rotation.Sizes.{Up}
use Rattle.exact.proofs.Rotation.Sizes.{up_le, up_add}
use Rattle.exact.specs.Rotation.Worked.{sub_r}
use Rattle.root_two.specs.Meaning.{root}
use Rattle.root_two.specs.declared.Root.{Root}

-- ---- sums: both numbers and the sum are at most 2^62 in p and q
pub record Addable (x y : Exact.Root ℤ) : Type 0 where
  pub left : Up (2 ^ 62) x
  pub right : Up (2 ^ 62) y
  pub total : Up (2 ^ 62) (add_r ints x y)

-- so it is where both are at most 2^60
pub addable : (x y : Exact.Root ℤ) → Up (2 ^ 60) x → Up (2 ^ 60) y → Addable x y
addable x y g h = record { left = up_le (omega arith) g; right = up_le (omega arith) h; total = up_le (omega arith) (up_add g h) }

fits : (x : ℤ) → nat_abs x ≤ 2 ^ 62 → SFits w64 x
fits x h = sfits_abs (omega arith)

back : (x : ℤ) → nat_abs x ≤ 2 ^ 62 → held w64 x ≡ x
back x h = to_z-of_z (fits x h)

module _ (x y : ℤ) (hx : nat_abs x ≤ 2 ^ 62) (hy : nat_abs y ≤ 2 ^ 62) (hs : nat_abs (x +ℤ y) ≤ 2 ^ 62) where
  sum_is : held w64 x +ℤ held w64 y ≡ x +ℤ y
  sum_is = ap₂ ◌+ℤ◌ (back x hx) (back y hy)

  pub sum_fits : SFits w64 (held w64 x +ℤ held w64 y)
  sum_fits = rw sum_is (fits (x +ℤ y) hs)

  pub sum_held : held w64 (held w64 x +ℤ held w64 y) ≡ x +ℤ y
  sum_held = to_z-of_z sum_fits ∙ sum_is

module _ (x y : Root) (h : Addable (root x) (root y)) where
  pub p_fits : SFits w64 (held w64 x.p +ℤ held w64 y.p)
  p_fits = sum_fits x.p y.p h.left.p_small h.right.p_small h.total.p_small

  pub q_fits : SFits w64 (held w64 x.q +ℤ held w64 y.q)
  q_fits = sum_fits x.q y.q h.left.q_small h.right.q_small h.total.q_small

  pub added : ◌≡◌ {A = Exact.Root ℤ} (record { p = held w64 (held w64 x.p +ℤ held w64 y.p); q = held w64 (held w64 x.q +ℤ held w64 y.q) })
      (add_r ints (root x) (root y))
  added =
      root_path
      (sum_held x.p y.p h.left.p_small h.right.p_small h.total.p_small)
      (sum_held x.q y.q h.left.q_small h.right.q_small h.total.q_small)

-- ---- differences
module _ (x y : ℤ) (hx : nat_abs x ≤ 2 ^ 62) (hy : nat_abs y ≤ 2 ^ 62) (hd : nat_abs (x -ℤ y) ≤ 2 ^ 62) where
  difference_is : held w64 x -ℤ held w64 y ≡ x -ℤ y
  difference_is = ap₂ ◌-ℤ◌ (back x hx) (back y hy)

  pub difference_fits : SFits w64 (held w64 x -ℤ held w64 y)
  difference_fits = rw difference_is (fits (x -ℤ y) hd)

  pub difference_held : held w64 (held w64 x -ℤ held w64 y) ≡ x -ℤ y
  difference_held = to_z-of_z difference_fits ∙ difference_is

pub record Subtractable (x y : Exact.Root ℤ) : Type 0 where
  pub left : Up (2 ^ 62) x
  pub right : Up (2 ^ 62) y
  pub rest : Up (2 ^ 62) (sub_r ints x y)

module _ (x y : Root) (h : Subtractable (root x) (root y)) where
  pub p_less : SFits w64 (held w64 x.p -ℤ held w64 y.p)
  p_less = difference_fits x.p y.p h.left.p_small h.right.p_small h.rest.p_small

  pub q_less : SFits w64 (held w64 x.q -ℤ held w64 y.q)
  q_less = difference_fits x.q y.q h.left.q_small h.right.q_small h.rest.q_small

  pub subtracted : ◌≡◌ {A = Exact.Root ℤ}
      (record { p = held w64 (held w64 x.p -ℤ held w64 y.p); q = held w64 (held w64 x.q -ℤ held w64 y.q) }) (sub_r ints (root x) (root y))
  subtracted =
      root_path
      (difference_held x.p y.p h.left.p_small h.right.p_small h.rest.p_small)
      (difference_held x.q y.q h.left.q_small h.right.q_small h.rest.q_small)

-- ---- negatives
module _ (x : ℤ) (h : nat_abs x ≤ 2 ^ 62) where
  minus_is : pos 0 -ℤ held w64 x ≡ neg_ℤ x
  minus_is = ap (λ y. pos 0 -ℤ y) (back x h) ∙ +ℤ_idl (neg_ℤ x)

  minus_fits : SFits w64 (pos 0 -ℤ held w64 x)
  minus_fits = rw minus_is (fits (neg_ℤ x) (rw (nat_abs_neg x) h))

  minus_held : held w64 (pos 0 -ℤ held w64 x) ≡ neg_ℤ x
  minus_held = to_z-of_z minus_fits ∙ minus_is

module _ (x : Root) (h : Up (2 ^ 62) (root x)) where
  pub p_minus : SFits w64 (pos 0 -ℤ held w64 x.p)
  p_minus = minus_fits x.p h.p_small

  pub q_minus : SFits w64 (pos 0 -ℤ held w64 x.q)
  q_minus = minus_fits x.q h.q_small

  pub negated : ◌≡◌ {A = Exact.Root ℤ} (record { p = held w64 (pos 0 -ℤ held w64 x.p); q = held w64 (pos 0 -ℤ held w64 x.q) })
      (neg_r ints (root x))
  negated = root_path (minus_held x.p h.p_small) (minus_held x.q h.q_small)

-- ---- root two times
module _ (x : Root) (h : Up (2 ^ 61) (root x)) where
  twice : nat_abs (x.q +ℤ x.q) ≤ 2 ^ 62
  twice = omega (arith, nat_abs_add x.q x.q, h.q_small)

  pub q_twice : SFits w64 (held w64 x.q +ℤ held w64 x.q)
  q_twice = sum_fits x.q x.q (omega (arith, h.q_small)) (omega (arith, h.q_small)) twice

  pub timed : ◌≡◌ {A = Exact.Root ℤ} (record { p = held w64 (held w64 x.q +ℤ held w64 x.q); q = held w64 x.p }) (times_r ints (root x))
  timed =
      root_path
      (sum_held x.q x.q (omega (arith, h.q_small)) (omega (arith, h.q_small)) twice)
      (back x.p (omega (arith, h.p_small)))

-- ---- divided by root two to the n
pub lift_each : (n : ℕ) (v w : Exact.Vect ℤ) → lift_r n v.x ≡ w.x → lift_r n v.y ≡ w.y → lift_r n v.z ≡ w.z → lift n v ≡ w
lift_each n v w x y z = lift_parts n v ∙ vect_path x y z

shift_is : (m : ℕ) (z : ℤ) → SFits w64 z → held w64 (shr_z (held w64 z) (2 ^ m)) ≡ shr_z z (2 ^ m)
shift_is m z f = rw (to_z-of_z f) (to_z-of_z less)
  where
    less : SFits w64 (shr_z z (2 ^ m))
    less = record { sfits = omega (arith, mag_shr z (2 ^ m), f.sfits) }

module _ (x : Root) (n : ℕ) (fp : SFits w64 x.p) (fq : SFits w64 x.q) (d : DividesR n (root x)) where
  pub divided_even : n % 2 ≡ 0
      → lift_r n (record { p = held w64 (shr_z (held w64 x.p) (2 ^ (n / 2))); q = held w64 (shr_z (held w64 x.q) (2 ^ (n / 2))) }) ≡ root x
  divided_even e =
      ap (lift_r n) (root_path (shift_is (n / 2) x.p fp) (shift_is (n / 2) x.q fq)) ∙ evenly_lift n (n / 2) (root x) (omega arith) d

  pub divided_odd : (n % 2 ≡ 0 → ⊥)
      → lift_r n (record { p = held w64 (shr_z (held w64 x.q) (2 ^ (n / 2))); q = held w64 (shr_z (held w64 x.p) (2 ^ (n / 2 + 1))) }) ≡ root x
  divided_odd e =
      ap (lift_r n)
      (root_path (shift_is (n / 2) x.q fq) (shift_is (n / 2 + 1) x.p fp ∙ ap (λ m. shr_z x.p (2 ^ m)) (add-one (n / 2))))
      ∙ oddly_lift n (n / 2) (root x) (omega (arith, e)) d
