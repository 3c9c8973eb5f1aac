-- Signed machine integers. `Code` is an expression as it stands in a function's body; `ran` is what its last operation hands over, with
-- each operand read back from the bits that it was stored as, which is how the borrow checker states a need. Where each part is within its
-- range by bounds on the arguments, one computed test (`all_fit`), every need of the expression holds (`need_by`), and its value is the
-- exact one (`result_by`). Assumes nothing.
use Rattle.std.specs.Prelude.{◌≡◌, refl, Bool, ◌&&◌, List, ℕ, ◌+◌, ◌*◌, ◌%◌, ◌^◌, ◌≤◌, ◌<◌, T, ltb, get_or, ℤ, pos, negsuc, nat_abs, ◌+ℤ◌, ◌-ℤ◌, ◌*ℤ◌}
use Rattle.std.proofs.Common.{sym, ◌∙◌, ap, ap₂, subst, lt_of_le_of_lt, mul-le-mul, le_refl, arith, ltb→lt, to_z-of_z}
use Rattle.std.specs.Int.Bits.{bit_and}
use Rattle.std.proofs.lemmas.Nat.{and_mask}
use Rattle.std.specs.Int.Signed.{mag}
use Rattle.std.specs.Int.{Width, w64}
use mir.Val.{SFits, hbits, to_z, of_z}
use Rattle.std.proofs.Math.Facts.{and_yes}
use Rattle.exact.specs.Meaning.Number.{ints}
use Rattle.exact.proofs.Whole.Size.{sfits_abs, nat_abs_add, nat_abs_sub, nat_abs_mul, nat_abs_half, Within, within_at}
use Rattle.exact.specs.Whole.Parity.{half}
use Rattle.exact.proofs.Algebra.Solver.{at}

infixl 6 ◌∔◌ ◌∸◌
infixl 7 ◌∗◌
pub data Code : Type 0 where
  arg : ℕ → Code
  lit : ℤ → Code
  ◌∔◌ : Code → Code → Code
  ◌∸◌ : Code → Code → Code
  ◌∗◌ : Code → Code → Code
  halved : Code → Code

-- the number that is meant
abbrev pub value : (ℕ → ℤ) → Code → ℤ
value ρ (arg i) = ρ i
value ρ (lit n) = n
value ρ (a ∔ b) = value ρ a +ℤ value ρ b
value ρ (a ∸ b) = value ρ a -ℤ value ρ b
value ρ (a ∗ b) = value ρ a *ℤ value ρ b
value ρ (halved a) = half (value ρ a)

-- a number, stored and read back
abbrev pub held : Width → ℤ → ℤ
held w z = to_z w (of_z w z)

abbrev pub ran : Width → (ℕ → ℤ) → Code → ℤ
ran w ρ (arg i) = ρ i
ran w ρ (lit n) = n
ran w ρ (a ∔ b) = held w (ran w ρ a) +ℤ held w (ran w ρ b)
ran w ρ (a ∸ b) = held w (ran w ρ a) -ℤ held w (ran w ρ b)
ran w ρ (a ∗ b) = held w (ran w ρ a) *ℤ held w (ran w ρ b)
ran w ρ (halved a) = half (held w (ran w ρ a))

-- ---- a bound on its size, from bounds on the arguments
abbrev pub most : (ℕ → ℕ) → Code → ℕ
most β (arg i) = β i
most β (lit c) = nat_abs c
most β (a ∔ b) = most β a + most β b
most β (a ∸ b) = most β a + most β b
most β (a ∗ b) = most β a * most β b
most β (halved a) = most β a

-- the test: every part is below half the width's power
abbrev pub all_fit : ℕ → (ℕ → ℕ) → Code → Bool
all_fit n β (arg i) = ltb (β i) n
all_fit n β (lit c) = ltb (nat_abs c) n
all_fit n β (a ∔ b) = ltb (most β (a ∔ b)) n && (all_fit n β a && all_fit n β b)
all_fit n β (a ∸ b) = ltb (most β (a ∸ b)) n && (all_fit n β a && all_fit n β b)
all_fit n β (a ∗ b) = ltb (most β (a ∗ b)) n && (all_fit n β a && all_fit n β b)
all_fit n β (halved a) = ltb (most β a) n && all_fit n β a

-- ---- soundness
module _ (w : Width) (ρ : ℕ → ℤ) (β : ℕ → ℕ) (h : (i : ℕ) → nat_abs (ρ i) ≤ β i) where
  within_most : (e : Code) → nat_abs (value ρ e) ≤ most β e
  within_most (arg i) = h i
  within_most (lit c) = le_refl (nat_abs c)
  within_most (a ∔ b) = omega (arith, nat_abs_add (value ρ a) (value ρ b), within_most a, within_most b)
  within_most (a ∸ b) = omega (arith, nat_abs_sub (value ρ a) (value ρ b), within_most a, within_most b)
  within_most (a ∗ b) = rw (nat_abs_mul (value ρ a) (value ρ b)) (mul-le-mul (within_most a) (within_most b))
  within_most (halved a) = omega (arith, nat_abs_half (value ρ a), within_most a)

  abbrev passes : Code → Bool
  passes = all_fit (2 ^ hbits w) β

  small : (e : Code) → T (ltb (most β e) (2 ^ hbits w)) → SFits w (value ρ e)
  small e t = sfits_abs (lt_of_le_of_lt (within_most e) (ltb→lt (most β e) (2 ^ hbits w) t))

  fit : (e : Code) → T (passes e) → SFits w (value ρ e)
  fit (arg i) t = small (arg i) t
  fit (lit c) t = small (lit c) t
  fit (a ∔ b) t = small (a ∔ b) (and_yes (ltb (most β (a ∔ b)) (2 ^ hbits w)) (passes a && passes b) t).0
  fit (a ∸ b) t = small (a ∸ b) (and_yes (ltb (most β (a ∸ b)) (2 ^ hbits w)) (passes a && passes b) t).0
  fit (a ∗ b) t = small (a ∗ b) (and_yes (ltb (most β (a ∗ b)) (2 ^ hbits w)) (passes a && passes b) t).0
  fit (halved a) t = small (halved a) (and_yes (ltb (most β a) (2 ^ hbits w)) (passes a) t).0

  -- a part that is what it should be is so when it is read back
  back : (e : Code) → T (passes e) → ran w ρ e ≡ value ρ e → held w (ran w ρ e) ≡ value ρ e
  back e t p = ap (held w) p ∙ to_z-of_z (fit e t)

  of_two : (n : ℕ) (a b : Code) → T (ltb n (2 ^ hbits w) && (passes a && passes b)) → T (passes a) × T (passes b)
  of_two n a b t = and_yes (passes a) (passes b) (and_yes (ltb n (2 ^ hbits w)) (passes a && passes b) t).1

  pub exact : (e : Code) → T (passes e) → ran w ρ e ≡ value ρ e
  exact (arg i) t = refl
  exact (lit c) t = refl
  exact (a ∔ b) t =
      let u = of_two (most β (a ∔ b)) a b t in
      ap₂ (λ x y. x +ℤ y) (back a u.0 (exact a u.0)) (back b u.1 (exact b u.1))
  exact (a ∸ b) t =
      let u = of_two (most β (a ∸ b)) a b t in
      ap₂ (λ x y. x -ℤ y) (back a u.0 (exact a u.0)) (back b u.1 (exact b u.1))
  exact (a ∗ b) t =
      let u = of_two (most β (a ∗ b)) a b t in
      ap₂ (λ x y. x *ℤ y) (back a u.0 (exact a u.0)) (back b u.1 (exact b u.1))
  exact (halved a) t = let u = (and_yes (ltb (most β a) (2 ^ hbits w)) (passes a) t).1 in ap half (back a u (exact a u))

  pub fits_ran : (e : Code) → T (passes e) → SFits w (ran w ρ e)
  fits_ran e t = subst (SFits w) (sym (exact e t)) (fit e t)

-- ---- how it is called: the arguments' values, a bound on each, and the code
module _ (w : Width) (xs : List ℤ) (bs : List ℕ) (h : Within xs bs) (e : Code) (t : T (all_fit (2 ^ hbits w) (λ i. get_or bs i 0) e)) where
  pub need_by : SFits w (ran w (at ints xs) e)
  need_by = fits_ran w (at ints xs) (λ i. get_or bs i 0) (within_at xs bs h) e t

  pub result_by : held w (ran w (at ints xs) e) ≡ value (at ints xs) e
  result_by = back w (at ints xs) (λ i. get_or bs i 0) (within_at xs bs h) e t (exact w (at ints xs) (λ i. get_or bs i 0) (within_at xs bs h) e t)

-- ---- the lowest bit of a signed number
bits_odd : (z : ℤ) → mag z < 2 ^ 63 → of_z w64 z % 2 ≡ nat_abs z % 2
bits_odd (pos n) h = refl
bits_odd (negsuc n) h = omega arith

pub low_bit : (z : ℤ) → SFits w64 z → bit_and (of_z w64 z) 1 ≡ nat_abs z % 2
low_bit z f = and_mask (of_z w64 z) 1 ∙ bits_odd z f.sfits
