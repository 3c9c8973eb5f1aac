-- Sizes of whole numbers: of a sum, a difference and a product by the sizes of their parts, and "fits a signed width" from a size.
-- A bound on an expression is computed from bounds on its variables, so that a sum of products fits by one computed test. Assumes nothing.
use Rattle.std.specs.Prelude.{◌≡◌, refl, List, [], ◌∷◌, ℕ, zero, suc, ◌+◌, ◌*◌, ◌-◌, ◌^◌, ◌≤◌, ◌<◌, T, leb, ltb, get_or, ℤ, pos, negsuc, neg_ℤ, nat_abs, ◌+ℤ◌, ◌-ℤ◌, ◌*ℤ◌}
use Rattle.std.proofs.Common.{mul-le-mul, le_refl, lt_of_le_of_lt, le_trans, arith, leb→le, ltb→lt}
use Rattle.std.proofs.Math.IntN.{sub_ℕ}
use Rattle.std.specs.Int.Signed.{mag}
use Rattle.std.specs.Int.{Width}
use mir.Val.{SFits, hbits}
use Rattle.exact.specs.Meaning.Number.{ints, up, down}
use Rattle.exact.proofs.Algebra.Solver.{Expr, var, con, ◌⊕◌, ◌⊗◌, ⊖, eval, at}
use Rattle.exact.proofs.Whole.Linear.{cond_ind}
use Rattle.exact.specs.Whole.Parity.{half}

-- ---- absolute values
pub nat_abs_parts : (z : ℤ) → nat_abs z ≡ up z + down z
nat_abs_parts (pos n) = omega arith
nat_abs_parts (negsuc n) = omega arith

pub nat_abs_neg : (a : ℤ) → nat_abs (neg_ℤ a) ≡ nat_abs a
nat_abs_neg (pos zero) = refl
nat_abs_neg (pos (suc n)) = refl
nat_abs_neg (negsuc n) = refl

sub_abs : (a b : ℕ) → nat_abs (sub_ℕ a b) ≤ a + b
sub_abs a b = cond_ind (ltb a b) (negsuc (b - suc a)) (pos (a - b)) (λ z. nat_abs z ≤ a + b) (λ t. below (ltb→lt a b t)) (λ t. above)
  where
    below : a < b → suc (b - suc a) ≤ a + b
    below h = omega arith

    above : a - b ≤ a + b
    above = omega arith

pub nat_abs_add : (a b : ℤ) → nat_abs (a +ℤ b) ≤ nat_abs a + nat_abs b
nat_abs_add (pos a) (pos b) = omega arith
nat_abs_add (pos a) (negsuc b) = sub_abs a (suc b)
nat_abs_add (negsuc a) (pos b) = omega (arith, sub_abs b (suc a))
nat_abs_add (negsuc a) (negsuc b) = omega arith

pub nat_abs_sub : (a b : ℤ) → nat_abs (a -ℤ b) ≤ nat_abs a + nat_abs b
nat_abs_sub a b = omega (arith, nat_abs_add a (neg_ℤ b), nat_abs_neg b)

pub nat_abs_mul : (a b : ℤ) → nat_abs (a *ℤ b) ≡ nat_abs a * nat_abs b
nat_abs_mul (pos a) (pos b) = refl
nat_abs_mul (pos a) (negsuc b) = nat_abs_neg (pos (a * suc b))
nat_abs_mul (negsuc a) (pos b) = nat_abs_neg (pos (suc a * b))
nat_abs_mul (negsuc a) (negsuc b) = refl

pub nat_abs_half : (z : ℤ) → nat_abs (half z) ≤ nat_abs z
nat_abs_half (pos n) = omega arith
nat_abs_half (negsuc n) = omega arith

pub mag_abs : (z : ℤ) → mag z ≤ nat_abs z
mag_abs (pos n) = omega arith
mag_abs (negsuc n) = omega arith

pub sfits_abs : {w : Width} {z : ℤ} → nat_abs z < 2 ^ hbits w → SFits w z
sfits_abs {w} {z} h = record { sfits = omega (arith, mag_abs z) }

-- ---- of an expression
abbrev pub bound : (ℕ → ℕ) → Expr → ℕ
bound β (var i) = β i
bound β (con c) = nat_abs c
bound β (a ⊕ b) = bound β a + bound β b
bound β (a ⊗ b) = bound β a * bound β b
bound β (⊖ a) = bound β a

pub bounded : (ρ : ℕ → ℤ) (β : ℕ → ℕ) → ((i : ℕ) → nat_abs (ρ i) ≤ β i) → (e : Expr) → nat_abs (eval ints ρ e) ≤ bound β e
bounded ρ β h (var i) = h i
bounded ρ β h (con c) = le_refl (nat_abs c)
bounded ρ β h (a ⊕ b) = omega (arith, nat_abs_add (eval ints ρ a) (eval ints ρ b), bounded ρ β h a, bounded ρ β h b)
bounded ρ β h (a ⊗ b) = rw (nat_abs_mul (eval ints ρ a) (eval ints ρ b)) (mul-le-mul (bounded ρ β h a) (bounded ρ β h b))
bounded ρ β h (⊖ a) = rw (nat_abs_neg (eval ints ρ a)) (bounded ρ β h a)

-- each integer is within its bound
abbrev pub Within : List ℤ → List ℕ → Type 0
Within [] bs = Unit {0}
Within (x ∷ xs) [] = ⊥
Within (x ∷ xs) (b ∷ bs) = (nat_abs x ≤ b) × Within xs bs

pub within_at : (xs : List ℤ) (bs : List ℕ) → Within xs bs → (i : ℕ) → nat_abs (at ints xs i) ≤ get_or bs i 0
within_at [] bs h i = omega arith
within_at (x ∷ xs) [] h i = absurd h
within_at (x ∷ xs) (b ∷ bs) h zero = h.0
within_at (x ∷ xs) (b ∷ bs) h (suc i) = within_at xs bs h.1 i

module _ (xs : List ℤ) (bs : List ℕ) (h : Within xs bs) (e : Expr) where
  -- the value is at most n in size, where the bound that is computed is
  pub abs_by : (n : ℕ) → T (leb (bound (λ i. get_or bs i 0) e) n) → nat_abs (eval ints (at ints xs) e) ≤ n
  abs_by n t = le_trans (bounded (at ints xs) (λ i. get_or bs i 0) (within_at xs bs h) e) (leb→le (bound (λ i. get_or bs i 0) e) n t)

  -- the value fits a width
  pub fits_by : (w : Width) → T (ltb (bound (λ i. get_or bs i 0) e) (2 ^ hbits w)) → SFits w (eval ints (at ints xs) e)
  fits_by w t =
      sfits_abs
      (lt_of_le_of_lt (bounded (at ints xs) (λ i. get_or bs i 0) (within_at xs bs h) e) (ltb→lt (bound (λ i. get_or bs i 0) e) (2 ^ hbits w) t))
