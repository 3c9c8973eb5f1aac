-- Parities of whole numbers: of a sum, a negative, a product; and the half of an even number. Assumes nothing.
use Rattle.std.specs.Prelude.{◌≡◌, refl, Bool, true, false, not, cond, ◌&&◌, ℕ, zero, suc, ◌+◌, ◌%◌, ◌<◌, eqb, ℤ, pos, negsuc, neg_ℤ, nat_abs, ◌+ℤ◌, ◌-ℤ◌, ◌*ℤ◌}
use Rattle.std.proofs.Common.{sym, ◌∙◌, ap, arith, eqb-true}
use Rattle.std.proofs.Math.Bool.{not-not}
use Rattle.std.proofs.lemmas.Bool.{eqb-false}
use Rattle.std.proofs.Math.IntN.{suc_ℤ, pred_ℤ, +ℤ_idl, suc_ℤ-+ℤ, pred_ℤ-+ℤ, zero-*ℤ, suc_ℤ-*ℤ, pred_ℤ-*ℤ}
use Rattle.exact.specs.Meaning.Number.{odd, bit, up, down}
use Rattle.exact.proofs.Whole.Laws.{ℤ_steps}
use Rattle.exact.proofs.Whole.Linear.{int}
use Rattle.exact.proofs.Whole.Linear.{sum, difference}
use Rattle.exact.specs.Whole.Parity.{half}

-- ---- one or the other
abbrev pub xr : Bool → Bool → Bool
xr true b = not b
xr false b = b

not_xr : (a b : Bool) → not (xr a b) ≡ xr (not a) b
not_xr true b = not-not b
not_xr false b = refl

pub xr_self : (a : Bool) → xr a a ≡ false
xr_self true = refl
xr_self false = refl

pub xr_comm : (a b : Bool) → xr a b ≡ xr b a
xr_comm true true = refl
xr_comm true false = refl
xr_comm false true = refl
xr_comm false false = refl

pub xr_false : (a : Bool) → xr a false ≡ a
xr_false true = refl
xr_false false = refl

xr_and : (a b : Bool) → xr (a && b) b ≡ not a && b
xr_and true true = refl
xr_and true false = refl
xr_and false true = refl
xr_and false false = refl

pub false_true : false ≡ true → ⊥
false_true e = let z : ◌≡◌ {A = ℕ} 0 1 = ap (λ b. cond b 1 0) e in omega arith

-- ---- parity in steps of one
abbrev odd_n : ℕ → Bool
odd_n zero = false
odd_n (suc n) = not (odd_n n)

abbrev odd_u : ℤ → Bool
odd_u (pos n) = odd_n n
odd_u (negsuc n) = not (odd_n n)

counted : (n : ℕ) → eqb (n % 2) 1 ≡ odd_n n
counted zero = refl
counted (suc zero) = refl
counted (suc (suc n)) = ap (λ m. eqb m 1) two ∙ counted n ∙ sym (not-not (odd_n n))
  where
    two : suc (suc n) % 2 ≡ n % 2
    two = omega arith

odd_counted : (k : ℤ) → odd k ≡ odd_u k
odd_counted (pos n) = counted n
odd_counted (negsuc n) = counted (suc n)

suc_counted : (k : ℤ) → odd_u (suc_ℤ k) ≡ not (odd_u k)
suc_counted (pos n) = refl
suc_counted (negsuc zero) = refl
suc_counted (negsuc (suc n)) = sym (not-not (not (odd_n n)))

pred_counted : (k : ℤ) → odd_u (pred_ℤ k) ≡ not (odd_u k)
pred_counted (pos zero) = refl
pred_counted (pos (suc n)) = sym (not-not (odd_n n))
pred_counted (negsuc n) = refl

odd_suc : (k : ℤ) → odd (suc_ℤ k) ≡ not (odd k)
odd_suc k = odd_counted (suc_ℤ k) ∙ suc_counted k ∙ ap not (sym (odd_counted k))

odd_pred : (k : ℤ) → odd (pred_ℤ k) ≡ not (odd k)
odd_pred k = odd_counted (pred_ℤ k) ∙ pred_counted k ∙ ap not (sym (odd_counted k))

-- ---- of sums, negatives and products
pub odd_add : (a b : ℤ) → odd (a +ℤ b) ≡ xr (odd a) (odd b)
odd_add a b =
    ℤ_steps (λ k. odd (k +ℤ b) ≡ xr (odd k) (odd b))
    (ap odd (+ℤ_idl b))
    (λ k h. ap odd (suc_ℤ-+ℤ k b) ∙ odd_suc (k +ℤ b) ∙ ap not h ∙ not_xr (odd k) (odd b) ∙ ap (λ c. xr c (odd b)) (sym (odd_suc k)))
    (λ k h. ap odd (pred_ℤ-+ℤ k b) ∙ odd_pred (k +ℤ b) ∙ ap not h ∙ not_xr (odd k) (odd b) ∙ ap (λ c. xr c (odd b)) (sym (odd_pred k)))
    a

pub odd_neg : (a : ℤ) → odd (neg_ℤ a) ≡ odd a
odd_neg (pos zero) = refl
odd_neg (pos (suc n)) = refl
odd_neg (negsuc n) = refl

pub odd_sub : (a b : ℤ) → odd (a -ℤ b) ≡ xr (odd a) (odd b)
odd_sub a b = odd_add a (neg_ℤ b) ∙ ap (xr (odd a)) (odd_neg b)

pub odd_double : (a : ℤ) → odd (a +ℤ a) ≡ false
odd_double a = odd_add a a ∙ xr_self (odd a)

pub odd_mul : (a b : ℤ) → odd (a *ℤ b) ≡ odd a && odd b
odd_mul a b =
    ℤ_steps (λ k. odd (k *ℤ b) ≡ odd k && odd b)
    (ap odd (zero-*ℤ b))
    (λ k h. ap odd (suc_ℤ-*ℤ k b) ∙ odd_add (k *ℤ b) b ∙ ap (λ c. xr c (odd b)) h ∙ xr_and (odd k) (odd b) ∙ ap (λ c. c && odd b) (sym (odd_suc k)))
    (λ k h. ap odd (pred_ℤ-*ℤ k b) ∙ odd_sub (k *ℤ b) b ∙ ap (λ c. xr c (odd b)) h ∙ xr_and (odd k) (odd b) ∙ ap (λ c. c && odd b) (sym (odd_pred k)))
    a

-- ---- as a number
pub bit_odd : (z : ℤ) → bit (odd z) ≡ nat_abs z % 2
bit_odd z = go (odd z) refl
  where
    go : (b : Bool) → odd z ≡ b → bit b ≡ nat_abs z % 2
    go true e = sym (eqb-true (nat_abs z % 2) 1 e)
    go false e = omega (arith, eqb-false (nat_abs z % 2) 1 e)

-- by the test against 0
pub not_even : (z : ℤ) → not (eqb (nat_abs z % 2) 0) ≡ odd z
not_even z = go (nat_abs z % 2) (omega arith)
  where
    go : (n : ℕ) → n < 2 → not (eqb n 0) ≡ eqb n 1
    go zero h = refl
    go (suc zero) h = refl
    go (suc (suc n)) h = absurd (omega arith)

half_parts : (z : ℤ) → odd z ≡ false → (up (half z) + up (half z) ≡ up z) × (down (half z) + down (half z) ≡ down z)
half_parts (pos n) e = (omega (arith, eqb-false (n % 2) 1 e), refl)
half_parts (negsuc n) e = (refl, omega (arith, eqb-false (suc n % 2) 1 e))

-- an even number is twice its half
pub half_double : (z : ℤ) → odd z ≡ false → half z +ℤ half z ≡ z
half_double z e = omega (arith, int, sum (half z) (half z), half_parts z e)

-- the halves of a sum and a difference: x of x + y and x - y, and y
module _ (x y : ℤ) (e : odd (x +ℤ y) ≡ false) where
  pub odd_other : odd (x -ℤ y) ≡ false
  odd_other = odd_sub x y ∙ sym (odd_add x y) ∙ e

  pub half_plus : half (x +ℤ y) +ℤ half (x -ℤ y) ≡ x
  half_plus =
      omega (
        arith,
        int,
        sum x y,
        difference x y,
        half_double (x +ℤ y) e,
        half_double (x -ℤ y) odd_other,
        sum (half (x +ℤ y)) (half (x +ℤ y)),
        sum (half (x -ℤ y)) (half (x -ℤ y)),
        sum (half (x +ℤ y)) (half (x -ℤ y)),
      )

  pub half_minus : half (x +ℤ y) -ℤ half (x -ℤ y) ≡ y
  half_minus =
      omega (
        arith,
        int,
        sum x y,
        difference x y,
        half_double (x +ℤ y) e,
        half_double (x -ℤ y) odd_other,
        sum (half (x +ℤ y)) (half (x +ℤ y)),
        sum (half (x -ℤ y)) (half (x -ℤ y)),
        difference (half (x +ℤ y)) (half (x -ℤ y)),
      )

-- two numbers with one double are one
pub halved : (a b : ℤ) → a +ℤ a ≡ b +ℤ b → a ≡ b
halved a b e = omega (arith, int, sum a a, sum b b)
