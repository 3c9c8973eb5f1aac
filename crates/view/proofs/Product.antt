-- A whole number's float times the root-two constant: in units of which 2 ^ s are one it is h, at most half of 2 ^ 1022 from the exact product.
-- Assumes nothing.
use mathlib.Core.Path.{◌≡◌, refl, sym, ap, ◌∙◌, subst}
use mathlib.Core.Bool.{Bool, false}
use Prim.Native.Nat.{ℕ, ◌+◌, ◌-◌, ◌*◌, ◌^◌, ◌≤◌, ◌<◌}
use native.Mathlib.Nat.{mul_assoc, mul-pos}
use lib.IntN.{ℤ, nat_abs}
use lib.Dec.{T, lit≤, lit<}
use lib.Pow.{pow_pos}
use lib.Ieee.{Float, binary64, round, mul}
use lib.Ieee.Exact.{HasValue}
use Rattle.view.specs.Meaning.Near.{root_two, is_neg}
use Rattle.view.proofs.Root.{Rn, root_value}
use Rattle.view.proofs.Casting.{neg_positive}
use Rattle.view.proofs.Rounding.{Rounded, round_near}
use Rattle.view.proofs.Operations.{mul_of}
use Rattle.view.proofs.Units.{unlike_false, whole_power, room, exact, exact_small, pow_up, shift_lt, reach}
use Rattle.view.proofs.Error.{cancel_one}

rounded_product : (y : Float) (t : Bool) (n s : ℕ) → s ≤ 52 → n ≤ 2 ^ s → HasValue y t n 1
    → Rounded binary64 (mul binary64 y root_two) t (exact n s * 2 ^ s) (2 ^ (s + 1022))
rounded_product y t n s S N hy =
    let is : mul binary64 y root_two ≡ round binary64 t (n * Rn) (1 * 2 ^ 52) =
    mul_of binary64 y root_two t false n 1 Rn (2 ^ 52) (lit< tt) (pow_pos 52) hy root_value
    ∙ ap (λ (z : Bool). round binary64 z (n * Rn) (1 * 2 ^ 52)) (unlike_false t) in
    subst (λ (z : Float). Rounded binary64 z t (exact n s * 2 ^ s) (2 ^ (s + 1022))) (sym is)
    (round_near binary64 t (n * Rn) (1 * 2 ^ 52) (exact n s * 2 ^ s) (s + 1022) (lit< tt)
    (whole n Rn (2 ^ (1022 - s)) (2 ^ s) (2 ^ 1022) (whole_power 1022 s (room s 1022 S (lit≤ tt))))
    (shift_lt (exact n s) s 1075 53 1022 refl (exact_small n s S N)) (reach s 1022 S (lit≤ tt)))
  where
    whole : (n r t q k : ℕ) → t * q ≡ k → n * r * (k * 2 ^ 52) ≡ n * r * t * q * 2 ^ 52
    whole n r t q k e =
        ap (λ (z : ℕ). n * r * (z * 2 ^ 52)) (sym e)
        ∙ sym (mul_assoc (n * r) (t * q) (2 ^ 52))
        ∙ ap (λ (z : ℕ). z * 2 ^ 52) (sym (mul_assoc (n * r) t q))

pub record Product (y : Float) (b : ℤ) (s : ℕ) : Type 0 where
  pub h : ℕ
  pub value : HasValue (mul binary64 y root_two) (is_neg b) (h * 2 ^ s) (2 ^ 1074)
  pub most : h * 2 ≤ exact (nat_abs b) s * 2 + 2 ^ 1022
  pub least : exact (nat_abs b) s * 2 ≤ h * 2 + 2 ^ 1022
  pub below_zero : T (is_neg b) → 0 < h * 2 ^ s

pub product : (y : Float) (b : ℤ) (s : ℕ) → s ≤ 52 → nat_abs b ≤ 2 ^ s → HasValue y (is_neg b) (nat_abs b) 1 → Product y b s
product y b s S B hy =
    let q = 2 ^ s in
    let w = exact (nat_abs b) s in
    let p = rounded_product y (is_neg b) (nat_abs b) s S B hy in
    let m = p.multiple w s refl in
    let up : m.0 * q * 2 ≤ w * q * 2 + 2 ^ (s + 1022) = subst (λ (z : ℕ). z * 2 ≤ w * q * 2 + 2 ^ (s + 1022)) m.1 p.most in
    let dn : w * q * 2 ≤ m.0 * q * 2 + 2 ^ (s + 1022) = subst (λ (z : ℕ). w * q * 2 ≤ z * 2 + 2 ^ (s + 1022)) m.1 p.least in
    record {
      h = m.0;
      value = subst (λ (z : ℕ). HasValue (mul binary64 y root_two) (is_neg b) z (2 ^ 1074)) m.1 p.value;
      most = cancel_one m.0 w (2 ^ 1022) q (pow_pos s) (subst (λ (z : ℕ). m.0 * q * 2 ≤ w * q * 2 + z) (pow_up s 1022) up);
      least = cancel_one w m.0 (2 ^ 1022) q (pow_pos s) (subst (λ (z : ℕ). w * q * 2 ≤ m.0 * q * 2 + z) (pow_up s 1022) dn);
      below_zero = λ t.
          subst (λ (z : ℕ). 0 < z) m.1
          (p.positive (mul-pos (mul-pos (mul-pos (neg_positive b t) (lit< tt)) (pow_pos (1022 - s))) (pow_pos s)));
    }
