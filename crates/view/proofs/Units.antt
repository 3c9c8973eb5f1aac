-- Values in units of 2 to the -1074: powers of two, the product by the root-two constant, and the scaling by 2 to the -s, which is exact.
-- Assumes nothing.
use mathlib.Core.Path.{◌≡◌, refl, sym, ap, ◌∙◌, subst}
use mathlib.Core.Logic.{◌⊎◌, inl, inr}
use mathlib.Core.Bool.{Bool, true, false, not}
use Prim.Native.Nat.{ℕ, suc, ◌+◌, ◌-◌, ◌*◌, ◌^◌, ◌≤◌, ◌<◌}
use native.Mathlib.Nat.{le_trans, le_of_eq, lt_of_le_of_lt, eq-or-lt_of_le, mul-one, mul_assoc, mul_comm, mul_right_comm, mul-le-mul_left}
use native.Mathlib.Nat.{mul-le-mul_right, lt_of_mul-lt-mul_right, mul-pos, eq_of_mul-eq-mul_right}
use native.Mathlib.Omega.{arith}
use lib.Dec.{T, leb, leb→le, nleb→lt, lit≤, lit<}
use lib.Pow.{pow-add, pow_pos, pow-lt, shl_lt}
use lib.Ieee.{Float, nan, inf, fin, binary64, up, down, unlike, round, mul}
use lib.Ieee.Exact.{HasValue, round_exact}
use Rattle.view.proofs.Root.{Rn}
use Rattle.view.proofs.Rounding.{power_split}
use Rattle.view.proofs.Operations.{mul_of}

pub rescale : (x : Float) (s : Bool) (a c b d : ℕ) → 0 < c → a * d ≡ b * c → HasValue x s a c → HasValue x s b d
rescale nan s a c b d C h v = v
rescale (inf t) s a c b d C h v = v
rescale (fin t m e) s a c b d C h v = (
  v.0,
  eq_of_mul-eq-mul_right c C (m * up e * d) (b * down e)
      (mul_right_comm (m * up e) d c
      ∙ ap (λ (x : ℕ). x * d) v.1
      ∙ mul_right_comm a (down e) d
      ∙ ap (λ (x : ℕ). x * down e) h
      ∙ mul_right_comm b c (down e)),
)

pub unlike_false : (s : Bool) → unlike s false ≡ s
unlike_false true = refl
unlike_false false = refl

-- ---- 2 ^ (1074 - s)
back : (c s : ℕ) → s ≤ c → c - s + s ≡ c
back c s h = omega arith

pub whole_power : (c s : ℕ) → s ≤ c → 2 ^ (c - s) * 2 ^ s ≡ 2 ^ c
whole_power c s h = sym (pow-add 2 (c - s) s) ∙ ap (λ (x : ℕ). 2 ^ x) (back c s h)

-- n / 2 ^ s is at most 1
pub at_most : (c n s : ℕ) → s ≤ c → n ≤ 2 ^ s → n * 2 ^ (c - s) ≤ 2 ^ c
at_most c n s h k = le_trans (mul-le-mul_right (2 ^ (c - s)) k) (le_of_eq (mul_comm (2 ^ s) (2 ^ (c - s)) ∙ whole_power c s h))

pub room : (s c : ℕ) → s ≤ 52 → 52 ≤ c → s ≤ c
room s c h k = omega arith

-- ---- the product by the root-two constant
-- n / 2 ^ s by it, in units, before it is rounded
abbrev pub exact : ℕ → ℕ → ℕ
exact n s = n * Rn * 2 ^ (1022 - s)

split : (s : ℕ) → s ≤ 52 → 2 ^ (1074 - s) ≡ 2 ^ (1022 - s) * 2 ^ 52
split s h = ap (λ (x : ℕ). 2 ^ x) (apart s h) ∙ pow-add 2 (1022 - s) 52
  where
    apart : (s : ℕ) → s ≤ 52 → 1074 - s ≡ 1022 - s + 52
    apart s h = omega arith

pub exact_is : (n s : ℕ) → s ≤ 52 → exact n s * 2 ^ 53 ≡ n * 2 ^ (1074 - s) * (2 * Rn)
exact_is n s h = go (2 ^ (1022 - s)) (2 ^ (1074 - s)) (split s h)
  where
    go : (t v : ℕ) → v ≡ t * 2 ^ 52 → n * Rn * t * 2 ^ 53 ≡ n * v * (2 * Rn)
    go t v e =
        let a : n * Rn * t ≡ n * t * Rn = mul_right_comm n Rn t in
        let b : n * v ≡ n * t * 2 ^ 52 = ap (λ (z : ℕ). n * z) e ∙ sym (mul_assoc n t (2 ^ 52)) in
        omega arith

pub exact_small : (n s : ℕ) → s ≤ 52 → n ≤ 2 ^ s → exact n s < 2 ^ 1075
exact_small n s S N = go (2 ^ (1022 - s)) (2 ^ 1022) (pow_pos 1022) (at_most 1022 n s (room s 1022 S (lit≤ tt)) N)
  where
    -- `omega` takes no number of more than 38 digits, so 2 ^ 1022 is a variable
    go : (t o : ℕ) → 0 < o → n * t ≤ o → n * Rn * t < o * 2 ^ 53
    go t o O h =
        let a : n * Rn * t ≡ n * t * Rn = mul_right_comm n Rn t in
        omega arith

-- ---- n has few digits where n * 2 ^ s has
Short : ℕ → Type 0
Short n = (q : ℕ) × (j : ℕ) × (q < 2 ^ 53) × (n ≡ q * 2 ^ j)

one_more : (n d : ℕ) → n ≡ 2 ^ 53 * 2 ^ d → n ≡ 2 ^ 52 * 2 ^ (1 + d)
one_more n d e =
    let a : 2 ^ (1 + d) ≡ 2 * 2 ^ d = pow-add 2 1 d in
    omega arith

few_digits : (n s k d : ℕ) → n * 2 ^ s ≡ k * 2 ^ d → k ≤ 2 ^ 53 → Short n
unfolding Short
few_digits n s k d e l = go (leb s d) (leb→le s d) (nleb→lt s d)
  where
    full : (k ≡ 2 ^ 53) ⊎ (k < 2 ^ 53) → n ≡ k * 2 ^ (d - s) → Short n
    full (inl p) h = (2 ^ 52, 1 + (d - s), lit< tt, one_more n (d - s) (h ∙ ap (λ (x : ℕ). x * 2 ^ (d - s)) p))
    full (inr p) h = (k, d - s, p, h)

    go : (b : Bool) → (T b → s ≤ d) → (T (not b) → d < s) → Short n
    go true a b = full (eq-or-lt_of_le l) (eq_of_mul-eq-mul_right (2 ^ s) (pow_pos s) n (k * 2 ^ (d - s)) (e ∙ power_split k s d (a tt)))
    go false a b =
        let h : n * 2 ^ s ≤ 2 ^ 53 * 2 ^ d = le_trans (le_of_eq e) (mul-le-mul_right (2 ^ d) l) in
        let g : 2 ^ 53 * 2 ^ d < 2 ^ 53 * 2 ^ s = stretch (2 ^ d) (2 ^ s) (pow-lt (b tt)) in
        (n, 0, lt_of_mul-lt-mul_right (2 ^ s) (lt_of_le_of_lt h g), sym (mul-one n))
      where
        stretch : (x y : ℕ) → x < y → 2 ^ 53 * x < 2 ^ 53 * y
        stretch x y h = omega arith

-- ---- the exact scaling of n * 2 ^ s units to n units
pub scale_exact : (x p : Float) (t : Bool) (n s k d : ℕ) → HasValue x t (n * 2 ^ s) (2 ^ 1074) → n * 2 ^ s ≡ k * 2 ^ d → k ≤ 2 ^ 53
    → n < 2 ^ 2098 → HasValue p false 1 (2 ^ s) → HasValue (mul binary64 x p) t n (2 ^ 1074)
unfolding Short
scale_exact x p t n s k d hx e l fine hp =
    let c = 2 ^ s in
    let U = 2 ^ 1074 in
    let z = few_digits n s k d e l in
    let D : 0 < U * c = mul-pos (pow_pos 1074) (pow_pos s) in
    let same : n * c * 1 * U ≡ n * (U * c) = turned n c U in
    let is : mul binary64 x p ≡ round binary64 t (n * c * 1) (U * c) =
    mul_of binary64 x p t false (n * c) U 1 c (pow_pos 1074) (pow_pos s) hx hp
    ∙ ap (λ (b : Bool). round binary64 b (n * c * 1) (U * c)) (unlike_false t) in
    subst (λ (w : Float). HasValue w t n U) (sym is)
    (rescale (round binary64 t (n * c * 1) (U * c)) t (n * c * 1) (U * c) n U D same
    (round_exact binary64 t (n * c * 1) (U * c) z.0 z.1 D z.2 (subst (λ (w : ℕ). w < 2 ^ 2098) z.3 fine)
    (same ∙ ap (λ (w : ℕ). w * (U * c)) z.3)))
  where
    turned : (n c U : ℕ) → n * c * 1 * U ≡ n * (U * c)
    turned n c U = ap (λ (w : ℕ). w * U) (mul-one (n * c)) ∙ mul_assoc n c U ∙ ap (λ (w : ℕ). n * w) (mul_comm c U)

-- ---- exponents
pub pow_up : (s c : ℕ) → 2 ^ (s + c) ≡ 2 ^ c * 2 ^ s
pow_up s c = pow-add 2 s c ∙ mul_comm (2 ^ s) (2 ^ c)

pub shift_lt : (x s c d e : ℕ) → c ≡ d + e → x < 2 ^ c → x * 2 ^ s < 2 ^ (d + (s + e))
shift_lt x s c d e h k = subst (λ (z : ℕ). x * 2 ^ s < 2 ^ z) (around c s d e h) (shl_lt c s k)
  where
    around : (c s d e : ℕ) → c ≡ d + e → c + s ≡ d + (s + e)
    around c s d e h = omega arith

pub reach : (s c : ℕ) → s ≤ 52 → c ≤ 1990 → suc (53 + (s + c)) ≤ 2098
reach s c h k = omega arith

pub self : (n c : ℕ) → 0 < c → n ≤ n * c
self n c h = le_trans (le_of_eq (sym (mul-one n))) (mul-le-mul_left n h)
