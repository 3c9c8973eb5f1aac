-- 2 ^ -s as 1 divided by 2 ^ s: it is the float `half^ s`, whose value is exact. Assumes nothing.
use mathlib.Core.Path.{◌≡◌, refl, sym, ap, ◌∙◌, subst}
use Prim.Native.Nat.{ℕ, ◌-◌, ◌*◌, ◌%◌, ◌^◌, ◌≤◌, ◌<◌}
use native.Mathlib.Nat.{le_trans, lt_irrefl, lt_of_le_of_lt, one-mul, mul_assoc, mul_comm, mul_left_comm, mul-pos, mod-eq_of_lt}
use native.Mathlib.Omega.{arith}
use mathlib.Core.Bool.{Bool, true, false, cond}
use lib.IntN.{pos}
use lib.Dec.{T, eqb, eqb→eq, lit≤, lit<}
use lib.Pow.{pow_pos, pow_mono}
use lib.Ieee.{Float, nan, inf, fin, Format, binary64, up, down, unlike, round, div, of_int, of_bits, in_float}
use lib.Ieee.Fits.{down_pos}
use lib.Ieee.Exact.{HasValue, round_exact}
use lib.Ieee.Positive.{first_pos}
use lib.Ieee.Scale.{round_same}
use Rattle.view.proofs.Casting.{cast_value, in_float_lem}
use Rattle.view.specs.Meaning.Near.{half^}
use Rattle.view.proofs.Units.{whole_power, room}

crossed : (x g c b a d y e : ℕ) → x * c ≡ a * e → y * d ≡ b * g → x * g * (c * b) ≡ a * d * (y * e)
crossed x g c b a d y e h k =
    let l : x * g * (c * b) ≡ x * c * (b * g) = simp (mul_assoc, mul_comm, mul_left_comm) in
    let r : a * e * (y * d) ≡ a * d * (y * e) = simp (mul_assoc, mul_comm, mul_left_comm) in
    l ∙ ap (λ (z : ℕ). z * (b * g)) h ∙ ap (λ (z : ℕ). a * e * z) (sym k) ∙ r

pub div_of : (f : Format) (x y : Float) (s t : Bool) (a c b d : ℕ) → 0 < c → 0 < d → 0 < b → HasValue x s a c → HasValue y t b d
    → div f x y ≡ round f (unlike s t) (a * d) (c * b)
unfolding div
div_of f nan y s t a c b d C D B h k = absurd h
div_of f (inf u) y s t a c b d C D B h k = absurd h
div_of f (fin u m e) nan s t a c b d C D B h k = absurd k
div_of f (fin u m e) (inf v) s t a c b d C D B h k = absurd k
div_of f (fin u m e) (fin v n g) s t a c b d C D B h k =
    let N : 0 < n * up g = first_pos (n * up g) d (subst (λ (z : ℕ). 0 < z) (sym k.1) (mul-pos B (down_pos g))) in
    go (cond (eqb m 0) nan (inf (unlike u v))) (round f (unlike u v) (m * up e * down g) (n * up g * down e)) (eqb n 0) (eqb→eq n 0)
    (first_pos n (up g) N)
    ∙ ap (λ (z : Bool). round f (unlike z v) (m * up e * down g) (n * up g * down e)) h.0
    ∙ ap (λ (z : Bool). round f (unlike s z) (m * up e * down g) (n * up g * down e)) k.0
    ∙ round_same f (unlike s t) (m * up e * down g) (n * up g * down e) (a * d) (c * b) (mul-pos N (down_pos e)) (mul-pos C B)
    (crossed (m * up e) (down g) c b a d (n * up g) (down e) h.1 k.1)
  where
    go : (x y : Float) (q : Bool) → (T q → n ≡ 0) → 0 < n → cond q x y ≡ y
    go x y true z p = absurd (lt_irrefl 0 (subst (λ (w : ℕ). 0 < w) (z tt) p))
    go x y false z p = refl

abbrev pub one : Float
one = of_bits binary64 0x3ff0_0000_0000_0000

one_value : HasValue one false 1 1
unfolding of_bits
one_value = (refl, refl)

pub shifted : (s : ℕ) → s ≤ 52 → 1 * 2 ^ s % 2 ^ 64 ≡ 2 ^ s
shifted s h = ap (λ (z : ℕ). z % 2 ^ 64) (one-mul (2 ^ s)) ∙ mod-eq_of_lt (lt_of_le_of_lt (pow_mono h) (lit< tt))

small : (s : ℕ) → s ≤ 52 → 2 ^ s ≤ 2 ^ 53
small s h = le_trans (pow_mono h) (lit≤ tt)

pub power_casts : (s : ℕ) → s ≤ 52 → T (in_float binary64 (pos (1 * 2 ^ s % 2 ^ 64)))
power_casts s h = subst (λ (z : ℕ). T (in_float binary64 (pos z))) (sym (shifted s h)) (in_float_lem (pos (2 ^ s)) (small s h))

pub power_is : (s : ℕ) → s ≤ 52 → div binary64 one (of_int binary64 (pos (1 * 2 ^ s % 2 ^ 64))) ≡ half^ s
power_is s h =
    ap (λ (z : ℕ). div binary64 one (of_int binary64 (pos z))) (shifted s h)
    ∙ div_of binary64 one (of_int binary64 (pos (2 ^ s))) false false 1 1 (2 ^ s) 1 (lit< tt) (lit< tt) (pow_pos s) one_value
    (cast_value (pos (2 ^ s)) (small s h))
    ∙ ap (λ (z : ℕ). round binary64 false 1 z) (one-mul (2 ^ s))

pub half_value : (s : ℕ) → s ≤ 52 → HasValue (half^ s) false 1 (2 ^ s)
half_value s h =
    let q = 2 ^ s in
    let v = 2 ^ (1074 - s) in
    let e : 1 * 2 ^ 1074 ≡ 1 * v * q = sym (whole_power 1074 s (room s 1074 h (lit≤ tt))) ∙ ap (λ (z : ℕ). z * q) (sym (one-mul v)) in
    let fine : 1 * v < 2 ^ 2098 = subst (λ (z : ℕ). z < 2 ^ 2098) (sym (one-mul v)) (lt_of_le_of_lt (pow_mono {j = 1074} (less s)) (lit< tt)) in
    round_exact binary64 false 1 q 1 (1074 - s) (pow_pos s) (lit< tt) fine e
  where
    less : (s : ℕ) → 1074 - s ≤ 1074
    less s = omega arith
