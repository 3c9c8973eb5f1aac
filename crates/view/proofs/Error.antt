-- The error in whole numbers: from a bracket of root two by two fractions to an order against multiples of root two, and the error of the whole.
-- Assumes nothing.
use mathlib.Core.Path.{◌≡◌, refl, sym, ap, ◌∙◌, subst}
use mathlib.Core.Bool.{Bool, true, false, cond}
use Prim.Native.Nat.{ℕ, suc, ◌+◌, ◌-◌, ◌*◌, ◌^◌, ◌≤◌, ◌<◌, zero-le}
use native.Mathlib.Nat.{le_trans, le_of_eq, zero-mul, add-mul, mul_assoc, mul_comm, mul_right_comm, mul-le-mul, mul-le-mul_left, le_of_mul-le-mul_right}
use native.Mathlib.Nat.{mul-mul-mul_comm}
use native.Mathlib.Omega.{arith}
use lib.IntN.{ℤ, pos, negsuc, nat_abs}
use lib.Dec.{lit≤, lit<}
use Rattle.exact.specs.Meaning.Number.{up, down}
use Rattle.view.specs.Meaning.Near.{is_neg}
use Rattle.view.proofs.Root.{Rn}

-- p - p' ≤ (q - q') * √2, where the subtraction of ℕ stops at 0
pub record Below (p p' q q' : ℕ) : Type 0 where
  pub upper : (p - p') * (p - p') ≤ 2 * ((q - q') * (q - q'))
  pub lower : 2 * ((q' - q) * (q' - q)) ≤ (p' - p) * (p' - p)

pub loosen : (p p' p'' q q' : ℕ) → p' ≤ p'' → Below p p' q q' → Below p p'' q q'
loosen p p' p'' q q' h b = record {
  upper = le_trans (mul-le-mul (fewer p p' p'' h) (fewer p p' p'' h)) b.upper;
  lower = le_trans b.lower (mul-le-mul (more p p' p'' h) (more p p' p'' h));
}
  where
    fewer : (p p' p'' : ℕ) → p' ≤ p'' → p - p'' ≤ p - p'
    fewer p p' p'' h = omega arith

    more : (p p' p'' : ℕ) → p' ≤ p'' → p' - p ≤ p'' - p
    more p p' p'' h = omega arith

-- L / K ≤ √2 ≤ H / K, and H / K is the root-two constant
abbrev pub K : ℕ
K = 2 ^ 53

abbrev pub H : ℕ
H = 2 * Rn

abbrev pub L : ℕ
L = H - 1

square : (d q k l : ℕ) → d * k ≤ q * l → d * d * (k * k) ≤ q * q * (l * l)
square d q k l h = le_trans (le_of_eq (mul-mul-mul_comm d d k k)) (le_trans (mul-le-mul h h) (le_of_eq (mul-mul-mul_comm q l q l)))

low_root : (d q : ℕ) → d * K ≤ q * L → d * d ≤ 2 * (q * q)
low_root d q h =
    le_of_mul-le-mul_right
    (le_trans (square d q K L h)
    (le_trans (mul-le-mul_left (q * q) (lit≤ {m = L * L} {n = 2 * (K * K)} tt))
    (le_of_eq (sym (mul_assoc (q * q) 2 (K * K)) ∙ ap (λ (z : ℕ). z * (K * K)) (mul_comm (q * q) 2)))))
    (lit< {m = 0} {n = K * K} tt)

high_root : (d q : ℕ) → q * H ≤ d * K → 2 * (q * q) ≤ d * d
high_root d q h =
    le_of_mul-le-mul_right
    (le_trans (le_of_eq (ap (λ (z : ℕ). z * (K * K)) (mul_comm 2 (q * q)) ∙ mul_assoc (q * q) 2 (K * K)))
    (le_trans (mul-le-mul_left (q * q) (lit≤ {m = 2 * (K * K)} {n = H * H} tt)) (square q d H K h)))
    (lit< {m = 0} {n = K * K} tt)

gone : (x y : ℕ) → x ≤ y → x - y ≡ 0
gone x y h = omega arith

pub below_up : (p p' q q' : ℕ) → q' ≡ 0 → p * K ≤ p' * K + q * L → Below p p' q q'
below_up p p' q q' z h =
    record {
      upper = low_root (p - p') (q - q') (omega arith);
      lower = subst (λ (w : ℕ). 2 * (w * w) ≤ (p' - p) * (p' - p)) (sym (gone q' q (omega arith))) zero-le;
    }

pub below_down : (p p' q q' : ℕ) → q ≡ 0 → p * K + q' * H ≤ p' * K → Below p p' q q'
below_down p p' q q' z h =
    record {
      upper = subst (λ (w : ℕ). w * w ≤ 2 * ((q - q') * (q - q'))) (sym (gone p p' (omega arith))) zero-le;
      lower = high_root (p' - p) (q' - q) (omega arith);
    }

-- P - M is the result less the whole part, y the other part without its √2, w = y * H / K, h is w rounded, and u is 2 ^ 1021
pub core_most : (P M y y' w h u : ℕ) → y' ≡ 0 → w * K ≡ y * H → h ≤ w + u → P ≤ M + h + 2 * u → y ≤ u * K → Below P (M + 4 * u) y y'
core_most P M y y' w h u z e a b c = below_up P (M + 4 * u) y y' z (omega arith)

pub core_least : (P M y y' w h u : ℕ) → y' ≡ 0 → w * K ≡ y * H → w ≤ h + u → M + h ≤ P + 2 * u → Below M (P + 4 * u) y' y
core_least P M y y' w h u z e a b = below_down M (P + 4 * u) y' y z (omega arith)

pub sum_small : (x h w o : ℕ) → 0 < o → x ≤ o * 2 ^ 53 → h * 2 ≤ w * 2 + o * 2 → w < o * 2 ^ 54 → x + h < o * 2 ^ 55
sum_small x h w o O a b c = omega arith

pub halve : (h w o : ℕ) → h * 2 ≤ w * 2 + o * 2 → h ≤ w + o
halve h w o a = omega arith

-- the result is gp - gm, the whole part xp - xm, the other part y > 0 without its √2, and o is 2 ^ 1021
plus : (gp gm xp xm y y' w h o : ℕ) → y' ≡ 0 → w * K ≡ y * H → h ≤ w + o → w ≤ h + o → (gp + xm + 0) * 2 ≤ (gm + xp + h) * 2 + o * 4
    → (gm + xp + h) * 2 ≤ (gp + xm + 0) * 2 + o * 4 → y ≤ o * K
    → Below (gp + xm) (gm + xp + 4 * o) y y' × Below (gm + xp) (gp + xm + 4 * o) y' y
plus gp gm xp xm y y' w h o z e a b m l c = (
  core_most (gp + xm) (gm + xp) y y' w h o z e a (first (gp + xm) (gm + xp) m) c,
  core_least (gp + xm) (gm + xp) y y' w h o z e b (second (gp + xm) (gm + xp) l),
)
  where
    first : (P M : ℕ) → (P + 0) * 2 ≤ (M + h) * 2 + o * 4 → P ≤ M + h + 2 * o
    first P M k = omega (arith, k)

    second : (P M : ℕ) → (M + h) * 2 ≤ (P + 0) * 2 + o * 4 → M + h ≤ P + 2 * o
    second P M k = omega (arith, k)

abbrev pub Parts : ℕ → ℕ → ℤ → ℤ → ℕ → ℕ → Type 0
Parts gp gm a b v o =
    Below (gp + down a * v) (gm + up a * v + 4 * o) (up b * v) (down b * v) × Below (gm + up a * v) (gp + down a * v + 4 * o) (down b * v) (up b * v)

-- what `Summed` says of the sum, in the parts of a
abbrev pub Facts : ℕ → ℕ → ℕ → ℕ → ℤ → ℕ → ℕ → Type 0
Facts gp gm xp xm b h o =
    ((gp + xm + cond (is_neg b) h 0) * 2 ≤ (gm + xp + cond (is_neg b) 0 h) * 2 + o * 4)
    × ((gm + xp + cond (is_neg b) 0 h) * 2 ≤ (gp + xm + cond (is_neg b) h 0) * 2 + o * 4)

pub join : (gp gm : ℕ) (a b : ℤ) (v w h o : ℕ) → w * K ≡ nat_abs b * v * H → h ≤ w + o → w ≤ h + o
    → Facts gp gm (up a * v) (down a * v) b h o → nat_abs b * v ≤ o * K → Parts gp gm a b v o
join gp gm a (pos n) v w h o e k l f c = plus gp gm (up a * v) (down a * v) (n * v) (0 * v) w h o (zero-mul v) e k l f.0 f.1 c
join gp gm a (negsuc n) v w h o e k l f c =
    let r = plus gm gp (down a * v) (up a * v) (suc n * v) (0 * v) w h o (zero-mul v) e k l f.1 f.0 c in (r.1, r.0)

-- the parts of a, by its sign
pub up_is : (a : ℤ) (v : ℕ) → cond (is_neg a) 0 (nat_abs a * v) ≡ up a * v
up_is (pos n) v = refl
up_is (negsuc n) v = sym (zero-mul v)

pub down_is : (a : ℤ) (v : ℕ) → cond (is_neg a) (nat_abs a * v) 0 ≡ down a * v
down_is (pos n) v = sym (zero-mul v)
down_is (negsuc n) v = refl

-- ---- a common factor goes
abbrev pub Most : Bool → Bool → Bool → ℕ → ℕ → ℕ → ℕ → Type 0
Most g s t n x h o = (cond g 0 n + cond s x 0 + cond t h 0) * 2 ≤ (cond g n 0 + cond s 0 x + cond t 0 h) * 2 + o

abbrev pub Least : Bool → Bool → Bool → ℕ → ℕ → ℕ → ℕ → Type 0
Least g s t n x h o = (cond g n 0 + cond s 0 x + cond t 0 h) * 2 ≤ (cond g 0 n + cond s x 0 + cond t h 0) * 2 + o

low_part : (c : Bool) (x q : ℕ) → cond c 0 (x * q) ≡ cond c 0 x * q
low_part true x q = sym (zero-mul q)
low_part false x q = refl

high_part : (c : Bool) (x q : ℕ) → cond c (x * q) 0 ≡ cond c x 0 * q
high_part true x q = refl
high_part false x q = sym (zero-mul q)

cancel : (A B C D E F o q : ℕ) → 0 < q → (A * q + B * q + C * q) * 2 ≤ (D * q + E * q + F * q) * 2 + o * q → (A + B + C) * 2 ≤ (D + E + F) * 2 + o
cancel A B C D E F o q Q h =
    le_of_mul-le-mul_right
    (le_trans (le_of_eq (spread A B C)) (le_trans h (le_of_eq (sym (add-mul ((D + E + F) * 2) o q ∙ ap (λ (z : ℕ). z + o * q) (spread D E F))))))
    Q
  where
    spread : (x y z : ℕ) → (x + y + z) * 2 * q ≡ (x * q + y * q + z * q) * 2
    spread x y z = mul_right_comm (x + y + z) 2 q ∙ ap (λ (w : ℕ). w * 2) (add-mul (x + y) z q ∙ ap (λ (w : ℕ). w + z * q) (add-mul x y q))

pub unscale_most : (g s t : Bool) (n x h o q : ℕ) → 0 < q → Most g s t (n * q) (x * q) (h * q) (o * q) → Most g s t n x h o
unscale_most g s t n x h o q Q k =
    cancel (cond g 0 n) (cond s x 0) (cond t h 0) (cond g n 0) (cond s 0 x) (cond t 0 h) o q Q
    (omega (arith, k, low_part g n q, high_part g n q, low_part s x q, high_part s x q, low_part t h q, high_part t h q))

pub unscale_least : (g s t : Bool) (n x h o q : ℕ) → 0 < q → Least g s t (n * q) (x * q) (h * q) (o * q) → Least g s t n x h o
unscale_least g s t n x h o q Q k =
    cancel (cond g n 0) (cond s 0 x) (cond t 0 h) (cond g 0 n) (cond s x 0) (cond t h 0) o q Q
    (omega (arith, k, low_part g n q, high_part g n q, low_part s x q, high_part s x q, low_part t h q, high_part t h q))

pub cancel_one : (h w o q : ℕ) → 0 < q → h * q * 2 ≤ w * q * 2 + o * q → h * 2 ≤ w * 2 + o
cancel_one h w o q Q k =
    le_of_mul-le-mul_right
    (le_trans (le_of_eq (mul_right_comm h 2 q))
    (le_trans k (le_of_eq (sym (add-mul (w * 2) o q ∙ ap (λ (z : ℕ). z + o * q) (mul_right_comm w 2 q)))))) Q
