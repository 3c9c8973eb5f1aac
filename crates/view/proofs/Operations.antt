-- A product and a sum of floats by the fractions that they equal, and how far a sum is moved. Assumes nothing.
use mathlib.Core.Path.{◌≡◌, sym, ap, ◌∙◌, subst}
use Prim.Native.Nat.{ℕ, suc, ◌+◌, ◌-◌, ◌*◌, ◌^◌, ◌≤◌, ◌<◌}
use native.Mathlib.Nat.{le_trans, le_of_eq, le_of_lt, add-mul, mul_comm, mul-sub, mul_assoc, mul_right_comm, mul-pos, mul-mul-mul_comm}
use native.Mathlib.Nat.{le_of_mul-le-mul_right, mul-le-mul_right, lt_of_mul-lt-mul_right, mul-lt-mul_of_pos_right}
use native.Mathlib.Omega.{arith}
use mathlib.Core.Bool.{Bool, true, false, not, cond}
use lib.Dec.{T, ltb, ltb→lt, nltb→le}
use lib.Pow.{pow_pos}
use lib.Ieee.{Float, nan, inf, fin, Format, prec, emax, low, up, down, unlike, round, sum, add, mul}
use lib.Ieee.Fits.{down_pos}
use lib.Ieee.Exact.{HasValue}
use lib.Ieee.Scale.{round_same}
use Rattle.view.proofs.Rounding.{Rounded, round_near}

-- ---- the product
pub mul_of : (f : Format) (x y : Float) (s t : Bool) (a c b d : ℕ) → 0 < c → 0 < d → HasValue x s a c → HasValue y t b d
    → mul f x y ≡ round f (unlike s t) (a * b) (c * d)
unfolding mul
mul_of f nan y s t a c b d C D h k = absurd h
mul_of f (inf u) y s t a c b d C D h k = absurd h
mul_of f (fin u m e) nan s t a c b d C D h k = absurd k
mul_of f (fin u m e) (inf v) s t a c b d C D h k = absurd k
mul_of f (fin u m e) (fin v n g) s t a c b d C D h k =
    ap (λ (z : Bool). round f (unlike z v) (m * up e * (n * up g)) (down e * down g)) h.0
    ∙ ap (λ (z : Bool). round f (unlike s z) (m * up e * (n * up g)) (down e * down g)) k.0
    ∙ round_same f (unlike s t) (m * up e * (n * up g)) (down e * down g) (a * b) (c * d) (mul-pos (down_pos e) (down_pos g)) (mul-pos C D)
    (mul-mul-mul_comm (m * up e) (n * up g) c d
    ∙ ap (λ (z : ℕ). z * (n * up g * d)) h.1
    ∙ ap (λ (z : ℕ). a * down e * z) k.1
    ∙ mul-mul-mul_comm a (down e) b (down g))

-- ---- the sum
-- x is within h / 2 of ±a ± b, in units of the format's smallest value
pub record Summed (f : Format) (x : Float) (s : Bool) (a : ℕ) (t : Bool) (b h : ℕ) : Type 0 where
  pub neg : Bool
  pub num : ℕ
  pub value : HasValue x neg num (2 ^ low f)
  pub most : (cond neg 0 num + cond s a 0 + cond t b 0) * 2 ≤ (cond neg num 0 + cond s 0 a + cond t 0 b) * 2 + h
  pub least : (cond neg num 0 + cond s 0 a + cond t 0 b) * 2 ≤ (cond neg 0 num + cond s a 0 + cond t b 0) * 2 + h
  pub bound : num * 2 ≤ (a + b) * 2 + h
  pub kept : ℕ
  pub drop : ℕ
  pub kept_le : kept ≤ 2 ^ prec f
  pub digits : num ≡ kept * 2 ^ drop
  pub multiple : (m n i : ℕ) → a ≡ m * 2 ^ i → b ≡ n * 2 ^ i → (l : ℕ) × (num ≡ l * 2 ^ i)
  -- it is no -0
  pub below_zero : T neg → 0 < num

spread : (x y z : ℕ) → (x - y) * z ≡ x * z - y * z
spread x y z = mul_comm (x - y) z ∙ mul-sub z x y ∙ ap (λ (w : ℕ). w - z * y) (mul_comm z x) ∙ ap (λ (w : ℕ). x * z - w) (mul_comm z y)

less_small : (a b o : ℕ) → a + b < o → a - b < o
less_small a b o h = omega arith

turn : (a b o : ℕ) → a + b < o → b + a < o
turn a b o h = omega arith

-- ±a' / c and ±b' / c are ±a and ±b units
abbrev Same : Format → ℕ → ℕ → ℕ → Type 0
Same f a' c a = a' * 2 ^ low f ≡ a * c

both : (f : Format) (s : Bool) (a' b' c a b k : ℕ) → 0 < c → Same f a' c a → Same f b' c b → a + b < 2 ^ (prec f + k)
    → suc (prec f + k) ≤ low f + suc (emax f)
    → Rounded f (round f s (a' + b') c) s (a + b) (2 ^ k)
both f s a' b' c a b k C p q small room =
    round_near f s (a' + b') c (a + b) k C
    (add-mul a' b' (2 ^ low f) ∙ ap (λ (z : ℕ). z + b' * 2 ^ low f) p ∙ ap (λ (z : ℕ). a * c + z) q ∙ sym (add-mul a b c)) small room

take_off : (f : Format) (s : Bool) (a' b' c a b k : ℕ) → 0 < c → Same f a' c a → Same f b' c b → a + b < 2 ^ (prec f + k)
    → suc (prec f + k) ≤ low f + suc (emax f)
    → Rounded f (round f s (a' - b') c) s (a - b) (2 ^ k)
take_off f s a' b' c a b k C p q small room =
    round_near f s (a' - b') c (a - b) k C
    (spread a' b' (2 ^ low f) ∙ ap (λ (z : ℕ). z - b' * 2 ^ low f) p ∙ ap (λ (z : ℕ). a * c - z) q ∙ sym (spread a b c))
    (less_small a b (2 ^ (prec f + k)) small) room

order : (f : Format) (a' b' c a b : ℕ) → 0 < c → Same f a' c a → Same f b' c b → a' ≤ b' → a ≤ b
order f a' b' c a b C p q h = le_of_mul-le-mul_right (le_trans (le_of_eq (sym p)) (le_trans (mul-le-mul_right (2 ^ low f) h) (le_of_eq q))) C

order_lt : (f : Format) (a' b' c a b : ℕ) → Same f a' c a → Same f b' c b → a' < b' → a < b
order_lt f a' b' c a b p q h =
    lt_of_mul-lt-mul_right c
    (subst (λ (z : ℕ). z < b * c) p (subst (λ (z : ℕ). a' * 2 ^ low f < z) q (mul-lt-mul_of_pos_right h (pow_pos (low f)))))

-- sums and differences of multiples of c
sums : (a b m n c : ℕ) → a ≡ m * c → b ≡ n * c → a + b ≡ (m + n) * c
sums a b m n c e g = ap (λ (z : ℕ). z + b) e ∙ ap (λ (z : ℕ). m * c + z) g ∙ sym (add-mul m n c)

less : (a b m n c : ℕ) → a ≡ m * c → b ≡ n * c → a - b ≡ (m - n) * c
less a b m n c e g = ap (λ (z : ℕ). z - b) e ∙ ap (λ (z : ℕ). m * c - z) g ∙ sym (spread m n c)

-- a rounded ±w that is ±a ± b before it is rounded
summed : (f : Format) (x : Float) (g s t : Bool) (w a b h : ℕ) → cond g 0 w + cond s a 0 + cond t b 0 ≡ cond g w 0 + cond s 0 a + cond t 0 b
    → w ≤ a + b
    → ((m n i : ℕ) → a ≡ m * 2 ^ i → b ≡ n * 2 ^ i → (l : ℕ) × (w ≡ l * 2 ^ i)) → (T g → 0 < w) → Rounded f x g w h → Summed f x s a t b h
summed f x g s t w a b h e l k p r = record {
  neg = g;
  num = r.num;
  value = r.value;
  most = upper g e;
  least = lower g e;
  bound = omega (arith, r.most);
  kept = r.kept;
  drop = r.drop;
  kept_le = r.kept_le;
  digits = r.digits;
  multiple = λ m n i p q. r.multiple (k m n i p q).0 i (k m n i p q).1;
  below_zero = λ t. r.positive (p t);
}
  where
    upper : (g : Bool) → cond g 0 w + cond s a 0 + cond t b 0 ≡ cond g w 0 + cond s 0 a + cond t 0 b
        → (cond g 0 r.num + cond s a 0 + cond t b 0) * 2 ≤ (cond g r.num 0 + cond s 0 a + cond t 0 b) * 2 + h
    upper true e = omega (arith, r.least)
    upper false e = omega (arith, r.most)

    lower : (g : Bool) → cond g 0 w + cond s a 0 + cond t b 0 ≡ cond g w 0 + cond s 0 a + cond t 0 b
        → (cond g r.num 0 + cond s 0 a + cond t 0 b) * 2 ≤ (cond g 0 r.num + cond s a 0 + cond t b 0) * 2 + h
    lower true e = omega (arith, r.most)
    lower false e = omega (arith, r.least)

-- a summand with a minus is no -0
abbrev Whole : Bool → ℕ → Type 0
Whole s a = T s → 0 < a

pub sum_near : (f : Format) (s t : Bool) (a' b' c a b k : ℕ) → Whole s a → Whole t b → 0 < c → Same f a' c a → Same f b' c b
    → a + b < 2 ^ (prec f + k) → suc (prec f + k) ≤ low f + suc (emax f)
    → Summed f (sum f s a' t b' c) s a t b (2 ^ k)
unfolding sum
sum_near f false false a' b' c a b k x y C p q small room =
    summed f (round f false (a' + b') c) false false false (a + b) a b (2 ^ k) (omega arith) (omega arith)
    (λ m n i e g. (m + n, sums a b m n (2 ^ i) e g)) (λ u. absurd u) (both f false a' b' c a b k C p q small room)
sum_near f true true a' b' c a b k x y C p q small room =
    let A : 0 < a = x tt in
    summed f (round f true (a' + b') c) true true true (a + b) a b (2 ^ k) (omega arith) (omega arith)
    (λ m n i e g. (m + n, sums a b m n (2 ^ i) e g)) (λ u. omega arith) (both f true a' b' c a b k C p q small room)
sum_near f false true a' b' c a b k x y C p q small room = go (ltb a' b') (ltb→lt a' b') (nltb→le a' b')
  where
    go : (u : Bool) → (T u → a' < b') → (T (not u) → b' ≤ a')
        → Summed f (cond u (round f true (b' - a') c) (round f false (a' - b') c)) false a true b (2 ^ k)
    go true l g =
        let o : a < b = order_lt f a' b' c a b p q (l tt) in
        summed f (round f true (b' - a') c) true false true (b - a) a b (2 ^ k) (omega arith) (omega arith)
        (λ m n i e h. (n - m, less b a n m (2 ^ i) h e)) (λ u. omega arith)
        (take_off f true b' a' c b a k C q p (turn a b (2 ^ (prec f + k)) small) room)
    go false l g =
        let o : b ≤ a = order f b' a' c b a C q p (g tt) in
        summed f (round f false (a' - b') c) false false true (a - b) a b (2 ^ k) (omega arith) (omega arith)
        (λ m n i e h. (m - n, less a b m n (2 ^ i) e h)) (λ u. absurd u)
        (take_off f false a' b' c a b k C p q small room)
sum_near f true false a' b' c a b k x y C p q small room = go (ltb a' b') (ltb→lt a' b') (nltb→le a' b')
  where
    -- where a' is b', the sum is +0
    rest : (v : Bool) → b ≤ a → (T v → b' < a') → (T (not v) → a' ≤ b') → Summed f (round f v (a' - b') c) true a false b (2 ^ k)
    rest true o j l =
        let d : b < a = order_lt f b' a' c b a q p (j tt) in
        summed f (round f true (a' - b') c) true true false (a - b) a b (2 ^ k) (omega arith) (omega arith)
        (λ m n i e h. (m - n, less a b m n (2 ^ i) e h)) (λ u. omega arith)
        (take_off f true a' b' c a b k C p q small room)
    rest false o j l =
        let d : a ≤ b = order f a' b' c a b C p q (l tt) in
        summed f (round f false (a' - b') c) false true false (a - b) a b (2 ^ k) (omega arith) (omega arith)
        (λ m n i e h. (m - n, less a b m n (2 ^ i) e h)) (λ u. absurd u)
        (take_off f false a' b' c a b k C p q small room)

    go : (u : Bool) → (T u → a' < b') → (T (not u) → b' ≤ a')
        → Summed f (cond u (round f false (b' - a') c) (round f (ltb b' a') (a' - b') c)) true a false b (2 ^ k)
    go true l g =
        let o : a ≤ b = order f a' b' c a b C p q (le_of_lt (l tt)) in
        summed f (round f false (b' - a') c) false true false (b - a) a b (2 ^ k) (omega arith) (omega arith)
        (λ m n i e h. (n - m, less b a n m (2 ^ i) h e)) (λ u. absurd u)
        (take_off f false b' a' c b a k C q p (turn a b (2 ^ (prec f + k)) small) room)
    go false l g = rest (ltb b' a') (order f b' a' c b a C q p (g tt)) (ltb→lt b' a') (nltb→le b' a')

pub add_near : (f : Format) (x y : Float) (s t : Bool) (a b k : ℕ) → Whole s a → Whole t b → HasValue x s a (2 ^ low f)
    → HasValue y t b (2 ^ low f) → a + b < 2 ^ (prec f + k) → suc (prec f + k) ≤ low f + suc (emax f)
    → Summed f (add f x y) s a t b (2 ^ k)
unfolding add
add_near f nan y s t a b k A B h g small room = absurd h
add_near f (inf u) y s t a b k A B h g small room = absurd h
add_near f (fin u m e) nan s t a b k A B h g small room = absurd g
add_near f (fin u m e) (inf v) s t a b k A B h g small room = absurd g
add_near f (fin u m e) (fin v n d) s t a b k A B h g small room =
    let a' = m * up e * down d in
    let b' = n * up d * down e in
    let c = down e * down d in
    let p : Same f a' c a = mul_right_comm (m * up e) (down d) (2 ^ low f) ∙ ap (λ (z : ℕ). z * down d) h.1 ∙ mul_assoc a (down e) (down d) in
    let q : Same f b' c b =
    mul_right_comm (n * up d) (down e) (2 ^ low f)
    ∙ ap (λ (z : ℕ). z * down e) g.1
    ∙ mul_assoc b (down d) (down e)
    ∙ ap (λ (z : ℕ). b * z) (mul_comm (down d) (down e)) in
    subst (λ (z : Bool). Summed f (sum f z a' v b' c) s a t b (2 ^ k)) (sym h.0)
    (subst (λ (z : Bool). Summed f (sum f s a' z b' c) s a t b (2 ^ k)) (sym g.0)
    (sum_near f s t a' b' c a b k A B (mul-pos (down_pos e) (down_pos d)) p q small room))
