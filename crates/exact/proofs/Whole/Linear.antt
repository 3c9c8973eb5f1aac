-- Linear arithmetic over ℤ, handed to `omega`. An integer z is `up z - down z`, two natural numbers of which one is 0. An order, an
-- equation or a range of integers is one of those numbers, which `omega` reads:
--     omega (arith, int, sum a b, difference c d, range a)
-- with a `sum`, `difference` or `negation` for each that the goal or a hypothesis has, and a `range` for each integer of which an `SFits` is
-- to be used. `int` reads `≡`, `≤ℤ` and `<ℤ` among the hypotheses, and proves such a goal, and `SFits`. `omega` stops at six splits, so
-- where a goal `SFits` meets that bound, write `fits (omega (arith, ..))`, which splits nothing.
-- Assumes nothing.
use Rattle.std.specs.Prelude.{◌≡◌, refl, Bool, true, false, not, cond, ℕ, zero, suc, ◌+◌, ◌-◌, ◌^◌, ◌≤◌, ◌<◌, max, pred, T, ltb, ℤ, pos, negsuc, neg_ℤ, ◌+ℤ◌, ◌-ℤ◌, ◌≤ℤ◌, ◌<ℤ◌}
use Rattle.std.proofs.Common.{ap, arith, leb→le, le→leb, ltb→lt, lt→ltb, nltb→le}
use Rattle.std.proofs.Math.IntN.{sub_ℕ}
use Rattle.std.specs.Int.Signed.{le_z, lt_z, mag}
use Rattle.std.specs.Int.{Width}
use mir.Val.{SFits, hbits}
use Rattle.exact.specs.Meaning.Number.{up, down}

-- ---- sums
pub cond_ind : (c : Bool) (x y : ℤ) (P : ℤ → Type 0) → (T c → P x) → (T (not c) → P y) → P (cond c x y)
cond_ind true x y P f g = f tt
cond_ind false x y P f g = g tt

sub_parts : (a b : ℕ) → up (sub_ℕ a b) + b ≡ a + down (sub_ℕ a b)
sub_parts a b =
    cond_ind (ltb a b) (negsuc (b - suc a)) (pos (a - b)) (λ z. up z + b ≡ a + down z)
    (λ t. below (ltb→lt a b t))
    (λ t. above (nltb→le a b t))
  where
    below : a < b → 0 + b ≡ a + suc (b - suc a)
    below h = omega arith

    above : b ≤ a → a - b + b ≡ a + 0
    above h = omega arith

sum_is : (a b : ℤ) → up (a +ℤ b) + (down a + down b) ≡ up a + up b + down (a +ℤ b)
sum_is (pos a) (pos b) = omega arith
sum_is (pos a) (negsuc b) = omega (arith, sub_parts a (suc b))
sum_is (negsuc a) (pos b) = omega (arith, sub_parts b (suc a))
sum_is (negsuc a) (negsuc b) = omega arith

sub_up : (a b : ℕ) → up (sub_ℕ a b) ≤ a
sub_up a b = cond_ind (ltb a b) (negsuc (b - suc a)) (pos (a - b)) (λ z. up z ≤ a) (λ t. omega arith) (λ t. omega arith)

sum_up : (a b : ℤ) → up (a +ℤ b) ≤ up a + up b
sum_up (pos a) (pos b) = omega arith
sum_up (pos a) (negsuc b) = omega (arith, sub_up a (suc b))
sum_up (negsuc a) (pos b) = omega (arith, sub_up b (suc a))
sum_up (negsuc a) (negsuc b) = omega arith

-- what `omega` is told of a sum and of a difference: its two parts differ as they should, and neither is more than the summands give
pub record Sum (u d u₁ d₁ u₂ d₂ : ℕ) : Type 0 where
  pub is : u + (d₁ + d₂) ≡ u₁ + u₂ + d
  pub up_le : u ≤ u₁ + u₂
  pub down_le : d ≤ d₁ + d₂

pub sum : (a b : ℤ) → Sum (up (a +ℤ b)) (down (a +ℤ b)) (up a) (down a) (up b) (down b)
sum a b = record { is = sum_is a b; up_le = sum_up a b; down_le = omega (arith, sum_is a b, sum_up a b) }

up_neg : (a : ℤ) → up (neg_ℤ a) ≡ down a
up_neg (pos zero) = refl
up_neg (pos (suc n)) = refl
up_neg (negsuc n) = refl

down_neg : (a : ℤ) → down (neg_ℤ a) ≡ up a
down_neg (pos zero) = refl
down_neg (pos (suc n)) = refl
down_neg (negsuc n) = refl

pub difference : (a b : ℤ) → Sum (up (a -ℤ b)) (down (a -ℤ b)) (up a) (down a) (down b) (up b)
difference a b = rw (← up_neg b, ← down_neg b) (sum a (neg_ℤ b))

pub negation : (a : ℤ) → (up (neg_ℤ a) ≡ down a) × (down (neg_ℤ a) ≡ up a)
negation a = (up_neg a, down_neg a)

-- ---- orders and ranges
pub ≤ℤ→ : {a b : ℤ} → a ≤ℤ b → up a + down b ≤ up b + down a
≤ℤ→ {a} {b} h = go a b h.le
  where
    go : (a b : ℤ) → T (le_z a b) → up a + down b ≤ up b + down a
    go (pos a) (pos b) t = omega (arith, leb→le a b t)
    go (pos a) (negsuc b) t = absurd t
    go (negsuc a) (pos b) t = omega arith
    go (negsuc a) (negsuc b) t = omega (arith, leb→le b a t)

pub ≤ℤ← : {a b : ℤ} → up a + down b ≤ up b + down a → a ≤ℤ b
≤ℤ← {a} {b} h = record { le = go a b h }
  where
    go : (a b : ℤ) → up a + down b ≤ up b + down a → T (le_z a b)
    go (pos a) (pos b) h = le→leb a b (omega arith)
    go (pos a) (negsuc b) h = omega arith
    go (negsuc a) (pos b) h = tt
    go (negsuc a) (negsuc b) h = le→leb b a (omega arith)

pub <ℤ→ : {a b : ℤ} → a <ℤ b → up a + down b < up b + down a
<ℤ→ {a} {b} h = go a b h.lt
  where
    go : (a b : ℤ) → T (lt_z a b) → up a + down b < up b + down a
    go (pos a) (pos b) t = omega (arith, ltb→lt a b t)
    go (pos a) (negsuc b) t = absurd t
    go (negsuc a) (pos b) t = omega arith
    go (negsuc a) (negsuc b) t = omega (arith, ltb→lt b a t)

pub <ℤ← : {a b : ℤ} → up a + down b < up b + down a → a <ℤ b
<ℤ← {a} {b} h = record { lt = go a b h }
  where
    go : (a b : ℤ) → up a + down b < up b + down a → T (lt_z a b)
    go (pos a) (pos b) h = lt→ltb a b (omega arith)
    go (pos a) (negsuc b) h = omega arith
    go (negsuc a) (pos b) h = tt
    go (negsuc a) (negsuc b) h = lt→ltb b a (omega arith)

pub ≡ℤ→ : {a b : ℤ} → a ≡ b → up a + down b ≡ up b + down a
≡ℤ→ {a} {b} e = rw e

pub ≡ℤ← : {a b : ℤ} → up a + down b ≡ up b + down a → a ≡ b
≡ℤ← {a} {b} h = go a b h
  where
    go : (a b : ℤ) → up a + down b ≡ up b + down a → a ≡ b
    go (pos a) (pos b) h = ap pos (omega arith)
    go (pos a) (negsuc b) h = absurd (omega arith)
    go (negsuc a) (pos b) h = absurd (omega arith)
    go (negsuc a) (negsuc b) h = ap negsuc (omega arith)

-- what `omega` is told of an integer that fits a width: `SFits` bounds its `mag`
pub range : (z : ℤ) → (up z ≤ mag z) × (down z ≤ suc (mag z))
range (pos n) = omega arith
range (negsuc n) = omega arith

-- z fits a width where the upper part is below half the width's power, and the lower at most that
pub fits : {w : Width} {z : ℤ} → (up z < 2 ^ hbits w) × (down z ≤ 2 ^ hbits w) → SFits w z
fits {w} {z} h = record { sfits = go z h }
  where
    go : (z : ℤ) → (up z < 2 ^ hbits w) × (down z ≤ 2 ^ hbits w) → mag z < 2 ^ hbits w
    go (pos n) h = h.0
    go (negsuc n) h = h.1

pub SFits← : {w : Width} {z : ℤ} → max (up z) (pred (down z)) < 2 ^ hbits w → SFits w z
SFits← {w} {z} h = fits (omega arith)

pub ruleset int = (≡ℤ→, ≡ℤ←, ≤ℤ→, ≤ℤ←, <ℤ→, <ℤ←, SFits←)
