-- Whole numbers by a sign and a size, and by their two natural parts: from an order of natural numbers against root two to one of whole numbers.
-- Assumes nothing.
use mathlib.Core.Path.{◌≡◌, refl, ◌∙◌}
use mathlib.Core.Bool.{Bool, true, false, cond}
use Prim.Native.Nat.{ℕ, zero, suc, ◌+◌, ◌-◌, ◌*◌, ◌≤◌, ◌<◌}
use native.Mathlib.Nat.{not-suc-le-zero}
use native.Mathlib.Omega.{arith}
use lib.IntN.{ℤ, pos, negsuc, neg_ℤ, nat_abs, ◌-ℤ◌, ◌*ℤ◌}
use lib.Dec.{T}
use Rattle.exact.specs.Meaning.Number.{up, down}
use Rattle.exact.proofs.Whole.Linear.{difference, negation}
use Rattle.view.specs.Meaning.Near.{is_neg, AtMost}
use Rattle.view.proofs.Error.{Below, loosen, Parts}

-- a sign and a size, where no 0 has a minus
abbrev pub signed : Bool → ℕ → ℤ
signed true n = neg_ℤ (pos n)
signed false n = pos n

pub signed_is : (g : Bool) (n : ℕ) → (T g → 0 < n) → (is_neg (signed g n) ≡ g) × (nat_abs (signed g n) ≡ n)
signed_is true zero h = absurd (not-suc-le-zero (h tt))
signed_is true (suc n) h = (refl, refl)
signed_is false n h = (refl, refl)

-- ---- the two parts
signed_parts : (g : Bool) (n : ℕ) → (up (signed g n) ≡ cond g 0 n) × (down (signed g n) ≡ cond g n 0)
signed_parts true n = negation (pos n)
signed_parts false n = (refl, refl)

times_parts : (a : ℤ) (v : ℕ) → (up (a *ℤ pos v) ≡ up a * v) × (down (a *ℤ pos v) ≡ down a * v)
times_parts (pos n) v = (refl, omega arith)
times_parts (negsuc n) v = ((negation (pos (suc n * v))).0 ∙ omega arith, (negation (pos (suc n * v))).1)

-- those of a whole number that is p - p'
parts_of : (z : ℤ) (p p' : ℕ) → up z + p' ≡ p + down z → (up z ≡ p - p') × (down z ≡ p' - p)
parts_of (pos n) p p' e = (omega arith, omega arith)
parts_of (negsuc n) p p' e = (omega arith, omega arith)

at_most_of : (x y : ℤ) (p p' q q' : ℕ) → up x + p' ≡ p + down x → up y + q' ≡ q + down y → Below p p' q q' → AtMost x y
at_most_of x y p p' q q' e f b =
    let s = parts_of x p p' e in
    let t = parts_of y q q' f in
    record { upper = rw (s.0, t.0) b.upper; lower = rw (s.1, t.1) b.lower }

-- ---- r - a - d ≤ b·√2 and a - r - d ≤ -b·√2, where r is ±n, a and b are multiples of v, and d is at least 4 * o
module _ (g : Bool) (n : ℕ) (a b : ℤ) (v o d : ℕ) (h : 4 * o ≤ d) (j : Parts (cond g 0 n) (cond g n 0) a b v o) where
  abbrev r : ℤ
  r = signed g n

  abbrev A : ℤ
  A = a *ℤ pos v

  abbrev B : ℤ
  B = b *ℤ pos v

  pub at_most_above : AtMost (r -ℤ A -ℤ pos d) B
  at_most_above =
      at_most_of (r -ℤ A -ℤ pos d) B (cond g 0 n + down a * v) (cond g n 0 + up a * v + d) (up b * v) (down b * v)
      (omega (arith, difference r A, difference (r -ℤ A) (pos d), signed_parts g n, times_parts a v))
      (omega (arith, times_parts b v))
      (loosen (cond g 0 n + down a * v) (cond g n 0 + up a * v + 4 * o) (cond g n 0 + up a * v + d) (up b * v) (down b * v) (omega arith) j.0)

  pub at_most_below : AtMost (A -ℤ r -ℤ pos d) (neg_ℤ B)
  at_most_below =
      at_most_of (A -ℤ r -ℤ pos d) (neg_ℤ B) (cond g n 0 + up a * v) (cond g 0 n + down a * v + d) (down b * v) (up b * v)
      (omega (arith, difference A r, difference (A -ℤ r) (pos d), signed_parts g n, times_parts a v))
      (omega (arith, negation B, times_parts b v))
      (loosen (cond g n 0 + up a * v) (cond g 0 n + down a * v + 4 * o) (cond g 0 n + down a * v + d) (down b * v) (up b * v) (omega arith) j.1)
