-- Residues in a step: m by them, whether k falls, and how the parities of z and of omega^-m·w lie then, by one computed test
-- over all 256 pairs of residues. Assumes nothing.
use Rattle.std.specs.Prelude.{◌≡◌, refl, Bool, true, false, not, cond, ◌&&◌, List, [], ◌∷◌, ℕ, zero, suc, ◌+◌, ◌-◌, ◌*◌, ◌^◌, ◌%◌, ◌≤◌, ◌<◌, T, eqb, ltb, get_or, ℤ, pos, neg_ℤ, ◌+ℤ◌}
use Rattle.std.proofs.Math.Path.{sym}
use Rattle.std.proofs.Common.{◌∙◌, ap, ap₂, arith, eqb→eq, ltb→lt}
use borrow.Author.Tests.{ltb-true, lt-ltb, le-ltb, ne_eqb}
use Rattle.std.proofs.Math.Dec.{eqb_refl}
use Rattle.std.proofs.Math.Facts.{and_yes, yes_and}
use Rattle.exact.specs.Meaning.Number.{Quad, Ω, ints, quads, power, mul_q, omega', odd, bit, residue}
use Rattle.exact.specs.Meaning.Triple.{Triple, squares, crosses, Unitary}
use Rattle.exact.proofs.Whole.Parity.{xr, odd_add, odd_neg}
use Rattle.exact.proofs.Algebra.Ring.{ints_laws}
use Rattle.exact.proofs.Algebra.Solver.{Expr, ⊖, exprs}
use Rattle.exact.proofs.Algebra.Omega.{quad_path, X₀, parts, solve_q}
use Rattle.exact.proofs.Algebra.Norm.{norm, norm_is, norm_residue_lem, norm_residue, all_parities}
use Rattle.exact.specs.Algebra.Over.{divides}
use Rattle.steps.specs.Meaning.{bit_shifts, bit_shift, less_by, power_by, power_of}
use Rattle.steps.specs.Residues.{bit_count, falls_by, back, falls_of}

-- ---- four parities
abbrev pub odds : Ω → Quad Bool
odds x = record { a = odd x.a; b = odd x.b; c = odd x.c; d = odd x.d }

abbrev residue_of : Quad Bool → ℕ
residue_of q = bit q.a * 8 + bit q.b * 4 + bit q.c * 2 + bit q.d

abbrev pub class_of : Quad Bool → ℕ
class_of q = norm_residue q.a q.b q.c q.d

abbrev divides_of : Quad Bool → Bool
divides_of q = not (xr q.b q.d) && not (xr q.c q.a)

-- omega^-m times
abbrev back_of : ℕ → Quad Bool → Quad Bool
back_of zero q = q
back_of (suc m) q = let r = back_of m q in record { a = r.d; b = r.a; c = r.b; d = r.c }

abbrev pub opposite : Quad Bool → Quad Bool
opposite q = record { a = not q.a; b = not q.b; c = not q.c; d = not q.d }

abbrev equal : Quad Bool → Quad Bool → Bool
equal p q = not (xr p.a q.a) && (not (xr p.b q.b) && (not (xr p.c q.c) && not (xr p.d q.d)))

-- ---- the test
abbrev pub implies : Bool → Bool → Bool
implies true b = b
implies false b = true

abbrev pair_test : Quad Bool → Quad Bool → Bool
pair_test p q =
    implies (eqb (class_of p) (class_of q) && not (divides_of p && divides_of q))
    (cond (eqb (bit_count (residue_of p)) (bit_count (residue_of q)))
    (equal p (back_of (less_by (bit_shift (residue_of p)) (bit_shift (residue_of q))) q))
    (equal (opposite p) (back_of (less_by (bit_shift (residue_of p)) (bit_shift (residue_of q))) q) && eqb (class_of p) 0b0001))

abbrev pub everywhere : (Quad Bool → Bool) → Bool
everywhere f =
    let g : Bool → Bool → Bool → Bool → Bool = λ a b c d. f (record { a = a; b = b; c = c; d = d }) in
    let h : Bool → Bool → Bool → Bool = λ a b c. g a b c true && g a b c false in
    let i : Bool → Bool → Bool = λ a b. h a b true && h a b false in
    (i true true && i true false) && (i false true && i false false)

pub everywhere_at : (f : Quad Bool → Bool) → T (everywhere f) → (q : Quad Bool) → T (f q)
everywhere_at f t q = all_parities (λ a b c d. f (record { a = a; b = b; c = c; d = d })) t q.a q.b q.c q.d

all_pairs : (p q : Quad Bool) → T (pair_test p q)
all_pairs p q = everywhere_at (pair_test p) (everywhere_at (λ p. everywhere (pair_test p)) tt p) q

same_bool : (a b : Bool) → T (not (xr a b)) → a ≡ b
same_bool true true t = refl
same_bool true false t = absurd t
same_bool false true t = absurd t
same_bool false false t = refl

equal_is : (p q : Quad Bool) → T (equal p q) → p ≡ q
equal_is p q t =
    let t₁ = and_yes (not (xr p.a q.a)) (not (xr p.b q.b) && (not (xr p.c q.c) && not (xr p.d q.d))) t in
    let t₂ = and_yes (not (xr p.b q.b)) (not (xr p.c q.c) && not (xr p.d q.d)) t₁.1 in
    let t₃ = and_yes (not (xr p.c q.c)) (not (xr p.d q.d)) t₂.1 in
    quad_path
    (same_bool p.a q.a t₁.0)
    (same_bool p.b q.b t₂.0)
    (same_bool p.c q.c t₃.0)
    (same_bool p.d q.d t₃.1)

-- ---- m is below 4
abbrev all_below : ℕ → List ℕ → Bool
all_below n [] = ltb 0 n
all_below n (x ∷ xs) = ltb x n && all_below n xs

entry_below : (n : ℕ) (xs : List ℕ) → T (all_below n xs) → (i : ℕ) → get_or xs i 0 < n
entry_below n [] t i = ltb→lt 0 n t
entry_below n (x ∷ xs) t zero = ltb→lt x n (and_yes (ltb x n) (all_below n xs) t).0
entry_below n (x ∷ xs) t (suc i) = entry_below n xs (and_yes (ltb x n) (all_below n xs) t).1 i

less_by_few : (p q : ℕ) → p < 4 → q < 4 → less_by p q < 4
less_by_few p q hp hq = go (ltb q p) refl
  where
    go : (b : Bool) → ltb q p ≡ b → cond b (q + 4 - p) (q - p) < 4
    go true e = omega (arith, ltb-true q p e)
    go false e = omega arith

pub bit_shift_few : (r : ℕ) → bit_shift r < 4
bit_shift_few = entry_below 4 bit_shifts tt

pub power_by_few : (r s : ℕ) → power_by r s < 4
unfolding power_by
power_by_few r s = less_by_few (bit_shift r) (bit_shift s) (bit_shift_few r) (bit_shift_few s)

-- the two cases, as the code takes them
module _ (r s p q : ℕ) (hp : p ≡ bit_shift r) (hq : q ≡ bit_shift s) where
  pub power_less : q < p → q + 4 - p ≡ power_by r s
  unfolding power_by
  power_less h = sym (rw (← hp, ← hq, lt-ltb q p h) refl)

  pub power_not_less : p ≤ q → q - p ≡ power_by r s
  unfolding power_by
  power_not_less h = sym (rw (← hp, ← hq, le-ltb q p h) refl)

pub itself : (r : ℕ) → power_by r r ≡ 0
unfolding power_by
itself r = go (bit_shift r)
  where
    go : (p : ℕ) → less_by p p ≡ 0
    go p = rw (le-ltb p p (omega arith)) (omega arith)

module _ (x : Ω) where
  abbrev turns : ℕ → Quad Expr
  turns j = mul_q exprs (power (quads exprs) (omega' exprs) j) X₀

  pub back_0 : back 0 x ≡ x
  unfolding back
  back_0 = solve_q ints ints_laws (parts x []) (turns 8) X₀ (tt, tt, tt, tt)

  pub back_1 : back 1 x ≡ record { a = neg_ℤ x.d; b = x.a; c = x.b; d = x.c }
  unfolding back
  back_1 = solve_q ints ints_laws (parts x []) (turns 7) (record { a = ⊖ X₀.d; b = X₀.a; c = X₀.b; d = X₀.c }) (tt, tt, tt, tt)

  pub back_2 : back 2 x ≡ record { a = neg_ℤ x.c; b = neg_ℤ x.d; c = x.a; d = x.b }
  unfolding back
  back_2 = solve_q ints ints_laws (parts x []) (turns 6) (record { a = ⊖ X₀.c; b = ⊖ X₀.d; c = X₀.a; d = X₀.b }) (tt, tt, tt, tt)

  pub back_3 : back 3 x ≡ record { a = neg_ℤ x.b; b = neg_ℤ x.c; c = neg_ℤ x.d; d = x.a }
  unfolding back
  back_3 = solve_q ints ints_laws (parts x []) (turns 5) (record { a = ⊖ X₀.b; b = ⊖ X₀.c; c = ⊖ X₀.d; d = X₀.a }) (tt, tt, tt, tt)

back_odds : (m : ℕ) (x : Ω) → m < 4 → odds (back m x) ≡ back_of m (odds x)
back_odds zero x h = ap odds (back_0 x)
back_odds (suc zero) x h = ap odds (back_1 x) ∙ quad_path (odd_neg x.d) refl refl refl
back_odds (suc (suc zero)) x h = ap odds (back_2 x) ∙ quad_path (odd_neg x.c) (odd_neg x.d) refl refl
back_odds (suc (suc (suc zero))) x h = ap odds (back_3 x) ∙ quad_path (odd_neg x.b) (odd_neg x.c) (odd_neg x.d) refl
back_odds (suc (suc (suc (suc m)))) x h = absurd (omega arith)

-- ---- the same of ring numbers
divides_odds : (x : Ω) → divides x ≡ divides_of (odds x)
divides_odds x = ap₂ (λ p q. not p && not q) (odd_add x.b x.d) (odd_add x.c x.a)

module _ (z w : Ω) (classes : residue (norm z) ≡ residue (norm w)) (some : T (not (divides z && divides w))) where
  -- what the test asks of the pair, and what it finds
  abbrev asked : Bool
  asked = eqb (class_of (odds z)) (class_of (odds w)) && not (divides_of (odds z) && divides_of (odds w))

  abbrev turned : Quad Bool
  turned = back_of (power_of z w) (odds w)

  abbrev class_1 : Bool
  class_1 = eqb (class_of (odds z)) 0b0001

  abbrev found : Bool → Bool
  found b = cond b (equal (odds z) turned) (equal (opposite (odds z)) turned && class_1)

  premise : T asked
  premise =
      yes_and (eqb (class_of (odds z)) (class_of (odds w))) (not (divides_of (odds z) && divides_of (odds w)))
      (rw (sym (norm_residue_lem z) ∙ classes ∙ norm_residue_lem w) (eqb_refl (class_of (odds w))))
      (rw (← divides_odds z, ← divides_odds w) some)

  implied : (a b : Bool) → T a → T (implies a b) → T b
  implied true b s t = t
  implied false b s t = absurd s

  chosen : (b : Bool) → falls_of z w ≡ b → T (found b)
  unfolding falls_by power_by
  chosen b e = rw e at (implied asked (found (falls_of z w)) premise (all_pairs (odds z) (odds w)))

  stayed : falls_of z w ≡ false → T (equal (opposite (odds z)) turned) × T class_1
  stayed e = and_yes (equal (opposite (odds z)) turned) class_1 (chosen false e)

  turned_is : turned ≡ odds (back (power_of z w) w)
  turned_is = sym (back_odds (power_of z w) w (power_by_few (residue z) (residue w)))

  -- k falls: the parities agree
  pub agreeing : falls_of z w ≡ true → odds z ≡ odds (back (power_of z w) w)
  agreeing e = equal_is (odds z) turned (chosen true e) ∙ turned_is

  -- k stays: each differs, and the class is 0001
  pub differing : falls_of z w ≡ false → opposite (odds z) ≡ odds (back (power_of z w) w)
  differing e = equal_is (opposite (odds z)) turned (stayed e).0 ∙ turned_is

  pub stays_class : falls_of z w ≡ false → residue (norm z) ≡ 0b0001
  stays_class e = norm_residue_lem z ∙ eqb→eq (class_of (odds z)) 0b0001 (stayed e).1

-- ---- at a unitary triple with k over 0 the classes of z and w are one
-- a class by the parities of the cross sum and of the squares
abbrev pub class_by : Bool → Bool → ℕ
class_by p q = bit p * 8 + 0 * 4 + bit p * 2 + bit q

pub class_is : (x : Ω) → residue (norm x) ≡ class_by (odd (crosses ints x)) (odd (squares ints x))
class_is x = ap residue (norm_is x) ∙ ap (λ p. bit p * 8 + 0 * 4 + bit q * 2 + bit (odd (squares ints x))) (odd_neg (crosses ints x))
  where
    q : Bool
    q = odd (crosses ints x)

pub four_classes : (x : Ω)
    → (residue (norm x) ≡ 0b0000 → ⊥)
    → (residue (norm x) ≡ 0b0001 → ⊥)
    → (residue (norm x) ≡ 0b1010 → ⊥)
    → (residue (norm x) ≡ 0b1011 → ⊥)
    → ⊥
four_classes x f g h k = go (odd (crosses ints x)) (odd (squares ints x)) (class_is x)
  where
    go : (p q : Bool) → residue (norm x) ≡ class_by p q → ⊥
    go true true e = k e
    go true false e = h e
    go false true e = g e
    go false false e = f e

pub even_power : (k : ℕ) → odd (pos (2 ^ suc k)) ≡ false
even_power k = ne_eqb (2 ^ suc k % 2) 1 (λ e. omega arith)

pub even_sum : (a b c : ℤ) → a +ℤ b ≡ c → odd c ≡ false → odd a ≡ odd b
even_sum a b c e f = alike (odd a) (odd b) (sym (odd_add a b) ∙ ap odd e ∙ f)
  where
    alike : (p q : Bool) → xr p q ≡ false → p ≡ q
    alike true true e = refl
    alike true false e = e
    alike false true e = sym e
    alike false false e = refl

pub one_class : (t : Triple) (k : ℕ) → Unitary t → t.k ≡ suc k → residue (norm t.z) ≡ residue (norm t.w)
one_class t k u e =
    class_is t.z
    ∙ ap₂ class_by
    (even_sum (crosses ints t.z) (crosses ints t.w) (pos 0) u.crosses_sum refl)
    (even_sum (squares ints t.z) (squares ints t.w) (pos (2 ^ t.k)) u.squares_sum (ap (λ j. odd (pos (2 ^ j))) e ∙ even_power k))
    ∙ sym (class_is t.w)

-- ---- the class 0000 is that of the multiples of root two
zero_class : (q : Quad Bool) → T (implies (eqb (class_of q) 0) (divides_of q))
zero_class = everywhere_at (λ q. implies (eqb (class_of q) 0) (divides_of q)) tt

pub class_0000 : (x : Ω) → residue (norm x) ≡ 0 → T (divides x)
class_0000 x e = rw (divides_odds x) (go (class_of (odds x)) (sym (norm_residue_lem x) ∙ e) (zero_class (odds x)))
  where
    go : (n : ℕ) → n ≡ 0 → T (implies (eqb n 0) (divides_of (odds x))) → T (divides_of (odds x))
    go n e t = rw e at t

-- the class 0001 has an odd number of odd coefficients
abbrev total : Quad Bool → Bool
total q = xr (xr q.b q.d) (xr q.c q.a)

odd_total : (q : Quad Bool) → T (implies (eqb (class_of q) 0b0001) (total q))
odd_total = everywhere_at (λ q. implies (eqb (class_of q) 0b0001) (total q)) tt

pub class_0001 : (x : Ω) → residue (norm x) ≡ 0b0001 → T (xr (odd (x.b +ℤ x.d)) (odd (x.c +ℤ x.a)))
class_0001 x e = rw (odd_add x.b x.d, odd_add x.c x.a) (go (class_of (odds x)) (sym (norm_residue_lem x) ∙ e) (odd_total (odds x)))
  where
    go : (n : ℕ) → n ≡ 1 → T (implies (eqb n 0b0001) (total (odds x))) → T (total (odds x))
    go n e t = rw e at t
