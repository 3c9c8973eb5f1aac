-- How many steps exactly, by k and the residue of z·z*: none where k is 0, else 2k-1 at 0001 and 2k-2 at 1010. For where k falls z is the sum of the
-- next triple's two numbers, and the residue of a sum tells when k falls and what comes next. Assumes nothing.
use Rattle.std.specs.Prelude.{◌≡◌, refl, Bool, true, false, not, ◌&&◌, [], ℕ, zero, suc, ◌-◌, ◌*◌, ◌^◌, ◌<◌, T, eqb, pos, ◌+ℤ◌}
use Rattle.std.proofs.Common.{sym, ◌∙◌, ap, ap₂, subst, arith}
use Rattle.exact.specs.Meaning.Number.{Ops, Quad, Ω, ints, omegas, add_q, root2, root2^, odd, residue}
use Rattle.exact.specs.Meaning.Triple.{Triple, squares, crosses}
use Rattle.exact.proofs.Whole.Parity.{xr, xr_false, odd_add, odd_double}
use Rattle.exact.proofs.Algebra.Ring.{ints_laws, mul_add}
use Rattle.exact.proofs.Algebra.Solver.{◌⊕◌, ⊖, exprs, solve, ring₂}
use Rattle.exact.proofs.Algebra.Omega.{omegas_laws, X₀, X₁, parts, root2_twice, root2^_cancel}
use Rattle.exact.proofs.Algebra.Norm.{norm, norm_residue_lem}
use Rattle.exact.specs.Matrices.Divided.{Divided}
use Rattle.exact.specs.Matrices.Least.{mod_eight}
use Rattle.steps.specs.Meaning.{power, Takes}
use Rattle.steps.specs.Residues.{back}
use Rattle.steps.proofs.Residues.{odds, class_of, implies, everywhere, everywhere_at, class_by, class_is, even_power}
use Rattle.steps.specs.Step.{Ready, falls, next, explicit}
use Rattle.steps.proofs.Step.{next_ready, fallen_divided, next_falls, next_stays}
use Rattle.steps.proofs.Step.{sums, sum_odds, classes, no_0000, not_1011, stays_0001, next_not_0001}
use Rattle.steps.specs.Steps.{steps}
use Rattle.steps.proofs.Steps.{by_steps, steps_end, steps_more}
use Rattle.steps.proofs.Followed.{takes_is}

-- ---- sums
module _ (O : Ops) where
  open O use {Car, add as ◌+'◌, mul as ◌*'◌}

  infixl 6 ◌+'◌
  infixl 7 ◌*'◌
  abbrev inner : Quad Car → Quad Car → Car
  inner x y = x.a *' y.a +' x.b *' y.b +' x.c *' y.c +' x.d *' y.d

-- the squares of a sum are as odd as both squares together
squares_odd : (x y : Ω) → odd (squares ints (add_q ints x y)) ≡ odd (squares ints x +ℤ squares ints y)
squares_odd x y =
    ap odd
    (solve ints ints_laws (parts x (parts y [])) (squares exprs (add_q exprs X₀ X₁))
    (squares exprs X₀ ⊕ squares exprs X₁ ⊕ (inner exprs X₀ X₁ ⊕ inner exprs X₀ X₁)) tt)
    ∙ odd_add (squares ints x +ℤ squares ints y) (inner ints x y +ℤ inner ints x y)
    ∙ ap (xr (odd (squares ints x +ℤ squares ints y))) (odd_double (inner ints x y))
    ∙ xr_false (odd (squares ints x +ℤ squares ints y))

-- two of residue 1010 have a sum of another
abbrev sum_test : Quad Bool → Quad Bool → Bool
sum_test p q = implies (eqb (class_of p) 0b1010 && eqb (class_of q) 0b1010) (not (eqb (class_of (sums p q)) 0b1010))

every_sum : (p q : Quad Bool) → T (sum_test p q)
every_sum p q = everywhere_at (sum_test p) (everywhere_at (λ p. everywhere (sum_test p)) tt p) q

sum_not_1010 : (x y : Ω) → residue (norm x) ≡ 0b1010 → residue (norm y) ≡ 0b1010 → residue (norm (add_q ints x y)) ≡ 0b1010 → ⊥
sum_not_1010 x y e f g =
    told (class_of (odds x)) (class_of (odds y)) (class_of (sums (odds x) (odds y))) (sym (norm_residue_lem x) ∙ e) (sym (norm_residue_lem y) ∙ f)
    (ap class_of (sym (sum_odds x y)) ∙ sym (norm_residue_lem (add_q ints x y)) ∙ g) (every_sum (odds x) (odds y))
  where
    told : (i j l : ℕ) → i ≡ 10 → j ≡ 10 → l ≡ 10 → T (implies (eqb i 10 && eqb j 10) (not (eqb l 10))) → ⊥
    told i j l e f g t = rw (e, f, g) at t

-- ---- where k is over 0 the residue is one of two
two_residues : {A : Type 0} (t : Triple) (k : ℕ) → Ready t → t.k ≡ suc k → (residue (norm t.z) ≡ 0b0001 → A)
    → (residue (norm t.z) ≡ 0b1010 → A)
    → A
two_residues {A} t k r e f g = go (odd (crosses ints t.z)) (odd (squares ints t.z)) (class_is t.z)
  where
    go : (p q : Bool) → residue (norm t.z) ≡ class_by p q → A
    go true true c = absurd (not_1011 t k r e c)
    go true false c = g c
    go false true c = f c
    go false false c = absurd (no_0000 t k r e c)

-- ---- a step that lowers k
module _ (t : Triple) (k : ℕ) (r : Ready t) (e : t.k ≡ suc k) where
  module _ (f : falls t ≡ true) where
    abbrev w' : Ω
    w' = back (power t) t.w

    k_is : (next t).k ≡ k
    k_is = ap (λ s. s.k) (next_falls t k r e f)

    divided : Divided 2 (mod_eight (explicit (power t) t)) (next t)
    divided = subst (λ (s : Triple). Divided 2 (mod_eight (explicit (power t) t)) s) (sym (next_falls t k r e f)) (fallen_divided t k r e f)

    sum_is : add_q ints (next t).z (next t).w ≡ t.z
    sum_is =
        root2^_cancel 2 (add_q ints (next t).z (next t).w) t.z
        (mul_add omegas omegas_laws (root2^ 2) (next t).z (next t).w
        ∙ ap₂ (add_q ints) divided.z_is divided.w_is
        ∙ ring₂ omegas omegas_laws (λ z w. (z ⊕ w) ⊕ (z ⊕ ⊖ w)) (λ z w. z ⊕ z) tt t.z w'
        ∙ sym (omegas_laws.mul_assoc (root2 ints) (root2 ints) t.z ∙ root2_twice t.z))

    odd_is : odd (squares ints t.z) ≡ odd (pos (2 ^ k))
    odd_is =
        ap (λ x. odd (squares ints x)) (sym sum_is)
        ∙ squares_odd (next t).z (next t).w
        ∙ ap odd (next_ready r.unitary).unitary.squares_sum
        ∙ ap (λ j. odd (pos (2 ^ j))) k_is

    residue_is : {b : Bool} → odd (pos (2 ^ k)) ≡ b → residue (norm t.z) ≡ class_by (odd (crosses ints t.z)) b
    residue_is h = class_is t.z ∙ ap (class_by (odd (crosses ints t.z))) (odd_is ∙ h)

    -- to 0, from 0001 alone; further up, from 1010 alone, and then comes 0001
    last_0001 : k ≡ 0 → residue (norm t.z) ≡ 0b0001
    last_0001 h = go (odd (crosses ints t.z)) (residue_is (ap (λ j. odd (pos (2 ^ j))) h))
      where
        go : (p : Bool) → residue (norm t.z) ≡ class_by p true → residue (norm t.z) ≡ 0b0001
        go true c = absurd (not_1011 t k r e c)
        go false c = c

    module _ (j : ℕ) (h : k ≡ suc j) where
      falls_1010 : residue (norm t.z) ≡ 0b1010
      falls_1010 = go (odd (crosses ints t.z)) (residue_is (ap (λ j. odd (pos (2 ^ j))) h ∙ even_power j))
        where
          go : (p : Bool) → residue (norm t.z) ≡ class_by p false → residue (norm t.z) ≡ 0b1010
          go true c = c
          go false c = absurd (no_0000 t k r e c)

      next_0001 : residue (norm (next t).z) ≡ 0b0001
      next_0001 =
          two_residues (next t) j (next_ready r.unitary) (k_is ∙ h) (λ c. c)
          (λ c.
          absurd
          (sum_not_1010 (next t).z (next t).w c (sym (classes (next t) j (next_ready r.unitary) (k_is ∙ h)) ∙ c)
          (ap (λ x. residue (norm x)) sum_is ∙ falls_1010)))

  -- ---- one that leaves it, from 0001 alone, and then comes 1010
  next_1010 : falls t ≡ false → residue (norm (next t).z) ≡ 0b1010
  next_1010 f =
      two_residues (next t) k (next_ready r.unitary) (ap (λ s. s.k) (next_stays t k r e f) ∙ e) (λ c. absurd (next_not_0001 t k r e f c))
      (λ c. c)

-- ---- counted
pub record Exactly (t : Triple) : Type 0 where
  pub at_0001 : 0 < t.k → residue (norm t.z) ≡ 0b0001 → steps t ≡ 2 * t.k - 1
  pub at_1010 : 0 < t.k → residue (norm t.z) ≡ 0b1010 → steps t ≡ 2 * t.k - 2

one_residue : {r : ℕ} {A : Type 0} → r ≡ 0b0001 → r ≡ 0b1010 → A
one_residue e f = let c : ◌≡◌ {A = ℕ} 1 10 = sym e ∙ f in absurd (omega arith)

exactly_step : (t : Triple) (k : ℕ) → Ready t → t.k ≡ suc k → Exactly (next t) → Exactly t
exactly_step t k r e h = go (falls t) refl k refl
  where
    more : steps t ≡ suc (steps (next t))
    more = steps_more t k r e

    go : (b : Bool) → falls t ≡ b → (i : ℕ) → k ≡ i → Exactly t
    go true f zero i = record {
      at_0001 = λ l c. omega (arith, more, e, i, steps_end (next t) (k_is t k r e f ∙ i));
      at_1010 = λ l c. one_residue (last_0001 t k r e f i) c;
    }
    go true f (suc j) i = record {
      at_0001 = λ l c. one_residue c (falls_1010 t k r e f j i);
      at_1010 = λ l c.
          omega (arith, more, e, i, k_is t k r e f, h.at_0001 (omega (arith, k_is t k r e f, i)) (next_0001 t k r e f j i));
    }
    go false f i p = record {
      at_0001 = λ l c. omega (arith, more, e, stays, h.at_1010 (omega (arith, stays, e)) (next_1010 t k r e f));
      at_1010 = λ l c. one_residue (stays_0001 t k r e f) c;
    }
      where
        stays : (next t).k ≡ t.k
        stays = ap (λ s. s.k) (next_stays t k r e f)

exactly : (t : Triple) → Ready t → Exactly t
exactly = by_steps Exactly (λ t r e. record { at_0001 = λ l. absurd (omega (arith, e)); at_1010 = λ l. absurd (omega (arith, e)) }) exactly_step

-- ---- of any steps to the end
module _ (i : ℕ) (t : Triple) (r : Ready t) (h : Takes i t) where
  pub none_at_0 : t.k ≡ 0 → i ≡ 0
  none_at_0 e = takes_is i t r h ∙ steps_end t e

  pub takes_0001 : 0 < t.k → residue (norm t.z) ≡ 0b0001 → i ≡ 2 * t.k - 1
  takes_0001 l c = takes_is i t r h ∙ (exactly t r).at_0001 l c

  pub takes_1010 : 0 < t.k → residue (norm t.z) ≡ 0b1010 → i ≡ 2 * t.k - 2
  takes_1010 l c = takes_is i t r h ∙ (exactly t r).at_1010 l c

  -- so they are fewer than two for each k
  pub takes_under : 0 < t.k → i < 2 * t.k
  takes_under l =
      two_residues t (t.k - 1) r (omega arith) (λ c. omega (arith, takes_0001 l c)) (λ c. omega (arith, takes_1010 l c))
