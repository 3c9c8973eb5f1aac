-- How much the numbers of a unitary triple's rotation can be: p and q of its columns over root two to the 2k are at most 2^k; and its least exponent is at
-- most 2k where k is over 0, else at most 1. Assumes nothing.
use Rattle.std.specs.Prelude.{◌≡◌, refl, false, [], ℕ, zero, suc, ◌+◌, ◌-◌, ◌/◌, ◌%◌, ◌^◌, ◌≤◌, ◌<◌, T, eqb, ℤ, pos, neg_ℤ, nat_abs, ◌+ℤ◌}
use Rattle.std.proofs.Common.{sym, ◌∙◌, ap, ap₂, subst, arith, pow_mono}
use Rattle.std.proofs.Math.Nat.{mod-one}
use Rattle.exact.specs.Meaning.Number.{Quad, Ω, ints, mul_q, odd, bit}
use Rattle.exact.specs.Meaning.Triple.{Triple, squares, entries, Unitary}
use Rattle.exact.specs.Meaning.Rotation.{Root, Three, Vect, times_v, Rotation, SameRotation, LeastExponent, RotationOf}
use Rattle.exact.proofs.Whole.Parity.{xr, xr_comm, odd_add, odd_neg, odd_double, bit_odd}
use Rattle.exact.proofs.Algebra.Ring.{ints_laws}
use Rattle.exact.proofs.Algebra.Solver.{Expr, ◌⊕◌, ◌⊗◌, ⊖, ◌⊝◌, exprs, eval, at, same, solve}
use Rattle.exact.proofs.Algebra.Omega.{X₀, X₁, parts}
use Rattle.exact.specs.Algebra.RootPower.{DividesR}
use Rattle.exact.proofs.Algebra.RootPower.{oddly, oddly_lift}
use Rattle.exact.proofs.Matrices.Same.{Same-refl}
use Rattle.exact.proofs.Matrices.Triples.{unitary_isometry}
use Rattle.exact.proofs.Rotation.Vectors.{vect_path}
use Rattle.exact.proofs.Rotation.Laws.{rotation_same, rotation_written}
use Rattle.exact.proofs.Rotation.Orthogonal.{orthogonal}
use Rattle.exact.specs.Rotation.Sizes.{UpC}
use Rattle.exact.proofs.Rotation.Sizes.{shorts, ups_to, up_all}
use Rattle.exact.specs.Rotation.Least.{lifts}
use Rattle.exact.proofs.Rotation.Least.{lowered_same}
use Rattle.exact.specs.Rotation.Worked.{with_n, columns, quarter, eighth, quarters}
use Rattle.exact.proofs.Rotation.Worked.{columns_rotation, eighth_more, quarters_more}

-- ---- sizes
pub columns_up : (j k : ℕ) (z w : Ω) → k ≤ j → Unitary (with_n k 0 z w) → UpC (2 ^ j) (columns ints z w)
columns_up j k z w l u = up_all (pow_mono l) (ups_to k (columns ints z w) (shorts (orthogonal (unitary_isometry u) (columns_rotation k z w))))

-- ---- parities: what X and Y become agree in every part, if k is over 0
record Agree (m : Three (Vect ℤ)) : Type 0 where
  x_even : odd (m.x.x.p +ℤ m.y.x.p) ≡ false
  y_even : odd (m.x.y.p +ℤ m.y.y.p) ≡ false
  z_even : odd (m.x.z.p +ℤ m.y.z.p) ≡ false

-- a number that is s and twice another
but_for : (s g t : ℤ) → t ≡ s +ℤ (g +ℤ g) → odd s ≡ false → odd t ≡ false
but_for s g t e h = ap odd e ∙ odd_add s (g +ℤ g) ∙ ap₂ xr h (odd_double g)

module _ (z w : Ω) (even : odd (squares ints z +ℤ squares ints w) ≡ false) where
  abbrev sums : Expr
  sums = squares exprs X₀ ⊕ squares exprs X₁

  -- half of what a sum of two parts has less than the eight squares
  abbrev E : Quad Expr → Expr
  E x = x.a ⊗ x.a ⊕ x.b ⊗ x.b ⊕ x.a ⊗ x.c ⊝ x.b ⊗ x.d

  abbrev F : Quad Expr → Expr
  F x = x.b ⊗ x.b ⊕ x.c ⊗ x.c ⊕ x.a ⊗ x.c ⊕ x.b ⊗ x.d

  abbrev twice : Expr → Expr
  twice g = sums ⊕ (g ⊕ g)

  columns_agree : Agree (columns ints z w)
  columns_agree =
      record {
        x_even = by (C.x.x.p ⊕ C.y.x.p) (E X₁ ⊝ E X₀ ⊝ squares exprs X₁) tt;
        y_even = by (C.x.y.p ⊕ C.y.y.p) (⊖ (F X₀ ⊕ F X₁)) tt;
        z_even = odd_add (columns ints z w).x.z.p (columns ints z w).y.z.p ∙ ap₂ xr (doubled (mul_q ints z w).d) (doubled (mul_q ints z w).b);
      }
    where
      C : Three (Vect Expr)
      C = columns exprs X₀ X₁

      by : (t g : Expr) → T (same t (twice g)) → odd (eval ints (at ints (parts z (parts w []))) t) ≡ false
      by t g ok =
          but_for (squares ints z +ℤ squares ints w) (eval ints (at ints (parts z (parts w []))) g) (eval ints (at ints (parts z (parts w []))) t)
          (solve ints ints_laws (parts z (parts w [])) t (twice g) ok) even

      doubled : (d : ℤ) → odd (neg_ℤ (d +ℤ d)) ≡ false
      doubled d = odd_neg (d +ℤ d) ∙ odd_double d

turned : (x y : ℤ) → odd (x +ℤ y) ≡ false → odd (y +ℤ neg_ℤ x) ≡ false
turned x y e = odd_add y (neg_ℤ x) ∙ ap (xr (odd y)) (odd_neg x) ∙ xr_comm (odd y) (odd x) ∙ sym (odd_add x y) ∙ e

quarter_agree : {m : Three (Vect ℤ)} → Agree m → Agree (quarter ints m)
quarter_agree {m} a =
    record {
      x_even = turned m.x.x.p m.y.x.p a.x_even;
      y_even = turned m.x.y.p m.y.y.p a.y_even;
      z_even = turned m.x.z.p m.y.z.p a.z_even;
    }

quarters_agree : (j : ℕ) {m : Three (Vect ℤ)} → Agree m → Agree (quarters j m)
quarters_agree zero a = a
quarters_agree (suc j) a = quarter_agree (quarters_agree j a)

-- ---- then an eighth's root two goes again
even_divides : (r : Root ℤ) → odd r.p ≡ false → DividesR 1 r
even_divides r e = record { p_so = sym (bit_odd r.p) ∙ ap bit e; q_so = mod-one (nat_abs r.q) }

abbrev halfway : Vect ℤ → Vect ℤ
halfway v = record { x = oddly 0 v.x; y = oddly 0 v.y; z = oddly 0 v.z }

lifts_halfway : (v : Vect ℤ) → odd v.x.p ≡ false → odd v.y.p ≡ false → odd v.z.p ≡ false → times_v ints (halfway v) ≡ v
lifts_halfway v x y z =
    vect_path
    (oddly_lift 1 0 v.x refl (even_divides v.x x))
    (oddly_lift 1 0 v.y refl (even_divides v.y y))
    (oddly_lift 1 0 v.z refl (even_divides v.z z))

abbrev halfways : Three (Vect ℤ) → Three (Vect ℤ)
halfways m = record { x = halfway m.x; y = halfway m.y; z = halfway m.z }

eighth_lifts : (m : Three (Vect ℤ)) → Agree m → lifts 1 (halfways (eighth ints m)) ≡ eighth ints m
eighth_lifts m a =
    let x_is = lifts_halfway (eighth ints m).x a.x_even a.y_even a.z_even in
    let y_is =
    lifts_halfway (eighth ints m).y
    (turned m.x.x.p m.y.x.p a.x_even)
    (turned m.x.y.p m.y.y.p a.y_even)
    (turned m.x.z.p m.y.z.p a.z_even) in
    let z_is = lifts_halfway (eighth ints m).z (odd_double m.z.x.q) (odd_double m.z.y.q) (odd_double m.z.z.q) in
    λ i. record { x = x_is i; y = y_is i; z = z_is i }

-- ---- what it can be written with
module _ (k : ℕ) (z w : Ω) (u : Unitary (with_n k 0 z w)) where
  evens : 0 < k → odd (squares ints z +ℤ squares ints w) ≡ false
  evens l = ap odd u.squares_sum ∙ go k l
    where
      go : (k : ℕ) → 0 < k → odd (pos (2 ^ k)) ≡ false
      go zero l = absurd (omega arith)
      go (suc k) l = ap (λ r. eqb r 1) even
        where
          even : 2 ^ suc k % 2 ≡ 0
          even = omega arith

  -- the columns turned by 2j eighths, and by one more
  module _ (j : ℕ) where
    abbrev m : Three (Vect ℤ)
    m = quarters j (columns ints z w)

    at_quarters : RotationOf (entries (with_n k (j + j) z w)) (record { m = m; e = k + k })
    at_quarters = quarters_more k z w (record { m = columns ints z w; e = k + k }) (columns_rotation k z w) j

    at_odd : RotationOf (entries (with_n k (j + j + 1) z w)) (record { m = eighth ints m; e = k + k + 1 })
    at_odd = eighth_more k (j + j) z w m (k + k) at_quarters

    lower : 0 < k → SameRotation (record { m = eighth ints m; e = k + k + 1 }) (record { m = halfways (eighth ints m); e = k + k })
    lower l =
        subst (λ f. SameRotation (record { m = eighth ints m; e = k + k + 1 }) (record { m = halfways (eighth ints m); e = f })) one_less
        (lowered_same (k + k + 1) 1 (eighth ints m) (halfways (eighth ints m)) (eighth_lifts m (quarters_agree j (columns_agree z w (evens l)))) (omega arith))
      where
        one_less : k + k + 1 - 1 ≡ k + k
        one_less = omega arith

-- ---- the least exponent
module _ (t : Triple) (u : Unitary t) {r : Rotation} {e : ℕ} (h : RotationOf (entries t) r) (l : LeastExponent r e) where
  there : Unitary (with_n t.k 0 t.z t.w)
  there = record { squares_sum = u.squares_sum; crosses_sum = u.crosses_sum }

  under : {n : ℕ} {s : Rotation} → n ≡ t.n → RotationOf (entries (with_n t.k n t.z t.w)) s → e ≤ s.e
  under {n} {s} f g =
      l.least s (rotation_same (Same-refl (entries t)) h (subst (λ n. RotationOf (entries (with_n t.k n t.z t.w)) s) f g))

  abbrev j : ℕ
  j = t.n / 2

  at_even : t.n % 2 ≡ 0 → e ≤ t.k + t.k
  at_even f = under whole (at_quarters t.k t.z t.w there j)
    where
      whole : j + j ≡ t.n
      whole = omega arith

  whole_odd : (t.n % 2 ≡ 0 → ⊥) → j + j + 1 ≡ t.n
  whole_odd f = omega (arith, f)

  pub least_few : e ≤ suc (t.k + t.k)
  least_few = go (t.n % 2) refl
    where
      go : (b : ℕ) → t.n % 2 ≡ b → e ≤ suc (t.k + t.k)
      go zero f = omega (arith, at_even f)
      go (suc b) f = omega (arith, under (whole_odd (λ g. omega (arith, f, g))) (at_odd t.k t.z t.w there j))

  pub least_under : 0 < t.k → e ≤ t.k + t.k
  least_under more = go (t.n % 2) refl
    where
      go : (b : ℕ) → t.n % 2 ≡ b → e ≤ t.k + t.k
      go zero f = at_even f
      go (suc b) f =
          under (whole_odd (λ g. omega (arith, f, g)))
          (rotation_written (at_odd t.k t.z t.w there j) (lower t.k t.z t.w there j more))
