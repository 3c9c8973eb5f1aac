-- Reducing a triple: the twos that z and w share are taken off at once, by the trailing zeros of an `or`; then root two is at most once. Assumes
-- nothing.
use Rattle.std.specs.Prelude.{◌≡◌, refl, Bool, true, false, not, ◌&&◌, ℕ, zero, suc, ◌+◌, ◌/◌, ◌%◌, ◌^◌, ◌≤◌, ◌<◌, T, leb, min, ℤ, nat_abs}
use Rattle.std.proofs.Common.{sym, ◌∙◌, ap, subst, arith, leb-true, leb-false, SFits, of_z, to_z}
use Rattle.std.proofs.Math.Nat.{zero-mod}
use Rattle.std.proofs.lemmas.Bool.{not-true, not-false}
use Rattle.std.specs.Int.Bits.{bit_or}
use Rattle.std.proofs.Math.Facts.{and_yes, of_z-to_z}
use Rattle.std.specs.Int.{w64}
use Rattle.exact.specs.Meaning.Number.{Ω, ints, mul_q, root2}
use Rattle.exact.specs.Meaning.Matrix.{Same}
use Rattle.exact.specs.Meaning.Triple.{Triple, entries}
use Rattle.exact.specs.Whole.Twos.{Zeros, TwoTo}
use Rattle.exact.proofs.Whole.Twos.{less_often, or_z, or_fits, or_each, or_all}
use Rattle.exact.proofs.Algebra.Omega.{omegas_laws}
use Rattle.exact.specs.Algebra.Over.{divides, over}
use Rattle.exact.proofs.Algebra.Over.{over_times}
use Rattle.exact.specs.Algebra.Twos.{Multiple, Shares}
use Rattle.exact.proofs.Algebra.Twos.{quotient_sized, twice_more}
use Rattle.exact.proofs.Matrices.Same.{Same-trans, Same-of}
use Rattle.exact.specs.Matrices.Divided.{Divided}
use Rattle.exact.proofs.Matrices.Divided.{divided_same}
use Rattle.exact.specs.Matrices.Least.{mod_eight, reduced_test, lowest}
use Rattle.exact.proofs.Matrices.Least.{mod_eight_same, test_reduced}
use Rattle.ring.specs.Meaning.{quad}
use Rattle.ring.specs.Number.{Small}
use Rattle.unitary.specs.Meaning.{triple, Answers}
use Rattle.unitary.specs.Checks.{both_test}
use Rattle.unitary.specs.declared.DOmegaUnitary.{DOmegaUnitary}

-- 2 to the m divides both, m is at most half of k, and no more would do where there is more than one power of root two left
pub record Twos (t : Triple) (m : ℕ) : Type 0 where
  pub few : m + m ≤ t.k
  pub z_so : Multiple m t.z
  pub w_so : Multiple m t.w
  pub no_more : suc (m + m) < t.k → Multiple (suc m) t.z → Multiple (suc m) t.w → ⊥

-- ---- root two divides both, so each
module _ (t : Triple) (h : T (both_test t)) where
  pub both_z : T (divides t.z)
  both_z = (and_yes (divides t.z) (divides t.w) h).0

  pub both_w : T (divides t.w)
  both_w = (and_yes (divides t.z) (divides t.w) h).1

pub both_so : (t : Triple) (b : Bool) → b ≡ both_test t → b ≡ true → T (both_test t)
both_so t b e f = rw (sym e ∙ f) tt

pub both_left : (t : Triple) (b : Bool) → b ≡ both_test t → not b ≡ false → T (both_test t)
both_left t b e f = both_so t b e (not-false b f)

-- ---- finding m: a and b have the zeros that z's and w's coefficients share
module _ (t : Triple) (small : t.k ≤ 61) (a b : ℤ) (f : SFits w64 a) (g : SFits w64 b) (z-shares : Shares t.z a) (w-shares : Shares t.w b) where
  each : (m : ℕ) → m ≤ 64 → TwoTo m (or_z a b) → Multiple m t.z × Multiple m t.w
  each m l h = let s = or_each a b f g m l h in (z-shares.each m l s.0, w-shares.each m l s.1)

  half_of : (m : ℕ) → m ≡ t.k / 2 → TwoTo m (or_z a b) → Twos t m
  half_of m e h =
      let s = each m (omega arith) h in
      record { few = omega arith; z_so = s.0; w_so = s.1; no_more = λ l p q. omega (arith, l) }

  abbrev bits_of : ℕ
  bits_of = bit_or (of_z w64 a) (of_z w64 b)

  pub all_nought : bits_of ≡ 0 → Twos t (t.k / 2)
  all_nought h = half_of (t.k / 2) refl (ap (λ n. nat_abs (to_z w64 n) % 2 ^ (t.k / 2)) h ∙ zero-mod (2 ^ (t.k / 2)))

  module _ (m : ℕ) (zeros : Zeros (or_z a b) m) where
    pub at_most : t.k / 2 < m → Twos t (t.k / 2)
    at_most l = half_of (t.k / 2) refl (less_often (t.k / 2) m (nat_abs (or_z a b)) (omega arith) zeros.so_often)

    pub all_shared : m ≤ t.k / 2 → (bits_of ≡ 0 → ⊥) → Twos t m
    all_shared l some =
        let s = each m (omega (arith, zeros.few)) zeros.so_often in
        record {
          few = omega arith;
          z_so = s.0;
          w_so = s.1;
          no_more = λ h p q.
              zeros.no_more (λ n. some (sym (of_z-to_z (or_fits a b f g)) ∙ ap (of_z w64) n))
              (or_all a b f g (suc m) (omega (arith, zeros.few)) (z-shares.all (suc m) (omega (arith, zeros.few)) p)
              (w-shares.all (suc m) (omega (arith, zeros.few)) q));
        }

    -- the lesser of the two
    pub least_shared : (bits_of ≡ 0 → ⊥) → (r : ℕ) → r ≡ min m (t.k / 2) → Twos t r
    least_shared some r e = go (leb m (t.k / 2)) refl
      where
        go : (b : Bool) → leb m (t.k / 2) ≡ b → Twos t r
        go true p =
            let l : m ≤ t.k / 2 = leb-true m (t.k / 2) p in
            let is : m ≡ r = omega arith in
            subst (Twos t) is (all_shared l some)
        go false p =
            let l : t.k / 2 < m = leb-false m (t.k / 2) p in
            let is : t.k / 2 ≡ r = omega arith in
            subst (Twos t) is (at_most l)

-- ---- taking them off: t with n from 0 to 7, and u without the twos
module _ (m : ℕ) (t u : DOmegaUnitary) (d : Divided (m + m) (triple t) (triple u)) where
  pub halved_z : Small t.z → Small u.z
  halved_z x = record { sized = quotient_sized m (quad t.z) (quad u.z) d.z_is (2 ^ 31) x.sized }

  pub halved_w : Small t.w → Small u.w
  halved_w x = record { sized = quotient_sized m (quad t.w) (quad u.w) d.w_is (2 ^ 31) x.sized }

-- ---- then root two, at most once
pub data OnceMore (t r : Triple) : Type 0 where
  stays : T (reduced_test t) → r ≡ t → OnceMore t r
  falls : Divided 1 t r → OnceMore t r

reduced_at : (u : DOmegaUnitary) (b : Bool) → b ≡ both_test (triple u) → b ≡ false → T (reduced_test (triple u))
reduced_at u b test stop = go u.k
  where
    go : (k : ℕ) → T (lowest k (divides (quad u.z) && divides (quad u.w)))
    go zero = tt
    go (suc k) = rw (sym test ∙ stop) tt

module _ (u : DOmegaUnitary) where
  pub at_nought : u.k ≡ 0 → OnceMore (triple u) (triple u)
  at_nought e = stays (rw e tt) refl

  pub no_root : (b : Bool) → b ≡ both_test (triple u) → b ≡ false → OnceMore (triple u) (triple u)
  no_root b test stop = stays (reduced_at u b test stop) refl

  pub one_root : (r : DOmegaUnitary) → Divided 1 (triple u) (triple r) → OnceMore (triple u) (triple r)
  one_root r d = falls d

-- ---- the whole: s is the triple as it came
module _ (s : Triple) (t : DOmegaUnitary) (e : triple t ≡ mod_eight s) where
  itself : T (reduced_test (triple t)) → Answers (entries s) (triple t)
  itself test =
      record {
        same = Same-of (ap entries e ∙ mod_eight_same s);
        reduced = test_reduced (triple t) test;
        n_small = omega (arith, ap (λ v. v.n) e);
      }

  pub reduced_nought : t.k ≡ 0 → Answers (entries s) (triple t)
  reduced_nought f = itself (rw f tt)

  pub reduced_there : (b : Bool) → b ≡ both_test (triple t) → not b ≡ true → Answers (entries s) (triple t)
  reduced_there b test stop = itself (reduced_at t b test (not-true b stop))

-- were there a root two left, there would be a two more
module _ (s t u r : Triple) (e : t ≡ mod_eight s) (m : ℕ) (h : Twos t m) (d : Divided (m + m) t u) where
  u_same : Same (entries u) (entries s)
  u_same = Same-trans (divided_same (m + m) t u d) (Same-of (ap entries e ∙ mod_eight_same s))

  u_small : u.n < 8
  u_small = omega (arith, d.n_is, ap (λ v. v.n) e)

  module _ (c : Divided 1 u r) where
    twice : (y z : Ω) → mul_q ints (root2 ints) z ≡ y → T (divides z) → mul_q ints (root2 ints) (mul_q ints (root2 ints) (over z)) ≡ y
    twice y z f i = ap (mul_q ints (root2 ints)) (over_times z i) ∙ f

    clash : (k : ℕ) → r.k ≡ suc k → T (divides r.z) → T (divides r.w) → ⊥
    clash k f i j =
        h.no_more (omega (arith, d.k_is, c.k_is))
        (twice_more m t.z u.z d.z_is (over r.z) (twice u.z r.z c.z_is i))
        (twice_more m t.w u.w d.w_is (over r.w) (twice u.w r.w c.w_is j))

    no_second : (k : ℕ) → r.k ≡ k → (p : Bool) → divides r.z ≡ p → (q : Bool) → divides r.w ≡ q → T (lowest k (p && q))
    no_second zero f p i q j = tt
    no_second (suc k) f false i q j = tt
    no_second (suc k) f true i false j = tt
    no_second (suc k) f true i true j = absurd (clash k f (rw i tt) (rw j tt))

  all_off : OnceMore u r → Answers (entries s) r
  all_off (stays test f) = rw f (record { same = u_same; reduced = test_reduced u test; n_small = u_small })
  all_off (falls c) =
      record {
        same = Same-trans (divided_same 1 u r c) u_same;
        reduced = test_reduced r (no_second c r.k refl (divides r.z) refl (divides r.w) refl);
        n_small = omega (arith, c.n_is, u_small);
      }

module _ (s : Triple) (t r : DOmegaUnitary) (e : triple t ≡ mod_eight s) (m : ℕ) (h : Twos (triple t) m) where
  pub twos_off : (u : DOmegaUnitary) → Divided (m + m) (triple t) (triple u) → OnceMore (triple u) (triple r) → Answers (entries s) (triple r)
  twos_off u d = all_off s (triple t) (triple u) (triple r) e m h d

  pub no_twos : m ≡ 0 → Divided 1 (triple t) (triple r) → Answers (entries s) (triple r)
  no_twos f d = all_off s (triple t) (triple t) (triple r) e m h (rw f undivided) (falls d)
    where
      undivided : Divided 0 (triple t) (triple t)
      undivided = record { k_is = omega arith; n_is = refl; z_is = omegas_laws.one_mul (quad t.z); w_is = omegas_laws.one_mul (quad t.w) }
