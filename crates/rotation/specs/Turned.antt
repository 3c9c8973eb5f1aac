-- A rotation turned about Z beforehand, as the machine does it: what n eighths make of it, and that this is the rotation of the triple with n. Assumes
-- nothing.
use Rattle.std.specs.Prelude.{◌≡◌, refl, ℕ, zero, suc, ◌+◌, ◌/◌, ◌%◌, ◌^◌, ◌≤◌, ◌<◌, ℤ}
use Rattle.std.proofs.Common.{sym, ◌∙◌, ap, subst, add-one, arith}
use Rattle.exact.specs.Meaning.Number.{Ω, ints}
use Rattle.exact.specs.Meaning.Triple.{entries, Unitary}
use Rattle.exact.specs.Meaning.Rotation.{Three, Vect, add_v, times_v, Rotation, RotationOf}
use Rattle.exact.proofs.Matrices.Least.{mod_eight_same}
use Rattle.exact.specs.Rotation.Sizes.{UpV, UpC}
use Rattle.exact.proofs.Rotation.Sizes.{up_neg}
use Rattle.exact.specs.Rotation.Worked.{with_n, columns, neg_v, quarter, eighth, quarters}
use Rattle.exact.proofs.Rotation.Worked.{columns_rotation, eighth_more, quarters_more}
use Rattle.exact.proofs.Rotation.Few.{columns_up}
use Rattle.ring.specs.Meaning.{quad}
use Rattle.ring.specs.declared.ZOmega.{ZOmega}
use Rattle.root_two.specs.Meaning.{vect}
use Rattle.rotation.specs.Meaning.{axes_of, rotation_of}
use Rattle.root_two.specs.declared.Vect as Machine
use Rattle.rotation.specs.declared.Rotation as Declared

pub neg_v_up : {n : ℕ} {v : Vect ℤ} → UpV n v → UpV n (neg_v ints v)
neg_v_up h = record { x_up = up_neg h.x_up; y_up = up_neg h.y_up; z_up = up_neg h.z_up }

pub neg_v_up_of : {n : ℕ} {v w : Vect ℤ} → w ≡ neg_v ints v → UpV n v → UpV n w
neg_v_up_of e u = rw e (neg_v_up u)

pub quarter_up : {n : ℕ} {m : Three (Vect ℤ)} → UpC n m → UpC n (quarter ints m)
quarter_up {n} {m} u = record { x_up = u.y_up; y_up = neg_v_up u.x_up; z_up = u.z_up }

pub quarters_up : (i : ℕ) {n : ℕ} {m : Three (Vect ℤ)} → UpC n m → UpC n (quarters i m)
quarters_up zero u = u
quarters_up (suc i) u = quarter_up (quarters_up i u)

-- ---- a quarter, and an eighth, part by part
module _ (s : Declared.Rotation) (m : Machine.Vect) (m_is : vect m ≡ neg_v ints (vect s.x)) where
  pub quartered : rotation_of (record { x = s.y; y = m; z = s.z; e = s.e }) ≡ record { m = quarter ints (axes_of s); e = s.e }
  quartered = λ i. record { m = record { x = vect s.y; y = m_is i; z = vect s.z }; e = s.e }

  pub eighthed : (x y z : Machine.Vect) → vect x ≡ add_v ints (vect s.x) (vect s.y) → vect y ≡ add_v ints (vect s.y) (vect m)
      → vect z ≡ times_v ints (vect s.z)
      → rotation_of (record { x = x; y = y; z = z; e = s.e + 1 }) ≡ record { m = eighth ints (axes_of s); e = s.e + 1 }
  eighthed x y z x_is y_is z_is = λ i.
      record { m = record { x = x_is i; y = (y_is ∙ ap (add_v ints (vect s.y)) m_is) i; z = z_is i }; e = s.e + 1 }

-- ---- each way out of so many quarters, and what the next needs
abbrev Once : Declared.Rotation → Declared.Rotation → Type 0
Once q r = rotation_of r ≡ record { m = quarter ints (axes_of q); e = q.e }

pub once_up : {l : ℕ} (s r : Declared.Rotation) → Once s r → UpC l (axes_of s) → UpC l (axes_of r)
once_up s r e u = rw (ap (λ t. t.m) e) (quarter_up u)

module _ (n : ℕ) (s : Declared.Rotation) where
  abbrev Done : Declared.Rotation → Type 0
  Done r = rotation_of r ≡ record { m = quarters n (axes_of s); e = s.e }

  at : (i : ℕ) → n ≡ i → {r : Declared.Rotation} → rotation_of r ≡ record { m = quarters i (axes_of s); e = s.e } → Done r
  at i e h = h ∙ ap (λ j. record { m = quarters j (axes_of s); e = s.e }) (sym e)

  more : (i : ℕ) (q r : Declared.Rotation) → rotation_of q ≡ record { m = quarters i (axes_of s); e = s.e } → Once q r
      → rotation_of r ≡ record { m = quarters (suc i) (axes_of s); e = s.e }
  more i q r h k = k ∙ ap (λ t. record { m = quarter ints t.m; e = t.e }) h

  pub done_0 : n ≡ 0 → Done s
  done_0 e = at 0 e {r = s} refl

  pub done_1 : n ≡ 1 → (r : Declared.Rotation) → Once s r → Done r
  done_1 e r h = at 1 e {r = r} h

  module _ (q r : Declared.Rotation) (h : Once s q) (k : Once q r) where
    pub done_2 : n ≡ 2 → Done r
    done_2 e = at 2 e {r = r} (more 1 q r h k)

    pub done_3 : n < 4 → (n ≡ 0 → ⊥) → (n ≡ 1 → ⊥) → (n ≡ 2 → ⊥) → (t : Declared.Rotation) → Once r t → Done t
    done_3 l a b c t m = at 3 (omega (arith, a, b, c)) {r = t} (more 2 r t (more 1 q r h k) m)

-- one more quarter
pub quarter_more : (i : ℕ) (s q r : Declared.Rotation) → rotation_of q ≡ record { m = quarters i (axes_of s); e = s.e } → Once q r
    → rotation_of r ≡ record { m = quarters (i + 1) (axes_of s); e = s.e }
quarter_more i s q r h k = rw (add-one i) (k ∙ ap (λ t. record { m = quarter ints t.m; e = t.e }) h)

-- ---- r is s turned by n eighths beforehand
pub record Turned (n : ℕ) (s r : Rotation) : Type 0 where
  pub turned : (k : ℕ) (z w : Ω) → RotationOf (entries (with_n k 0 z w)) s → RotationOf (entries (with_n k n z w)) r
  pub e_few : r.e ≤ s.e + 1

module _ (k : ℕ) (z w : Ω) (s : Rotation) (h : RotationOf (entries (with_n k 0 z w)) s) where
  -- n modulo 8
  at_n : (m n : ℕ) (r : Rotation) → m ≡ n % 8 → RotationOf (entries (with_n k m z w)) r → RotationOf (entries (with_n k n z w)) r
  at_n m n r e g =
      subst (λ u. RotationOf u r) (mod_eight_same (with_n k n z w)) (subst (λ i. RotationOf (entries (with_n k i z w)) r) e g)

module _ (n : ℕ) (s r : Rotation) where
  pub turned_even : n % 8 % 2 ≡ 0 → r ≡ record { m = quarters (n % 8 / 2) s.m; e = s.e } → Turned n s r
  turned_even even is =
      record {
        turned = λ k z w h. at_n k z w s h (n % 8 / 2 + n % 8 / 2) n r (omega arith) (rw is (quarters_more k z w s h (n % 8 / 2)));
        e_few = omega (arith, ap (λ t. t.e) is);
      }

  pub turned_odd : (n % 8 % 2 ≡ 0 → ⊥) → (q : Rotation) → q ≡ record { m = quarters (n % 8 / 2) s.m; e = s.e }
      → r ≡ record { m = eighth ints q.m; e = q.e + 1 } → Turned n s r
  turned_odd odd q q-is r-is =
      let is = r-is ∙ ap (λ t. record { m = eighth ints t.m; e = t.e + 1 }) q-is in
      record {
        turned = λ k z w h.
            at_n k z w s h (n % 8 / 2 + n % 8 / 2 + 1) n r (omega (arith, odd))
            (rw is (eighth_more k (n % 8 / 2 + n % 8 / 2) z w (quarters (n % 8 / 2) s.m) s.e (quarters_more k z w s h (n % 8 / 2))));
        e_few = omega (arith, ap (λ t. t.e) is);
      }

-- what the eighth needs, and each way out of it
module _ (n i : ℕ) (s q : Declared.Rotation) (is : rotation_of q ≡ record { m = quarters i (axes_of s); e = s.e }) where
  pub quarters_up_of : UpC n (axes_of s) → UpC n (axes_of q)
  quarters_up_of u = rw (ap (λ t. t.m) is) (quarters_up i u)

  pub quarters_few : s.e < 255 → q.e < 255
  quarters_few l = omega (arith, ap (λ t. t.e) is)

-- ---- the rotation of a triple, over some power of root two
pub record WorkedOut (k n : ℕ) (z w : ZOmega) (r : Declared.Rotation) : Type 0 where
  pub is : RotationOf (entries (with_n k n (quad z) (quad w))) (rotation_of r)
  pub e_few : r.e ≤ 121

module _ (k n : ℕ) (z w : ZOmega) (few : k ≤ 60) (u : Unitary (with_n k 0 (quad z) (quad w))) (s : Declared.Rotation)
    (is : rotation_of s ≡ record { m = columns ints (quad z) (quad w); e = k + k }) where
  pub columns_high : UpC (2 ^ 60) (axes_of s)
  columns_high = rw (ap (λ t. t.m) is) (columns_up 60 k (quad z) (quad w) few u)

  pub columns_low : s.e < 255
  columns_low = omega (arith, ap (λ t. t.e) is)

  pub worked : (r : Declared.Rotation) → Turned n (rotation_of s) (rotation_of r) → WorkedOut k n z w r
  worked r t =
      record {
        is = t.turned k (quad z) (quad w) (rw is (columns_rotation k (quad z) (quad w)));
        e_few = omega (arith, t.e_few, ap (λ t. t.e) is);
      }
