-- The step in code: what each function on the way hands on, and that the answer is the case of the definition `reduction`. Assumes nothing.
use Rattle.std.specs.Prelude.{◌≡◌, refl, Bool, true, false, T}
use Rattle.std.proofs.Common.{sym, ◌∙◌, ap₂, subst, arith}
use Rattle.std.proofs.Math.Path.{ap}
use Prim.Native.Nat.{ℕ, zero, suc, ◌+◌, ◌-◌, ◌/◌, ◌%◌, ◌^◌, ◌≤◌, ◌<◌}
use Rattle.exact.specs.Meaning.Number.{Ω, ints, add_q, neg_q, mul_q, omega', omega^, odd, bit, residue, Sized}
use Rattle.exact.specs.Meaning.Word.{H}
use Rattle.exact.specs.Meaning.Triple.{Triple, Unitary}
use Rattle.exact.specs.Meaning.Limits.{deepest}
use Rattle.exact.proofs.Algebra.Omega.{omegas_laws}
use Rattle.exact.specs.Algebra.Twos.{Multiple}
use Rattle.exact.specs.Matrices.Triples.{act}
use Rattle.exact.specs.Matrices.Divided.{Divided}
use Rattle.exact.proofs.Matrices.Divided.{divided_once}
use Rattle.exact.specs.Matrices.Least.{mod_eight, reduced_test}
use Rattle.exact.proofs.Matrices.Least.{test_reduced, reduced_test_lem}
use Rattle.exact.proofs.Matrices.Sizes.{z_sized, w_sized, sized_le, add_sized, neg_sized, omega_sized}
use Rattle.ring.specs.Meaning.{quad}
use Rattle.ring.specs.Number.{Small}
use Rattle.unitary.specs.declared.DOmegaUnitary.{DOmegaUnitary}
use Rattle.unitary.specs.Meaning.{triple}
use Rattle.unitary.specs.Acts.{Good, turned_back}
use Rattle.unitary.specs.Checks.{both_test}
use Rattle.steps.specs.Meaning.{power_by, power}
use Rattle.steps.specs.Residues.{back, falls_by}
use Rattle.steps.proofs.Residues.{power_by_few}
use Rattle.steps.specs.Step.{Ready, Ended, Stepped, reduction, falls, next}
use Rattle.steps.proofs.Step.{next_ready, next_n}
use Rattle.steps.proofs.Steps.{left_few, left_next}
use Rattle.steps.specs.Step.{explicit}
use Rattle.steps.proofs.Step.{fallen, stayed, falls_even, stays_once}
use Rattle.steps.proofs.Step.{fallen_divided, stayed_divided, next_falls, next_stays}
use Rattle.steps.proofs.Synthesised.{reduction_stepped}
use Rattle.synthesis_of_clifford_t.specs.declared.reduced.Reduced.{Reduced}

-- no step, where k is 0
pub reduction_ended : (t : Triple) → t.k ≡ 0 → reduction t ≡ Ended
reduction_ended t e = ap (λ k. elim k [ zero ↦ Ended | suc k ↦ Stepped (power t) (next t) ]) e

pub residue_few : {r : ℕ} (x : Ω) → r ≡ residue x → r < 16
residue_few x e = omega (arith, few (odd x.a), few (odd x.b), few (odd x.c), few (odd x.d))
  where
    few : (b : Bool) → bit b ≤ 1
    few true = omega arith
    few false = omega arith

pub power_fits : (m p q : ℕ) → m ≡ power_by p q → m < 4
power_fits m p q e = omega (arith, power_by_few p q)

pub good_ready : {t : DOmegaUnitary} → Good t → Ready (triple t)
good_ready g = record { unitary = g.unitary; reduced = g.reduced }

pub good_of : (r : Reduced) → Good r.matrix
good_of r = record { unitary = r.unitary; reduced = test_reduced (triple r.matrix) r.reduced; n_small = r.n_small }

-- ---- what a step hands on: v behind t
module _ {t v : DOmegaUnitary} {m : ℕ} (g : Good t) (h : t.k ≤ deepest) (is : Stepped m (triple v) ≡ reduction (triple t)) where
  step_some : 0 < t.k
  step_some = go t.k refl
    where
      go : (k : ℕ) → t.k ≡ k → 0 < k
      go zero e = cc (is, reduction_ended (triple t) e)
      go (suc k) e = omega arith

  k_one_more : t.k ≡ suc (t.k - 1)
  k_one_more = omega (arith, step_some)

  is_next : triple v ≡ next (triple t)
  is_next = cc (is ∙ reduction_stepped (triple t) (t.k - 1) k_one_more)

  step_ready : Ready (triple v)
  step_ready = rw is_next (next_ready g.unitary)

  pub next_unitary : Unitary (triple v)
  next_unitary = step_ready.unitary

  pub next_reduced : T (reduced_test (triple v))
  next_reduced = reduced_test_lem (triple v) step_ready.reduced

  pub next_n_small : v.n < 8
  next_n_small = omega (arith, next_n (triple t), ap (λ (u : Triple). u.n) is_next)

  pub next_few : v.k ≤ deepest
  next_few =
      omega (
        arith,
        (left_few (next (triple t))).0,
        left_next (triple t) (t.k - 1) (good_ready g) k_one_more,
        (left_few (triple t)).1,
        h,
        ap (λ (u : Triple). u.k) is_next,
      )

-- ---- sizes
power_sized : (n j : ℕ) (x : Ω) → Sized n x → Sized n (mul_q ints (omega^ j) x)
power_sized n zero x s = rw (omegas_laws.one_mul x) s
power_sized n (suc j) x s =
    rw (omegas_laws.mul_assoc (omega' ints) (omega^ j) x) (omega_sized n (mul_q ints (omega^ j) x) (power_sized n j x s))

-- omega^-m·w is as small as w
pub small_turned : {x r : Ω} (n j : ℕ) → Sized n x → r ≡ mul_q ints (omega^ j) x → Sized n r
small_turned {x} n j s e = rw e (power_sized n j x s)

n_again : (a : ℕ) → (a % 8 + 4) % 8 ≡ (a + 4) % 8
n_again a = omega (arith, quotients)
  where
    quotients : (a + 4) / 8 ≡ a / 8 + (a % 8 + 4) / 8
    quotients = omega arith

-- ---- H·T^-m from the left: r after T^-m, s after H
module _ (t : DOmegaUnitary) (g : Good t) (h : t.k ≤ deepest) (m : ℕ) where
  module _ (r : DOmegaUnitary) (e : triple r ≡ mod_eight (turned_back m (triple t))) where
    z_in : Sized (2 ^ 30) (quad r.z)
    z_in = rw (ap (λ u. u.z) e) (z_sized g.unitary 30 h)

    w_in : Sized (2 ^ 30) (quad r.w)
    w_in = small_turned (2 ^ 30) (8 - m) (w_sized g.unitary 30 h) (ap (λ u. u.w) e)

    pub turned_z : Small r.z
    turned_z = record { sized = sized_le (omega arith) z_in }

    pub turned_w : Small r.w
    turned_w = record { sized = sized_le (omega arith) w_in }

    pub turned_n : r.n < 8
    turned_n = omega (arith, ap (λ u. u.n) e)

    pub turned_k : r.k < 255
    turned_k = omega (arith, ap (λ u. u.k) e)

    module _ (s : DOmegaUnitary) (f : triple s ≡ mod_eight (act H (triple r))) where
      pub raised_z : Small s.z
      raised_z = record { sized = rw (ap (λ u. u.z) f) (sized_le (omega arith) sum) }
        where
          sum : Sized (2 ^ 30 + 2 ^ 30) (add_q ints (quad r.z) (quad r.w))
          sum = add_sized (2 ^ 30) (2 ^ 30) (quad r.z) (quad r.w) z_in w_in

      pub raised_w : Small s.w
      raised_w = record { sized = rw (ap (λ u. u.w) f) (sized_le (omega arith) difference) }
        where
          less : Ω
          less = neg_q ints (quad r.w)

          difference : Sized (2 ^ 30 + 2 ^ 30) (add_q ints (quad r.z) less)
          difference = add_sized (2 ^ 30) (2 ^ 30) (quad r.z) less z_in (neg_sized (2 ^ 30) (quad r.w) w_in)

      raised_k : s.k ≡ suc t.k
      raised_k = ap (λ u. u.k) f ∙ ap (λ u. suc u.k) e

      pub raised_over_0 : 0 < s.k
      raised_over_0 = omega (arith, raised_k)

      pub raised_over_1 : (t.k ≡ 0 → ⊥) → 1 < s.k
      raised_over_1 some = omega (arith, raised_k, some)

      raised_is : triple s ≡ mod_eight (explicit m (triple t))
      unfolding back
      raised_is =
          f
          ∙ ap (λ u. mod_eight (act H u)) e
          ∙ (λ i. record { k = suc t.k; n = n_again (t.n + (8 - m)) i; z = (explicit m (triple t)).z; w = (explicit m (triple t)).w })

      -- ---- what the step answers: p and q are the residues, b whether k falls
      module _ (some : t.k ≡ 0 → ⊥) (p q : ℕ) (p-is : p ≡ residue (quad t.z)) (q-is : q ≡ residue (quad t.w)) where
        module _ (m-by : m ≡ power_by p q) (b : Bool) (b-is : b ≡ falls_by p q) (v : DOmegaUnitary) where
          k_is : t.k ≡ suc (t.k - 1)
          k_is = omega (arith, some)

          m_is : m ≡ power (triple t)
          m_is = m-by ∙ ap₂ power_by p-is q-is

          falls_is : falls (triple t) ≡ b
          falls_is = sym (b-is ∙ ap₂ falls_by p-is q-is)

          is : triple s ≡ mod_eight (explicit (power (triple t)) (triple t))
          is = raised_is ∙ ap (λ j. mod_eight (explicit j (triple t))) m_is

          stepped : triple v ≡ next (triple t) → Stepped m (triple v) ≡ reduction (triple t)
          stepped h = ap₂ Stepped m_is h ∙ sym (reduction_stepped (triple t) (t.k - 1) k_is)

          -- k falls: halved once
          module _ (down : b ≡ true) where
            evens : Multiple 1 (quad s.z) × Multiple 1 (quad s.w)
            evens =
                subst (λ (u : Triple). Multiple 1 u.z × Multiple 1 u.w) (sym is)
                (falls_even (triple t) (t.k - 1) (good_ready g) k_is (falls_is ∙ down))

            pub raised_even_z : Multiple 1 (quad s.z)
            raised_even_z = evens.0

            pub raised_even_w : Multiple 1 (quad s.w)
            raised_even_w = evens.1

            pub step_falls : Divided 2 (triple s) (triple v) → Stepped m (triple v) ≡ reduction (triple t)
            step_falls d =
                stepped
                (divided_once 2 (triple s) (triple v) (fallen (t.k - 1) (triple t)) d
                (subst (λ (u : Triple). Divided 2 u (fallen (t.k - 1) (triple t))) (sym is)
                (fallen_divided (triple t) (t.k - 1) (good_ready g) k_is (falls_is ∙ down)))
                ∙ sym (next_falls (triple t) (t.k - 1) (good_ready g) k_is (falls_is ∙ down)))

          -- k stays: divided once
          module _ (same : b ≡ false) where
            pub raised_both : T (both_test (triple s))
            raised_both = subst (λ (u : Triple). T (both_test u)) (sym is) (stays_once (triple t) (t.k - 1) (good_ready g) k_is (falls_is ∙ same))

            pub step_stays : Divided 1 (triple s) (triple v) → Stepped m (triple v) ≡ reduction (triple t)
            step_stays d =
                stepped
                (divided_once 1 (triple s) (triple v) (stayed (triple t)) d
                (subst (λ (u : Triple). Divided 1 u (stayed (triple t))) (sym is)
                (stayed_divided (triple t) (t.k - 1) (good_ready g) k_is (falls_is ∙ same)))
                ∙ sym (next_stays (triple t) (t.k - 1) (good_ready g) k_is (falls_is ∙ same)))
