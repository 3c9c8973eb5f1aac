-- How a letter acts on a reduced unitary triple within the limits: the exponent changes only with H, by at most one either way. Assumes nothing.
use Rattle.std.specs.Prelude.{◌≡◌, refl, Bool, true, false, not, ◌&&◌, T, pos, ◌+ℤ◌, ℕ, ◌≤◌, ◌<◌, ◌+◌, ◌-◌, ◌^◌}
use Rattle.std.proofs.Common.{sym, ◌∙◌, ap, ap₂, subst, arith, ne_eqb}
use Rattle.exact.specs.Meaning.Matrix.{Same, ◌·◌, unit}
use Rattle.exact.specs.Meaning.Word.{Letter, I, H, S, X, W, T', letter, byte}
use Rattle.exact.specs.Cases.Letters.{letter_of}
use Rattle.exact.proofs.Cases.Letters.{letter_of_byte}
use Rattle.exact.specs.Meaning.Triple.{Triple, entries, Unitary, Reduced}
use Rattle.exact.specs.Meaning.Limits.{deepest}
use Rattle.exact.specs.Meaning.Number.{Ω, ints, omegas, neg_q, mul_q, omega', omega^, odd, Sized}
use Rattle.exact.proofs.Whole.Parity.{odd_add, odd_sub, xr_comm}
use Rattle.exact.proofs.Algebra.Solver.{con, ◌⊗◌, ring₂}
use Rattle.exact.proofs.Algebra.Omega.{omegas_laws, times_omega}
use Rattle.exact.specs.Algebra.Over.{divides}
use Rattle.exact.proofs.Matrices.Same.{Same-refl, Same-sym, Same-trans, Same-of, Same-mul, mul_assoc, unit_mul}
use Rattle.exact.proofs.Matrices.Test.{same_by}
use Rattle.exact.specs.Matrices.Triples.{act}
use Rattle.exact.proofs.Matrices.Triples.{acts, unitary_same, unitary_act}
use Rattle.exact.proofs.Matrices.Sizes.{z_sized, w_sized, sized_le, add_sized, neg_sized, omega_sized}
use Rattle.exact.specs.Matrices.Least.{mod_eight, reduced_test, lowest}
use Rattle.exact.proofs.Matrices.Least.{mod_eight_same, test_reduced, reduced_test_lem}
use Rattle.ring.specs.Meaning.{quad}
use Rattle.ring.specs.Number.{Small}
use Rattle.ring.specs.declared.ZOmega.{ZOmega}
use Rattle.unitary.specs.Meaning.{triple, Answers}
use Rattle.unitary.specs.Checks.{both_test}
use Rattle.unitary.specs.declared.DOmegaUnitary.{DOmegaUnitary}

pub record Good (t : DOmegaUnitary) : Type 0 where
  pub unitary : Unitary (triple t)
  pub reduced : Reduced (triple t)
  pub n_small : t.n < 8

pub record Acted (l : Letter) (t r : DOmegaUnitary) : Type 0 where
  pub good : Good r
  pub same : Same (entries (triple r)) (letter l · entries (triple t))
  pub most : r.k ≤ t.k + 1
  pub least : t.k ≤ r.k + 1

-- ---- sizes
pub small_turned : {x r : ZOmega} → Small x → quad r ≡ mul_q ints (omega' ints) (quad x) → Small r
small_turned {x} s e = record { sized = rw e (omega_sized (2 ^ 31) (quad x) s.sized) }

pub twice_turned : {r : Ω} (x : Ω) → r ≡ mul_q ints (omega' ints) x → mul_q ints (omega' ints) r ≡ mul_q ints (omega^ 2) x
twice_turned x e =
    ap (mul_q ints (omega' ints)) e ∙ ring₂ omegas omegas_laws (λ o x. o ⊗ (o ⊗ x)) (λ o x. o ⊗ (o ⊗ con (pos 1)) ⊗ x) tt (omega' ints) x

-- ---- what synthesis takes off
-- T to the power -m, m at most 8
abbrev pub turned_back : ℕ → Triple → Triple
turned_back m t = record { k = t.k; n = t.n + (8 - m); z = t.z; w = mul_q ints (omega^ (8 - m)) t.w }

-- ---- within the limits, coefficients are small
module _ (t : DOmegaUnitary) (g : Good t) (h : t.k ≤ deepest) where
  z_sized' : Sized (2 ^ 30) (quad t.z)
  z_sized' = z_sized g.unitary 30 h

  w_sized' : Sized (2 ^ 30) (quad t.w)
  w_sized' = w_sized g.unitary 30 h

  pub good_z : Small t.z
  good_z = record { sized = sized_le (omega arith) z_sized' }

  pub good_w : Small t.w
  good_w = record { sized = sized_le (omega arith) w_sized' }

  pub h_k : (r : DOmegaUnitary) → triple r ≡ mod_eight (act H (triple t)) → r.k ≤ 61
  h_k r e = omega (arith, ap (λ u. u.k) e)

  -- and so are those after H
  pub h_small : (r : DOmegaUnitary) → triple r ≡ mod_eight (act H (triple t)) → Small r.z × Small r.w
  h_small r e = (
    record {
      sized =
          subst (Sized (2 ^ 31)) (sym (ap (λ u. u.z) e))
          (sized_le (omega arith) (add_sized (2 ^ 30) (2 ^ 30) (quad t.z) (quad t.w) z_sized' w_sized'));
    },
    record {
      sized =
          subst (Sized (2 ^ 31)) (sym (ap (λ u. u.w) e))
          (sized_le (omega arith)
          (add_sized (2 ^ 30) (2 ^ 30) (quad t.z) (neg_q ints (quad t.w)) z_sized' (neg_sized (2 ^ 30) (quad t.w) w_sized')));
    },
  )

-- ---- letters but H keep divisibility
and_comm : (p q : Bool) → p && q ≡ q && p
and_comm true true = refl
and_comm true false = refl
and_comm false true = refl
and_comm false false = refl

divides_omega : (x : Ω) → divides (mul_q ints (omega' ints) x) ≡ divides x
divides_omega x =
    ap divides (times_omega x)
    ∙ ap₂ (λ p q. not p && not q) (odd_sub x.c x.a ∙ sym (odd_add x.c x.a))
    (odd_add x.d x.b ∙ xr_comm (odd x.d) (odd x.b) ∙ sym (odd_add x.b x.d))
    ∙ and_comm (not (odd (x.c +ℤ x.a))) (not (odd (x.b +ℤ x.d)))

-- all letters but H
abbrev pub plain : Letter → Bool
plain I = true
plain H = false
plain S = true
plain X = true
plain W = true
plain T' = true

plain_both : (l : Letter) → T (plain l) → (t : Triple) → both_test (act l t) ≡ both_test t
plain_both I p t = refl
plain_both H p t = absurd p
plain_both S p t =
    ap (λ q. divides t.z && q)
    (ap divides (sym (twice_turned t.w refl)) ∙ divides_omega (mul_q ints (omega' ints) t.w) ∙ divides_omega t.w)
plain_both X p t = and_comm (divides t.w) (divides t.z)
plain_both W p t = ap₂ ◌&&◌ (divides_omega t.z) (divides_omega t.w)
plain_both T' p t = ap (λ q. divides t.z && q) (divides_omega t.w)

plain_k : (l : Letter) → T (plain l) → (t : Triple) → (act l t).k ≡ t.k
plain_k I p t = refl
plain_k H p t = absurd p
plain_k S p t = refl
plain_k X p t = refl
plain_k W p t = refl
plain_k T' p t = refl

-- ---- what a letter's product is
module _ (l : Letter) (t r : DOmegaUnitary) (e : triple r ≡ mod_eight (act l (triple t))) where
  pub moved_same : entries (triple r) ≡ letter l · entries (triple t)
  moved_same = ap entries e ∙ mod_eight_same (act l (triple t)) ∙ acts l (triple t)

  pub moved_unitary : Unitary (triple t) → Unitary (triple r)
  moved_unitary u = unitary_same (Same-of (sym (ap entries e ∙ mod_eight_same (act l (triple t))))) (unitary_act l u)

  pub moved_n : r.n < 8
  moved_n = omega (arith, ap (λ u. u.n) e)

acted_plain : (l : Letter) (t r : DOmegaUnitary) → T (plain l) → Good t → triple r ≡ mod_eight (act l (triple t)) → Acted l t r
acted_plain l t r p g e =
    record {
      good =
          record {
            unitary = moved_unitary l t r e g.unitary;
            reduced = test_reduced (triple r) (subst T (sym test) (reduced_test_lem (triple t) g.reduced));
            n_small = moved_n l t r e;
          };
      same = Same-of (moved_same l t r e);
      most = omega (arith, k_same);
      least = omega (arith, k_same);
    }
  where
    k_same : r.k ≡ t.k
    k_same = ap (λ u. u.k) e ∙ plain_k l p (triple t)

    test : reduced_test (triple r) ≡ reduced_test (triple t)
    test = ap₂ lowest k_same (ap both_test e ∙ plain_both l p (triple t))

acted_I : (t : DOmegaUnitary) → Good t → Acted I t t
acted_I t g = record { good = g; same = Same-of (acts I (triple t)); most = omega arith; least = omega arith }

acted_H : (t m r : DOmegaUnitary) → Good t → triple m ≡ mod_eight (act H (triple t)) → Answers (entries (triple m)) (triple r) → Acted H t r
acted_H t m r g e a =
    record {
      good = record { unitary = unitary_same (Same-sym a.same) (moved_unitary H t m e g.unitary); reduced = a.reduced; n_small = a.n_small };
      same = forth;
      most = omega (arith, a.reduced.least.least (entries (triple m)) a.same, ap (λ u. u.k) e);
      least = omega (arith, g.reduced.least.least (letter H · entries (triple r)) back);
    }
  where
    forth : Same (entries (triple r)) (letter H · entries (triple t))
    forth = Same-trans a.same (Same-of (moved_same H t m e))

    -- HH is the identity
    back : Same (entries (triple t)) (letter H · entries (triple r))
    back =
        Same-sym
        (Same-trans (Same-mul (Same-refl (letter H)) forth)
        (Same-trans (Same-of (sym (mul_assoc (letter H) (letter H) (entries (triple t)))))
        (Same-trans (Same-mul (same_by (letter H · letter H) unit tt) (Same-refl (entries (triple t)))) (Same-of (unit_mul (entries (triple t)))))))

-- ---- which letter a byte is
of_byte : {l : Letter} {t r : DOmegaUnitary} (g : ℕ) → letter_of g ≡ l → Acted l t r → Acted (letter_of g) t r
of_byte {l} {t} {r} g e a = subst (λ (k : Letter). Acted k t r) (sym e) a

pub byte_plain : (l : Letter) (g : ℕ) (t r : DOmegaUnitary) → g ≡ byte l → T (plain l) → Good t → triple r ≡ mod_eight (act l (triple t))
    → Acted (letter_of g) t r
byte_plain l g t r b p h e = of_byte g (ap letter_of b ∙ letter_of_byte l) (acted_plain l t r p h e)

pub byte_H : (g : ℕ) (t m r : DOmegaUnitary) → g ≡ byte H → Good t → triple m ≡ mod_eight (act H (triple t)) → Answers (entries (triple m)) (triple r)
    → Acted (letter_of g) t r
byte_H g t m r b h e a = of_byte g (ap letter_of b) (acted_H t m r h e a)

pub byte_none : (g : ℕ) (t : DOmegaUnitary) → (g ≡ 72 → ⊥) → (g ≡ 83 → ⊥) → (g ≡ 88 → ⊥) → (g ≡ 87 → ⊥) → (g ≡ 84 → ⊥) → Good t
    → Acted (letter_of g) t t
byte_none g t h s x w v good = of_byte g (rw (ne_eqb g 72 h, ne_eqb g 83 s, ne_eqb g 88 x, ne_eqb g 87 w, ne_eqb g 84 v)) (acted_I t good)
