-- Least exponents: of a triple it is k where k is 0 or root two does not divide both z and w. Every triple has a reduced one with its
-- matrix, every word a least exponent, and two reduced unitary triples with the same matrix are equal, n modulo 8. Assumes nothing.
use Rattle.std.specs.Prelude.{◌≡◌, refl, Bool, true, false, ◌&&◌, List, [], ◌∷◌, ℕ, zero, suc, ◌+◌, ◌-◌, ◌%◌, ◌<◌, T}
use Rattle.std.proofs.Common.{sym, ◌∙◌, ap, ap₂, arith}
use Rattle.std.proofs.Math.Facts.{and_yes, yes_and}
use Rattle.exact.specs.Meaning.Number.{Ω, ints, omegas, add_q, neg_q, mul_q, conj_q, omega^, root2, root2^}
use Rattle.exact.specs.Meaning.Matrix.{Mat, scale_m, Matrix, Same, Least}
use Rattle.exact.specs.Meaning.Word.{Letter, word}
use Rattle.exact.specs.Meaning.Triple.{Triple, entries, Unitary, Reduced}
use Rattle.exact.proofs.Algebra.Solver.{var, ◌⊕◌, ◌⊗◌, ⊖, solve}
use Rattle.exact.proofs.Algebra.Omega.{omegas_laws, root2^_add, root2^_cancel}
use Rattle.exact.proofs.Algebra.OmegaPower.{omega^_mod, omega^_same}
use Rattle.exact.proofs.Algebra.Norm.{norm, unitary_equation, two^}
use Rattle.exact.specs.Algebra.Over.{divides}
use Rattle.exact.proofs.Algebra.Over.{over_times, times_divides}
use Rattle.exact.proofs.Matrices.Laws.{scale_scale}
use Rattle.exact.proofs.Matrices.Same.{lifted, lifted_cancel, Same-refl, Same-sym, Same-trans, Same-of, Same-level}
use Rattle.exact.proofs.Matrices.Triples.{triple_of, word_triple}
use Rattle.exact.specs.Matrices.Divided.{Divided}
use Rattle.exact.proofs.Matrices.Divided.{divided_same}
use Rattle.exact.specs.Matrices.Least.{both, lowest, reduced_test, lowered, mod_eight, lower, reduce}

-- ---- of any matrix
pub least_unique : {x : Matrix} {j k : ℕ} → Least x j → Least x k → j ≡ k
least_unique {x} {j} {k} g h =
    omega (arith, g.least (record { m = h.written; e = k }) h.same, h.least (record { m = g.written; e = j }) g.same)

pub least_same : {x y : Matrix} {k : ℕ} → Same x y → Least x k → Least y k
least_same h l = record { written = l.written; same = Same-trans (Same-sym h) l.same; least = λ z k. l.least z (Same-trans h k) }

-- were a lower exponent enough, both would be multiples of root two
multiples : (t : Triple) (y : Matrix) → Same (entries t) y → y.e < t.k → T (divides t.z && divides t.w)
multiples t y h l = yes_and (divides t.z) (divides t.w) (at (λ m. m.p) (ap (λ m. m.p) e)) (at (λ m. m.r) (ap (λ m. m.r) e))
  where
    j : ℕ
    j = t.k - suc y.e

    split : t.k ≡ y.e + suc j
    split = omega arith

    e : (entries t).m ≡ lifted (suc j) y.m
    e =
        lifted_cancel y.e (entries t).m (lifted (suc j) y.m)
        (h.same
        ∙ ap (λ c. scale_m omegas c y.m) (ap root2^ split ∙ root2^_add y.e (suc j))
        ∙ scale_scale omegas omegas_laws (root2^ y.e) (root2^ (suc j)) y.m)

    at : (f : Mat Ω → Ω) → f (entries t).m ≡ mul_q ints (root2^ (suc j)) (f y.m) → T (divides (f (entries t).m))
    at f g = times_divides (f (entries t).m) (mul_q ints (root2^ j) (f y.m)) (g ∙ omegas_laws.mul_assoc (root2 ints) (root2^ j) (f y.m))

pub test_reduced : (t : Triple) → T (reduced_test t) → Reduced t
test_reduced t test = record { least = record { written = (entries t).m; same = Same-refl (entries t); least = λ y h. omega (arith, no_less y h) } }
  where
    clash : (k : ℕ) (b : Bool) (j : ℕ) → j < k → T (lowest k b) → T b → ⊥
    clash zero b j l s t = omega arith
    clash (suc k) true j l s t = s
    clash (suc k) false j l s t = t

    no_less : (y : Matrix) → Same (entries t) y → y.e < t.k → ⊥
    no_less y h l = clash t.k (both t) y.e l test (multiples t y h l)

pub lowered_divided : (k : ℕ) (t : Triple) → t.k ≡ suc k → T (divides t.z && divides t.w) → Divided 1 t (lowered k t)
lowered_divided k t e d =
    let each = and_yes (divides t.z) (divides t.w) d in
    record { k_is = omega (arith, e); n_is = refl; z_is = over_times t.z each.0; w_is = over_times t.w each.1 }

pub lowered_same : (k : ℕ) (t : Triple) → t.k ≡ suc k → T (divides t.z && divides t.w) → Same (entries (lowered k t)) (entries t)
lowered_same k t e d = divided_same 1 t (lowered k t) (lowered_divided k t e d)

-- the test is met by reduced triples alone
pub reduced_test_lem : (t : Triple) → Reduced t → T (reduced_test t)
reduced_test_lem t h = go t.k refl (both t) refl
  where
    go : (k : ℕ) → t.k ≡ k → (b : Bool) → both t ≡ b → T (lowest k b)
    go zero e b f = tt
    go (suc k) e false f = tt
    go (suc k) e true f = omega (arith, h.least.least (entries (lowered k t)) (Same-sym (lowered_same k t e (rw f tt))), e)

-- ---- every triple has a reduced one with its matrix, n from 0 to 7
pub record Reduces (t r : Triple) : Type 0 where
  pub same : Same (entries r) (entries t)
  pub reduced : Reduced r
  pub n_small : r.n < 8

pub mod_eight_same : (t : Triple) → entries (mod_eight t) ≡ entries t
mod_eight_same t =
    ap (λ u. record {
      m = record { p = t.z; q = neg_q ints (mul_q ints (conj_q ints t.w) u); r = t.w; s = mul_q ints (conj_q ints t.z) u };
      e = t.k;
    }) (sym (omega^_mod t.n))

here : (t : Triple) → T (reduced_test t) → Reduces t (mod_eight t)
here t test = record { same = Same-of (mod_eight_same t); reduced = test_reduced (mod_eight t) test; n_small = omega arith }

lower_reduces : (k : ℕ) (t : Triple) → t.k ≡ k → Reduces t (lower k t)
lower_reduces zero t e = here t (rw e tt)
lower_reduces (suc k) t e = go (both t) refl (lower_reduces k (lowered k t) refl)
  where
    go : (b : Bool) → both t ≡ b → Reduces (lowered k t) (lower k (lowered k t))
        → Reduces t (elim b [ true ↦ lower k (lowered k t) | false ↦ mod_eight t ])
    go true f r = record { same = Same-trans r.same (lowered_same k t e (rw f tt)); reduced = r.reduced; n_small = r.n_small }
    go false f r = here t (rw (e, f) tt)

pub reduce_reduces : (t : Triple) → Reduces t (reduce t)
reduce_reduces t = lower_reduces t.k t refl

-- a word's least exponent
pub exponent : List Letter → ℕ
exponent u = (reduce (triple_of u)).k

pub exponent_least : (u : List Letter) → Least (word u) (exponent u)
unfolding exponent
exponent_least u =
    let r = reduce_reduces (triple_of u) in
    least_same (Same-trans r.same (Same-of (word_triple u))) r.reduced.least

-- ---- reduced unitary triples with the same matrix are equal, n modulo 8
pub record Alike (s t : Triple) : Type 0 where
  pub k_same : s.k ≡ t.k
  pub z_same : s.z ≡ t.z
  pub w_same : s.w ≡ t.w
  pub n_same : s.n % 8 ≡ t.n % 8

pub reduced_unique : {s t : Triple} → Unitary s → Reduced s → Reduced t → Same (entries s) (entries t) → Alike s t
reduced_unique {s} {t} u rs rt h =
    record { k_same = k_is; z_same = ap (λ m. m.p) e; w_same = ap (λ m. m.r) e; n_same = omega^_same s.n t.n phase }
  where
    k_is : s.k ≡ t.k
    k_is = least_unique rs.least (least_same (Same-sym h) rt.least)

    e : (entries s).m ≡ (entries t).m
    e = Same-level h k_is

    -- the second column times the first is 2 to the k, times omega^n
    column : (r : Triple)
        → add_q ints (mul_q ints (entries r).m.p (entries r).m.s) (neg_q ints (mul_q ints (entries r).m.r (entries r).m.q))
        ≡ mul_q ints (add_q ints (norm r.z) (norm r.w)) (omega^ r.n)
    column r =
        solve omegas omegas_laws (r.z ∷ conj_q ints r.z ∷ r.w ∷ conj_q ints r.w ∷ omega^ r.n ∷ [])
        (var 0 ⊗ (var 1 ⊗ var 4) ⊕ ⊖ (var 2 ⊗ ⊖ (var 3 ⊗ var 4))) ((var 0 ⊗ var 1 ⊕ var 2 ⊗ var 3) ⊗ var 4) tt

    size : add_q ints (norm s.z) (norm s.w) ≡ mul_q ints (root2^ s.k) (root2^ s.k)
    size = unitary_equation u ∙ two^ s.k

    phase : omega^ s.n ≡ omega^ t.n
    phase =
        root2^_cancel s.k (omega^ s.n) (omega^ t.n)
        (root2^_cancel s.k (mul_q ints (root2^ s.k) (omega^ s.n)) (mul_q ints (root2^ s.k) (omega^ t.n))
        (sym (omegas_laws.mul_assoc (root2^ s.k) (root2^ s.k) (omega^ s.n))
        ∙ ap (λ x. mul_q ints x (omega^ s.n)) (sym size)
        ∙ sym (column s)
        ∙ ap (λ m. add_q ints (mul_q ints m.p m.s) (neg_q ints (mul_q ints m.r m.q))) e
        ∙ column t
        ∙ ap (λ x. mul_q ints x (omega^ t.n)) (ap₂ (λ x y. add_q ints (norm x) (norm y)) (sym (ap (λ m. m.p) e)) (sym (ap (λ m. m.r) e)) ∙ size)
        ∙ omegas_laws.mul_assoc (root2^ s.k) (root2^ s.k) (omega^ t.n)))

-- with n from 0 to 7 they are equal
pub answer_unique : {s t : Triple} → Unitary s → Reduced s → Reduced t → s.n < 8 → t.n < 8 → Same (entries s) (entries t) → s ≡ t
answer_unique {s} {t} u rs rt ns nt h =
    let a : Alike s t = reduced_unique u rs rt h in
    let n : s.n ≡ t.n = low s.n t.n ns nt a.n_same in
    λ i. record { k = a.k_same i; n = n i; z = a.z_same i; w = a.w_same i }
  where
    low : (m n : ℕ) → m < 8 → n < 8 → m % 8 ≡ n % 8 → m ≡ n
    low m n hm hn e = omega arith
