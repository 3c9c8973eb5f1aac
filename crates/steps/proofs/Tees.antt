-- No T of a synthesised word is lost: after the first step m is not 0, two steps with m = 2 never follow each other, so between two T
-- stands H, SH, HSH or SHSH; some vector's turned parities show every T, and a normal word for any beginning of the letters has as many T
-- letters as it. Assumes nothing.
use Rattle.std.specs.Prelude.{◌≡◌, refl, Bool, true, false, List, [], ◌∷◌, ◌++◌, ℕ, zero, suc, ◌+◌, ◌-◌, ◌*◌, ◌≤◌, ◌<◌, ℤ, pos, ◌+ℤ◌}
use Rattle.std.proofs.Common.{sym, ◌∙◌, ap, ap₂, arith}
use Rattle.exact.specs.Meaning.Number.{ints, add_q, odd, bit, residue}
use Rattle.exact.specs.Meaning.Matrix.{Matrix, ◌·◌, Same}
use Rattle.exact.specs.Meaning.Word.{Letter, H, S, X, W, T', letter, word, tees}
use Rattle.exact.specs.Meaning.Normal.{times, Normal}
use Rattle.exact.specs.Meaning.Triple.{Triple, entries}
use Rattle.exact.specs.Meaning.Rotation.{Vect}
use Rattle.exact.proofs.Whole.Parity.{xr_comm, false_true}
use Rattle.exact.proofs.Algebra.Omega.{quad_path}
use Rattle.exact.proofs.Matrices.Same.{mul_assoc, Same-refl, Same-sym, Same-trans, Same-of, Same-mul}
use Rattle.exact.proofs.Matrices.Test.{same_by}
use Rattle.exact.proofs.Matrices.Words.{word_append, Same-append}
use Rattle.exact.specs.Matrices.Triples.{act}
use Rattle.exact.proofs.Matrices.Triples.{acts}
use Rattle.exact.proofs.Rotation.Parity.{Par, par, none, s_of, pturn_l, pturn, Seen, fewest, same_count}
use Rattle.exact.proofs.Unique.Tails.{e₁, tees_append}
use Rattle.exact.proofs.Unique.Normal.{normal_seen, normal_fewest}
use Rattle.steps.specs.Meaning.{power_by, power}
use Rattle.steps.proofs.Residues.{odds, itself, even_sum}
use Rattle.steps.specs.Step.{Ready, block, falls, next}
use Rattle.steps.proofs.Step.{power_few, next_ready, step_same}
use Rattle.steps.proofs.Step.{every, two_lower, next_falls, next_stays, then_falls}
use Rattle.steps.specs.Closing.{closing, spell, lead, swaps, quarters, phase}
use Rattle.steps.specs.Steps.{letters}
use Rattle.steps.proofs.Steps.{by_steps, letters_end, letters_more, letters_same}

-- ---- two steps lower k
next_k : (t : Triple) (k : ℕ) → Ready t → t.k ≡ suc k → (next t).k ≤ t.k
next_k t k r e = go (falls t) refl
  where
    go : (b : Bool) → falls t ≡ b → (next t).k ≤ t.k
    go true f = omega (arith, e, ap (λ s. s.k) (next_falls t k r e f))
    go false f = omega (arith, ap (λ s. s.k) (next_stays t k r e f))

-- where z + w is even, m is 0
power_0 : (t : Triple) → odds (add_q ints t.z t.w) ≡ every false → power t ≡ 0
power_0 t e = ap (λ r. power_by r (residue t.w)) same_residue ∙ itself (residue t.w)
  where
    alike : (a b : ℤ) → odd (a +ℤ b) ≡ false → odd a ≡ odd b
    alike a b f = even_sum a b (a +ℤ b) refl f

    odds_same : odds t.z ≡ odds t.w
    odds_same =
        quad_path
        (alike t.z.a t.w.a (ap (λ q. q.a) e))
        (alike t.z.b t.w.b (ap (λ q. q.b) e))
        (alike t.z.c t.w.c (ap (λ q. q.c) e))
        (alike t.z.d t.w.d (ap (λ q. q.d) e))

    same_residue : residue t.z ≡ residue t.w
    same_residue = ap (λ q. bit q.a * 8 + bit q.b * 4 + bit q.c * 2 + bit q.d) odds_same

module _ (t : Triple) (k j : ℕ) (r : Ready t) (e : t.k ≡ suc k) (f : (next t).k ≡ suc j) where
  ready : Ready (next t)
  ready = next_ready r.unitary

  two_steps : (next (next t)).k < t.k
  two_steps = go (falls t) refl
    where
      go : (b : Bool) → falls t ≡ b → (next (next t)).k < t.k
      go true g = omega (arith, e, ap (λ s. s.k) (next_falls t k r e g), next_k (next t) j ready f)
      go false g =
          let lower = next_falls (next t) j ready f (then_falls t k r e g) in
          omega (arith, f, ap (λ s. s.k) (next_stays t k r e g), ap (λ s. s.k) lower)

  -- the matrix after two steps, and the two blocks before it
  abbrev y : Matrix
  y = entries (next (next t))

  both_same : Same (word (block (power t) ++ block (power (next t))) · y) (entries t)
  both_same =
      Same-trans (Same-of (ap (λ x. x · y) (word_append u v) ∙ mul_assoc (word u) (word v) y))
      (Same-trans (Same-mul (Same-refl (word u)) (step_same (next t))) (step_same t))
    where
      u : List Letter
      u = block (power t)

      v : List Letter
      v = block (power (next t))

  -- H-as-H goes, and T^m would leave k as it was
  abbrev first : ℕ → List Letter
  first zero = []
  first (suc zero) = T' ∷ []
  first (suc (suc zero)) = S ∷ []
  first (suc (suc (suc m))) = T' ∷ S ∷ []

  struck : (m : ℕ) → Same (word (block m ++ block 0)) (word (first m))
  struck zero = same_by (word (block 0 ++ block 0)) (word (first 0)) tt
  struck (suc zero) = same_by (word (block 1 ++ block 0)) (word (first 1)) tt
  struck (suc (suc zero)) = same_by (word (block 2 ++ block 0)) (word (first 2)) tt
  struck (suc (suc (suc m))) = same_by (word (block 3 ++ block 0)) (word (first 3)) tt

  first_e : (m : ℕ) → (word (first m)).e ≡ 0
  first_e zero = refl
  first_e (suc zero) = refl
  first_e (suc (suc zero)) = refl
  first_e (suc (suc (suc m))) = refl

  pub then_not_0 : power (next t) ≡ 0 → ⊥
  then_not_0 g =
      let s : Same (word (block (power t) ++ block (power (next t)))) (word (first (power t))) = rw g (struck (power t)) in
      let written = Same-trans (Same-sym both_same) (Same-mul s (Same-refl y)) in
      omega (arith, two_steps, first_e (power t), r.reduced.least.least (word (first (power t)) · y) written)

  -- H·SH·SH is SSSW, so that H alone would lower k by one: then z and w have the same residue, and m is 0
  pub not_2_2 : power t ≡ 2 → power (next t) ≡ 2 → ⊥
  not_2_2 g h =
      let even : odds (add_q ints t.z t.w) ≡ every false = two_lower (entries (act H t)) lower written (omega (arith, two_steps)) in
      omega (arith, power_0 t even)
    where
      lower : Matrix
      lower = word (S ∷ S ∷ S ∷ W ∷ []) · y

      both : List Letter
      both = block 2 ++ block 2

      two : Same (word both · y) (entries t)
      two = rw (g, h) at both_same

      written : Same (entries (act H t)) lower
      written =
          Same-trans (Same-of (acts H t))
          (Same-trans (Same-mul (Same-refl (letter H)) (Same-sym two))
          (Same-trans (Same-of (sym (mul_assoc (letter H) (word both) y)))
          (Same-mul (same_by (word (H ∷ both)) (word (S ∷ S ∷ S ∷ W ∷ [])) tt) (Same-refl y))))

-- ---- parities that show every T
-- a T leaves the first, SH after it the second
abbrev after_t : Par
after_t = record { x = true; y = true; z = false }

abbrev after_s : Par
after_s = record { x = true; y = false; z = true }

data Bright (t : Triple) : Type 0 where
  by_T : (at : Vect ℤ) → pturn (letters t) (par at) ≡ after_t → Bright t
  by_S : (at : Vect ℤ) → pturn (letters t) (par at) ≡ after_s → 0 < t.k → power t ≡ 2 → Bright t
  by_H : (at : Vect ℤ) → (pturn (letters t) (par at) ≡ none → ⊥) → 0 < t.k → power t ≡ 0 → Bright t

pturn_append : (u v : List Letter) (a : Par) → pturn (u ++ v) a ≡ pturn u (pturn v a)
pturn_append [] v a = refl
pturn_append (l ∷ u) v a = ap (pturn_l l) (pturn_append u v a)

-- ---- the closing letters
x_still : (n : ℕ) (a : Par) → pturn (times n X) a ≡ a
x_still zero a = refl
x_still (suc n) a = x_still n a

w_still : (n : ℕ) (a : Par) → pturn (times n W) a ≡ a
w_still zero a = refl
w_still (suc n) a = w_still n a

s_after_t : (n : ℕ) → pturn (times n S) after_t ≡ after_t
s_after_t zero = refl
s_after_t (suc n) = ap (pturn_l S) (s_after_t n)

s_sum : (n : ℕ) (a : Par) → s_of (pturn (times n S) a) ≡ s_of a
s_sum zero a = refl
s_sum (suc n) a = xr_comm (pturn (times n S) a).y (pturn (times n S) a).x ∙ s_sum n a

tail_turn : (q s m : ℕ) (a : Par) → pturn (times q X ++ (times s S ++ times m W)) a ≡ pturn (times s S) a
tail_turn q s m a =
    pturn_append (times q X) (times s S ++ times m W) a
    ∙ x_still q (pturn (times s S ++ times m W) a)
    ∙ pturn_append (times s S) (times m W) a
    ∙ ap (pturn (times s S)) (w_still m a)

-- (1,1,0)
both_axes : Vect ℤ
both_axes = record { x = record { p = pos 1; q = pos 0 }; y = record { p = pos 1; q = pos 0 }; z = record { p = pos 0; q = pos 0 } }

record Shows (u : List Letter) : Type 0 where
  at : Vect ℤ
  shown : pturn u (par at) ≡ after_t

closing_shows : (t : Triple) → Shows (closing t)
unfolding closing both_axes
closing_shows t = go (lead t) (swaps t) (quarters t) (phase t) (omega arith)
  where
    go : (p q s m : ℕ) → p < 2 → Shows (spell p q s m)
    go zero q s m h = record { at = both_axes; shown = tail_turn q s m (par both_axes) ∙ s_after_t s }
    go (suc zero) q s m h = record {
      at = e₁;
      shown = ap (λ b. record { x = b; y = b; z = false }) (ap s_of (tail_turn q s m (par e₁)) ∙ s_sum s (par e₁));
    }
    go (suc (suc p)) q s m h = absurd (omega arith)

-- ---- the steps
module _ (t : Triple) (k : ℕ) (r : Ready t) (e : t.k ≡ suc k) where
  over : (m : ℕ) (at : Vect ℤ) (a : Par)
      → power t ≡ m
      → pturn (letters (next t)) (par at) ≡ a
      → pturn (letters t) (par at) ≡ pturn (block m) a
  over m at a g h =
      ap (λ u. pturn u (par at)) (letters_more t k r e)
      ∙ pturn_append (block (power t)) (letters (next t)) (par at)
      ∙ ap₂ (λ n b. pturn (block n) b) g h

  later : 0 < (next t).k → (next t).k ≡ suc ((next t).k - 1)
  later h = omega arith

  on_T : (m : ℕ) (at : Vect ℤ) → power t ≡ m → m < 4 → pturn (letters (next t)) (par at) ≡ after_t → Bright t
  on_T zero at g l h = by_H at (λ n. false_true (sym (ap (λ a. a.y) n) ∙ ap (λ a. a.y) (over 0 at after_t g h))) (omega arith) g
  on_T (suc zero) at g l h = by_T at (over 1 at after_t g h)
  on_T (suc (suc zero)) at g l h = by_S at (over 2 at after_t g h) (omega arith) g
  on_T (suc (suc (suc zero))) at g l h = by_T at (over 3 at after_t g h)
  on_T (suc (suc (suc (suc m)))) at g l h = absurd (omega arith)

  on_S : (m : ℕ) (at : Vect ℤ)
      → power t ≡ m
      → m < 4
      → pturn (letters (next t)) (par at) ≡ after_s
      → 0 < (next t).k
      → power (next t) ≡ 2
      → Bright t
  on_S zero at g l h i j = by_H at (λ n. false_true (sym (ap (λ a. a.x) n) ∙ ap (λ a. a.x) (over 0 at after_s g h))) (omega arith) g
  on_S (suc zero) at g l h i j = by_T at (over 1 at after_s g h)
  on_S (suc (suc zero)) at g l h i j = absurd (not_2_2 t k ((next t).k - 1) r e (later i) g j)
  on_S (suc (suc (suc zero))) at g l h i j = by_T at (over 3 at after_s g h)
  on_S (suc (suc (suc (suc m)))) at g l h i j = absurd (omega arith)

  step_bright : Bright (next t) → Bright t
  step_bright (by_T at h) = on_T (power t) at refl (power_few t) h
  step_bright (by_S at h i j) = on_S (power t) at refl (power_few t) h i j
  step_bright (by_H at h i j) = absurd (then_not_0 t k ((next t).k - 1) r e (later i) j)

letters_bright : (t : Triple) → Ready t → Bright t
letters_bright =
    by_steps Bright
    (λ t r e. let s = closing_shows t in by_T s.at (ap (λ u. pturn u (par s.at)) (letters_end t e) ∙ s.shown))
    (λ t k r e b. step_bright t k r e b)

pub letters_seen : (t : Triple) → Ready t → Seen (letters t)
letters_seen t r = go (letters_bright t r)
  where
    go : Bright t → Seen (letters t)
    go (by_T at h) = record { at = at; odd_there = λ n. false_true (sym (ap (λ a. a.x) n) ∙ ap (λ a. a.x) h) }
    go (by_S at h i j) = record { at = at; odd_there = λ n. false_true (sym (ap (λ a. a.x) n) ∙ ap (λ a. a.x) h) }
    go (by_H at h i j) = record { at = at; odd_there = h }

-- ---- the T letters before normalising are those of the answer
pub tees_kept : (t : Triple) (v : List Letter) → Ready t → Normal v → Same (word v) (entries t) → tees (letters t) ≡ tees v
tees_kept t v r n h = same_count (letters t) v (Same-trans (letters_same t r) (Same-sym h)) (letters_seen t r) (normal_seen n)

-- and so for each beginning of the letters: reading one more T never takes a T away
pub beginning_kept : (t : Triple) (u v n : List Letter) → Ready t → letters t ≡ u ++ v → Normal n → Same (word n) (word u) → tees n ≡ tees u
beginning_kept t u v n r e m h =
    omega (
      arith,
      normal_fewest u (Same-sym h) m,
      ap tees e,
      tees_append u v,
      tees_append n v,
      fewest (n ++ v) (letters t) (Same-trans (Same-append n u v v h (Same-refl (word v))) (Same-of (ap word (sym e)))) (letters_seen t r),
    )
