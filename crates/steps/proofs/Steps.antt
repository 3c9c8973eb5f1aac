-- Step after step until k is 0: there are at most two for each k, and the letters are those of the steps and then the closing ones.
-- Assumes nothing.
use Rattle.std.specs.Prelude.{◌≡◌, refl, Bool, true, false, List, ◌++◌}
use Rattle.std.proofs.Common.{sym, ◌∙◌, arith}
use Rattle.std.proofs.Math.Path.{ap}
use Prim.Native.Nat.{ℕ, zero, suc, ◌-◌, ◌*◌, ◌≤◌, ◌<◌}
use Rattle.exact.specs.Meaning.Matrix.{Same}
use Rattle.exact.specs.Meaning.Word.{Letter, word}
use Rattle.exact.specs.Meaning.Triple.{Triple, entries}
use Rattle.exact.proofs.Matrices.Same.{Same-refl, Same-trans, Same-of, Same-mul}
use Rattle.exact.proofs.Matrices.Words.{word_append}
use Rattle.steps.specs.Meaning.{power}
use Rattle.steps.specs.Step.{Ready, block, falls, next}
use Rattle.steps.proofs.Step.{next_ready, step_same}
use Rattle.steps.proofs.Step.{next_falls, next_stays, then_falls}
use Rattle.steps.specs.Closing.{closing}
use Rattle.steps.proofs.Closing.{closing_is}
use Rattle.steps.specs.Steps.{left_by, left, within, gathered, letters, steps}

left_by_few : (b : Bool) (k : ℕ) → (2 * k - 1 ≤ left_by b k) × (left_by b k ≤ 2 * k)
left_by_few true k = (omega arith, omega arith)
left_by_few false k = (omega arith, omega arith)

pub left_few : (t : Triple) → (2 * t.k - 1 ≤ left t) × (left t ≤ 2 * t.k)
left_few t = left_by_few (falls t) t.k

pub left_next : (t : Triple) (k : ℕ) → Ready t → t.k ≡ suc k → left (next t) < left t
left_next t k r e = go (falls t) refl
  where
    go : (b : Bool) → falls t ≡ b → left (next t) < left_by b t.k
    go true f = omega (arith, e, ap (λ s. s.k) (next_falls t k r e f), (left_few (next t)).1)
    go false f = omega (arith, e, ap (λ s. s.k) (next_stays t k r e f), ap (λ b. left_by b (next t).k) (then_falls t k r e f))

-- ---- what is gathered on the way
module _ (A : Type 0) (end : Triple → A) (more : Triple → A → A) where
  within_end : (f : ℕ) (t : Triple) → t.k ≡ 0 → within A end more f t ≡ end t
  within_end zero t e = refl
  within_end (suc f) t e = ap (λ k. elim k [ zero ↦ end t | suc k ↦ more t (within A end more f (next t)) ]) e

  within_more : (f : ℕ) (t : Triple) (k : ℕ) → t.k ≡ suc k → within A end more (suc f) t ≡ more t (within A end more f (next t))
  within_more f t k e = ap (λ k. elim k [ zero ↦ end t | suc k ↦ more t (within A end more f (next t)) ]) e

  -- more steps allowed than there are change nothing
  enough : (f g : ℕ) (t : Triple) → Ready t → left t ≤ f → left t ≤ g → within A end more f t ≡ within A end more g t
  enough zero g t r hf hg = sym (within_end g t (omega (arith, (left_few t).0)))
  enough (suc f) zero t r hf hg = within_end (suc f) t (omega (arith, (left_few t).0))
  enough (suc f) (suc g) t r hf hg =
      go t.k refl (λ k e. enough f g (next t) (next_ready r.unitary) (fewer f k hf e) (fewer g k hg e))
    where
      fewer : (i k : ℕ) → left t ≤ suc i → t.k ≡ suc k → left (next t) ≤ i
      fewer i k h e = omega (arith, left_next t k r e)

      go : (k : ℕ) → t.k ≡ k → ((k : ℕ) → t.k ≡ suc k → within A end more f (next t) ≡ within A end more g (next t))
          → within A end more (suc f) t ≡ within A end more (suc g) t
      go zero e ih = within_end (suc f) t e ∙ sym (within_end (suc g) t e)
      go (suc k) e ih = within_more f t k e ∙ ap (more t) (ih k e) ∙ sym (within_more g t k e)

  pub gathered_end : (t : Triple) → t.k ≡ 0 → gathered A end more t ≡ end t
  unfolding gathered
  gathered_end t e = within_end (2 * t.k) t e

  pub gathered_more : (t : Triple) (k : ℕ) → Ready t → t.k ≡ suc k → gathered A end more t ≡ more t (gathered A end more (next t))
  unfolding gathered
  gathered_more t k r e =
      ap (λ f. within A end more f t) double
      ∙ within_more (suc (2 * k)) t k e
      ∙ ap (more t) (enough (suc (2 * k)) (2 * (next t).k) (next t) (next_ready r.unitary) fewer (left_few (next t)).1)
    where
      fewer : left (next t) ≤ suc (2 * k)
      fewer = omega (arith, e, left_next t k r e, (left_few t).1)

      double : 2 * t.k ≡ suc (suc (2 * k))
      double = omega arith

-- what holds where k is 0, and of a triple where it holds of the next one, holds of every reduced unitary triple
pub by_steps : (P : Triple → Type 0)
    → ((t : Triple) → Ready t → t.k ≡ 0 → P t)
    → ((t : Triple) (k : ℕ) → Ready t → t.k ≡ suc k → P (next t) → P t)
    → (t : Triple)
    → Ready t
    → P t
by_steps P base step t r = go (left t) t r (omega arith)
  where
    go : (f : ℕ) (t : Triple) → Ready t → left t ≤ f → P t
    go zero t r h = base t r (omega (arith, (left_few t).0))
    go (suc f) t r h = at t.k refl (λ k e. go f (next t) (next_ready r.unitary) (omega (arith, left_next t k r e)))
      where
        at : (k : ℕ) → t.k ≡ k → ((k : ℕ) → t.k ≡ suc k → P (next t)) → P t
        at zero e ih = base t r e
        at (suc k) e ih = step t k r e (ih k e)

pub letters_end : (t : Triple) → t.k ≡ 0 → letters t ≡ closing t
unfolding letters
letters_end = gathered_end (List Letter) closing (λ t u. block (power t) ++ u)

pub letters_more : (t : Triple) (k : ℕ) → Ready t → t.k ≡ suc k → letters t ≡ block (power t) ++ letters (next t)
unfolding letters
letters_more = gathered_more (List Letter) closing (λ t u. block (power t) ++ u)

pub steps_end : (t : Triple) → t.k ≡ 0 → steps t ≡ 0
unfolding steps
steps_end = gathered_end ℕ (λ t. 0) (λ t n. suc n)

pub steps_more : (t : Triple) (k : ℕ) → Ready t → t.k ≡ suc k → steps t ≡ suc (steps (next t))
unfolding steps
steps_more = gathered_more ℕ (λ t. 0) (λ t n. suc n)

-- at most two for each k
pub steps_left : (t : Triple) → Ready t → steps t ≤ left t
steps_left =
    by_steps (λ t. steps t ≤ left t)
    (λ t r e. omega (arith, steps_end t e))
    (λ t k r e h. omega (arith, steps_more t k r e, left_next t k r e))

pub steps_few : (t : Triple) → Ready t → steps t ≤ 2 * t.k
steps_few t r = omega (arith, steps_left t r, (left_few t).1)

-- ---- the letters' matrix is the triple's
pub letters_same : (t : Triple) → Ready t → Same (word (letters t)) (entries t)
letters_same =
    by_steps (λ t. Same (word (letters t)) (entries t))
    (λ t r e. Same-of (ap word (letters_end t e) ∙ closing_is t r.unitary e))
    (λ t k r e h.
    Same-trans (Same-of (ap word (letters_more t k r e) ∙ word_append (block (power t)) (letters (next t))))
    (Same-trans (Same-mul (Same-refl (word (block (power t)))) h) (step_same t)))
