-- Steps followed to their end: from a reduced unitary triple each step is there and the only one, so there is one number of them, which is `steps`,
-- at most two for each k. Assumes nothing.
use Rattle.std.specs.Prelude.{◌≡◌, ℕ, zero, suc, ◌-◌, ◌*◌, ◌≤◌, ◌<◌}
use Rattle.std.proofs.Common.{sym, ◌∙◌, ap, subst, arith}
use Rattle.exact.specs.Meaning.Triple.{Triple}
use Rattle.exact.proofs.Matrices.Same.{Same-sym, Same-trans, Same-of}
use Rattle.steps.specs.Meaning.{undo, power, StepTo, Takes}
use Rattle.steps.specs.Step.{Ready, next}
use Rattle.steps.proofs.Step.{acts_all, next_reduces, next_ready, next_n, next_by}
use Rattle.steps.specs.Steps.{steps}
use Rattle.steps.proofs.Steps.{by_steps, steps_end, steps_more, steps_few}

-- ---- a step
pub step_exists : (t : Triple) → 0 < t.k → StepTo t (next t)
step_exists t h = record {
  over_0 = h;
  same = Same-trans (next_reduces t).same (Same-of (acts_all (undo (power t)) t));
  reduced = (next_reduces t).reduced;
  n_small = next_n t;
}

module _ (t s : Triple) (r : Ready t) (h : StepTo t s) where
  pub step_once : next t ≡ s
  step_once = next_by s r.unitary h.reduced h.n_small (Same-trans h.same (Same-sym (Same-of (acts_all (undo (power t)) t))))

  pub step_ready : Ready s
  step_ready = subst Ready step_once (next_ready r.unitary)

  k_is : t.k ≡ suc (t.k - 1)
  k_is = omega (arith, h.over_0)

  step_counted : steps t ≡ suc (steps s)
  step_counted = steps_more t (t.k - 1) r k_is ∙ ap (λ u. suc (steps u)) step_once

-- ---- all of them
pub takes_steps : (t : Triple) → Ready t → Takes (steps t) t
takes_steps =
    by_steps (λ t. Takes (steps t) t)
    (λ t r e. subst (λ i. Takes i t) (sym (steps_end t e)) e)
    (λ t k r e h. subst (λ i. Takes i t) (sym (steps_more t k r e)) (next t, (step_exists t (omega (arith, e)), h)))

pub takes_is : (i : ℕ) (t : Triple) → Ready t → Takes i t → i ≡ steps t
takes_is zero t r e = sym (steps_end t e)
takes_is (suc i) t r h =
    let s = h.0 in
    ap suc (takes_is i s (step_ready t s r h.1.0) h.1.1) ∙ sym (step_counted t s r h.1.0)

pub takes_once : (i j : ℕ) (t : Triple) → Ready t → Takes i t → Takes j t → i ≡ j
takes_once i j t r h k = takes_is i t r h ∙ sym (takes_is j t r k)

pub takes_few : (i : ℕ) (t : Triple) → Ready t → Takes i t → i ≤ 2 * t.k
takes_few i t r h = omega (arith, takes_is i t r h, steps_few t r)
