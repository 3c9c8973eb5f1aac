-- The steps over the exports: dunrossel_synthesise_steps leaves what dunrossel_synthesise does, and the steps, 0 where it refuses and at most twice the
-- reduced k; and calls with one matrix, however its triple is written, leave the same word and numbers. Assumes nothing.
use Rattle.std.specs.Prelude.{◌≡◌, List, ℕ, ◌*◌, ◌≤◌, ℤ, take, get_or}
use Rattle.std.proofs.Common.{sym, ◌∙◌, ap, arith}
use Rattle.exact.specs.Meaning.Matrix.{Same}
use Rattle.exact.specs.Meaning.Triple.{Triple, entries}
use Rattle.exact.specs.Meaning.Limits.{no_refusal}
use Rattle.exact.specs.Meaning.Lent.{Lent}
use Rattle.unitary.specs.Meaning.{given, Answers}
use Rattle.synthesis_of_clifford_t.specs.Meaning.{Synthesis}
use Rattle.synthesis_of_clifford_t.proofs.Unique.{synthesise_unique}
use Rattle.synthesis_of_clifford_t.proofs.OneMatrix.{one_matrix, steps_refused, steps_most, steps_few}
use Rattle.handed.specs.Meaning.{z_of, w_of, counts_of, steps_of}
use Rattle.dunrossel.specs.Meaning.Exports.{Synthesises}
use Rattle.agreement.specs.Meaning.Exports.{Wrote, seen}

abbrev pub steps_in : Wrote → ℕ
steps_in r = get_or r.1.0 3 0

-- what is left but for the steps
abbrev pub without_steps : Wrote → Wrote
without_steps r = (r.0, (take 3 r.1.0, r.1.1))

pub both_synthesise : (k : ℤ) (n : ℕ) (zw : List ℤ) (old : List ℕ) (r s : Wrote)
    → Synthesises counts_of k n zw old r → Synthesises steps_of k n zw old s
    → r ≡ without_steps s
both_synthesise k n zw old r s x y =
    x.is
    ∙ ap (λ (j : Lent Synthesis). (j.handed.refusal, (counts_of j.handed, j.buffer)))
    (synthesise_unique k n (z_of zw) (w_of zw) old x.job.handed x.job.buffer y.job.handed y.job.buffer x.outcome y.outcome)
    ∙ sym (ap without_steps y.is)

module _ (k : ℤ) (n : ℕ) (zw : List ℤ) (old : List ℕ) (r : Wrote) (x : Synthesises steps_of k n zw old r) where
  abbrev job : Lent Synthesis
  job = x.job

  refusal_is : r.0 ≡ job.handed.refusal
  refusal_is = ap (λ (y : Wrote). y.0) x.is

  steps_are : steps_in r ≡ job.handed.steps
  steps_are = ap steps_in x.is

  pub refused_steps : (r.0 ≡ no_refusal → ⊥) → steps_in r ≡ 0
  refused_steps f =
      steps_are ∙ steps_refused k n (z_of zw) (w_of zw) old job.handed job.buffer x.outcome (λ e. f (refusal_is ∙ e))

  pub exports_steps_most : steps_in r ≤ 119
  exports_steps_most = omega (arith, steps_are, steps_most k n (z_of zw) (w_of zw) old job.handed job.buffer x.outcome)

  pub exports_steps_few : (t : Triple) → Answers (entries (given k n (z_of zw) (w_of zw))) t → steps_in r ≤ 2 * t.k
  exports_steps_few t a = omega (arith, steps_are, steps_few k n (z_of zw) (w_of zw) old job.handed job.buffer x.outcome t a)

-- the refusal, the numbers with the steps among them, and the bytes that were written
module _ (k k' : ℤ) (n n' : ℕ) (zw zw' : List ℤ) (old old' : List ℕ) (r r' : Wrote) where
  pub exports_one_matrix : Same (entries (given k n (z_of zw) (w_of zw))) (entries (given k' n' (z_of zw') (w_of zw')))
      → Synthesises steps_of k n zw old r → Synthesises steps_of k' n' zw' old' r'
      → r.0 ≡ no_refusal → r'.0 ≡ no_refusal
      → seen r ≡ seen r'
  exports_one_matrix s x x' e e' =
      ap seen x.is
      ∙ ap (λ (y : Synthesis × List ℕ). (y.0.refusal, (steps_of y.0, y.1)))
      (one_matrix k n (z_of zw) (w_of zw) old x.job k' n' (z_of zw') (w_of zw') old' x'.job s x.outcome x'.outcome
      (sym (refusal_is k n zw old r x) ∙ e) (sym (refusal_is k' n' zw' old' r' x') ∙ e'))
      ∙ sym (ap seen x'.is)
