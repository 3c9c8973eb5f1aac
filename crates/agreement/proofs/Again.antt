-- Answers fed back, over the exports: dunrossel_normalise gives a normal word back as it is, what it wrote once more, and whatever
-- dunrossel_synthesise or dunrossel_phase_free wrote; and dunrossel_phase_free what it wrote itself. Assumes nothing.
use Rattle.std.specs.Prelude.{◌≡◌, List, ℕ, ◌≤◌, ℤ, length, take}
use Rattle.std.proofs.Common.{sym, ◌∙◌, ap, ap₂, subst, arith, length-take-le}
use Rattle.exact.specs.Meaning.Word.{Letter, bytes}
use Rattle.exact.specs.Meaning.Normal.{Normal, PhaseFree}
use Rattle.exact.specs.Meaning.Limits.{longest, no_refusal}
use Rattle.exact.specs.Meaning.Lent as Lent
use Rattle.exact.specs.Meaning.Lent.{lent, over}
use Rattle.exact.proofs.Outcomes.Lent.{handed_same}
use Rattle.ring.specs.declared.ZOmega.{ZOmega}
use Rattle.normal_form.specs.Meaning.{Written, Normalises, DropsPhase, WordOutcome, NormaliseOutcome}
use Rattle.normal_form.specs.Again.{ComesOut, LeftAgain, normal_again, phase_free_again, phase_free_again_5, normalise_twice}
use Rattle.normal_form.specs.Again.{phase_free_normalised, phase_free_twice}
use Rattle.synthesis_of_clifford_t.specs.Meaning as Job4
use Rattle.synthesis_of_clifford_t.specs.Meaning.{Synthesis, SpellingOf, SynthesiseOutcome}
use Rattle.synthesis_of_clifford_t.proofs.Enough.{bytes_there, bytes_few}
use Rattle.synthesis_of_clifford_t.proofs.OneMatrix.{answer_there, seen_is}
use Rattle.handed.specs.Meaning.{z_of, w_of, counts_of}
use Rattle.dunrossel.specs.Meaning.Exports.{Writes, Synthesises}
use Rattle.agreement.specs.Meaning.Agree.{handed_on}
use Rattle.agreement.specs.Meaning.Exports.{Wrote, wrote, seen}
use Rattle.agreement.proofs.Calls.{of_normalised, of_synthesised}
use Rattle.agreement.proofs.AgreeLaws.{word_there}

-- what comes out of a job comes out of its export: refusal 0; place 0, the length and the T letters; the bytes, and those beyond as they were
exports_come_out : (Answer : List Letter → List Letter → Type 0) (u v : List Letter) → ComesOut Answer u v → (old : List ℕ)
    → length v ≤ length old → (r : Wrote) → Writes Answer (bytes u) old r → r ≡ wrote v old
exports_come_out Answer u v c old k r x = x.is ∙ ap of_normalised (c old k x.job.handed x.job.buffer x.outcome)

pub exports_normal_again : {u : List Letter} → Normal u → length u ≤ longest → (old : List ℕ) → length u ≤ length old → (r : Wrote)
    → Writes Normalises (bytes u) old r → r ≡ wrote u old
exports_normal_again {u} n l = exports_come_out Normalises u u (normal_again n l)

module _ {p v : List Letter} (f : PhaseFree p v) (l : length p ≤ longest) (old : List ℕ) (k : length p ≤ length old) (r : Wrote) where
  pub exports_phase_free_again : Writes Normalises (bytes p) old r → r ≡ wrote p old
  exports_phase_free_again = exports_come_out Normalises p p (phase_free_again f l) old k r

  pub exports_phase_free_again_5 : Writes DropsPhase (bytes p) old r → r ≡ wrote p old
  exports_phase_free_again_5 = exports_come_out DropsPhase p p (phase_free_again_5 f l) old k r

-- ---- what job 4 wrote: never too long to be handed to job 3, which gives it back with the same counts
module _ (k : ℤ) (n : ℕ) (z w : ZOmega) (old : List ℕ) (r : Synthesis) (new : List ℕ) (o : SynthesiseOutcome k n z w old r new)
    (e : r.refusal ≡ no_refusal) where
  answer_of_lem : Lent.Writes Job4.text Job4.counts (SpellingOf (Job4.asked k n z w old)) old (lent r new)
  answer_of_lem = answer_there k n z w old r new o e

  bytes_written : take r.bytes new ≡ Job4.text answer_of_lem.v
  bytes_written = ap (λ (s : Synthesis × List ℕ). s.1) (seen_is k n z w old r new o answer_of_lem)

  pub synthesised_again : (old' : List ℕ) → r.bytes ≤ length old' → (r' : Written) (new' : List ℕ)
      → NormaliseOutcome (take r.bytes new) old' r' new'
      → lent r' new' ≡ handed_on (lent r (over (take r.bytes new) old'))
  synthesised_again old' l r' new' o' =
      normal_again answer_of_lem.answer.normal.normal (omega (arith, size, bytes_few k n z w old r new o)) old' (omega (arith, size)) r' new'
      (subst (λ (t : List ℕ). NormaliseOutcome t old' r' new') bytes_written o')
      ∙ ap₂ (λ (x : Synthesis) (t : List ℕ). handed_on (lent x (over t old'))) (sym (handed_same answer_of_lem.is)) (sym bytes_written)
    where
      size : r.bytes ≡ length answer_of_lem.v.letters
      size = ap (λ (x : Synthesis). x.bytes) (handed_same answer_of_lem.is)

-- ---- twice
-- the bytes that a call wrote
abbrev pub text_of : Wrote → List ℕ
text_of r = (seen r).1.1

-- handed to a call that has room for them they are left again, and so are the counts
abbrev pub GivenBack : (List Letter → List Letter → Type 0) → Wrote → Type 0
GivenBack Next r =
    (old : List ℕ) → length (text_of r) ≤ length old → (r' : Wrote) → Writes Next (text_of r) old r'
    → r' ≡ (r.0, (r.1.0, over (text_of r) old))

pub exports_synthesised_again : (k : ℤ) (n : ℕ) (zw : List ℤ) (old : List ℕ) (r : Wrote) → Synthesises counts_of k n zw old r
    → r.0 ≡ no_refusal
    → GivenBack Normalises r
exports_synthesised_again k n zw old r x = subst (λ (y : Wrote). y.0 ≡ no_refusal → GivenBack Normalises y) (sym x.is) of_job
  where
    o : SynthesiseOutcome k n (z_of zw) (w_of zw) old x.job.handed x.job.buffer
    o = x.outcome

    size : length (text_of (of_synthesised x.job)) ≡ x.job.handed.bytes
    size = length-take-le x.job.handed.bytes x.job.buffer (bytes_there k n (z_of zw) (w_of zw) old x.job.handed x.job.buffer o)

    of_job : x.job.handed.refusal ≡ no_refusal → GivenBack Normalises (of_synthesised x.job)
    of_job e old' l r' y =
        y.is
        ∙ ap of_normalised
        (synthesised_again k n (z_of zw) (w_of zw) old x.job.handed x.job.buffer o e old' (omega (arith, size)) y.job.handed y.job.buffer
        y.outcome)

-- what dunrossel_normalise or dunrossel_phase_free wrote may be too long for them
abbrev pub Twice : (List Letter → List Letter → Type 0) → Wrote → Type 0
Twice Next r = r.0 ≡ no_refusal → length (text_of r) ≤ longest → GivenBack Next r

module _ (Answer Next : List Letter → List Letter → Type 0)
    (again : (w old : List ℕ) (r : Written) (new : List ℕ) → WordOutcome Answer w old r new → r.refusal ≡ no_refusal → r.bytes ≤ longest
    → LeftAgain Next r new)
    (w old : List ℕ) (r : Wrote) (x : Writes Answer w old r) where
  size : length (text_of (of_normalised x.job)) ≡ x.job.handed.bytes
  size = length-take-le x.job.handed.bytes x.job.buffer (word_there Answer w old x.job.handed x.job.buffer x.outcome)

  of_job : Twice Next (of_normalised x.job)
  of_job e l old' k r' y =
      y.is
      ∙ ap of_normalised
      (again w old x.job.handed x.job.buffer x.outcome e (omega (arith, size)) old' (omega (arith, size)) y.job.handed y.job.buffer
      y.outcome)

  twice : Twice Next r
  twice = subst (Twice Next) (sym x.is) of_job

module _ (w old : List ℕ) (r : Wrote) where
  pub exports_normalise_twice : Writes Normalises w old r → Twice Normalises r
  exports_normalise_twice = twice Normalises Normalises (λ v old' s new. normalise_twice) w old r

  pub exports_phase_free_normalised : Writes DropsPhase w old r → Twice Normalises r
  exports_phase_free_normalised = twice DropsPhase Normalises (λ v old' s new. phase_free_normalised) w old r

  pub exports_phase_free_twice : Writes DropsPhase w old r → Twice DropsPhase r
  exports_phase_free_twice = twice DropsPhase DropsPhase (λ v old' s new. phase_free_twice) w old r
