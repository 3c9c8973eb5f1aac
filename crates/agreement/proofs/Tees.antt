-- The T count and job 4, over the jobs and over the exports: with 376 bytes lent, job 4 refuses what the T count refuses, by the same number, and the T
-- letters that it writes are as many; with fewer, where it accepts. The rotation's exponent is that number too. Assumes nothing.
use Rattle.std.specs.Prelude.{◌≡◌, refl, List, ℕ, ◌≤◌, ℤ, pos, length, get_or}
use Rattle.std.proofs.Common.{sym, ◌∙◌, ap, subst, arith}
use Rattle.exact.specs.Meaning.Matrix.{Matrix}
use Rattle.exact.specs.Meaning.Limits.{enough, no_refusal}
use Rattle.exact.specs.Meaning.Outcome.{none, ◌then◌, Rung, Outcome}
use Rattle.exact.specs.Meaning.Lent.{Lent, untouched, Writes}
use Rattle.exact.specs.Meaning.Refusals.{checks, room}
use Rattle.exact.proofs.Cases.Letters.{bytes_length}
use Rattle.exact.proofs.Matrices.Same.{Same-sym}
use Rattle.exact.proofs.Outcomes.Ladder.{Passed, through, pass, carry}
use Rattle.exact.proofs.Outcomes.Checked.{checks_taken}
use Rattle.exact.proofs.Rotation.Laws.{word_rotation, rotation_word, rotation_moved}
use Rattle.exact.proofs.Rotation.Least.{normal_least}
use Rattle.ring.specs.Meaning.{quad}
use Rattle.ring.specs.declared.ZOmega.{ZOmega}
use Rattle.synthesis_of_clifford_t.specs.Meaning.{Synthesis, text, refused, counts, SpellingOf, asked, SynthesiseOutcome}
use Rattle.synthesis_of_clifford_t.proofs.Enough.{answer_short}
use Rattle.rotation.specs.Meaning.{Count, refused_count, AnswersCount, CountOutcome}
use Rattle.rotation.specs.Unique.{count_unique}
use Rattle.rotation.specs.Answers.{exponent_is}
use Rattle.handed.specs.Meaning.{z_of, w_of, counts_of}
use Rattle.dunrossel.specs.Meaning.Exports as Exports
use Rattle.dunrossel.specs.Meaning.Exports.{Synthesises, Rotates}
use Rattle.agreement.specs.Meaning.Exports.{Wrote}

-- ---- over the jobs: what job 4 hands back is what the T count must
module _ (k : ℤ) (n : ℕ) (z w : ZOmega) (old : List ℕ) where
  abbrev matrix : Matrix
  matrix = asked k n z w old

  abbrev Job4 : Lent Synthesis → Type 0
  Job4 j = SynthesiseOutcome k n z w old j.handed j.buffer

  abbrev count_of : Lent Synthesis → Count
  count_of j = record { refusal = j.handed.refusal; tees = j.handed.tees }

  written_counts : (j : Lent Synthesis) → Writes text counts (SpellingOf matrix) old j → AnswersCount matrix (count_of j)
  written_counts j y =
      let u = y.v.letters in
      let a = y.answer.normal in
      let is = rotation_moved (Same-sym a.same) (rotation_word u) in
      subst (AnswersCount matrix) (ap count_of (sym y.is))
      (record { taken = refl; rotation = word_rotation u; is = is; least = normal_least a.normal (rotation_word u) })

  pub synthesised_counts : enough ≤ length old → (j : Lent Synthesis) → Job4 j → CountOutcome k n z w (count_of j)
  synthesised_counts l =
      carry (untouched refused old) (Writes text counts (SpellingOf matrix) old) refused_count (AnswersCount matrix) count_of (λ m p. refl)
      (checks k (quad z) (quad w)) (room text (SpellingOf matrix) old then none) none behind
    where
      behind : (j : Lent Synthesis) → Passed (checks k (quad z) (quad w))
          → Outcome (untouched refused old) (Writes text counts (SpellingOf matrix) old) (room text (SpellingOf matrix) old then none) j
          → AnswersCount matrix (count_of j)
      behind j h (Rung.given p t e) =
          absurd
          (omega (
            arith,
            t.0.more,
            bytes_length t.0.v.letters,
            answer_short k n (quad z) (quad w) (checks_taken k (quad z) (quad w) h) t.0.v.letters t.0.answer.normal,
          ))
      behind j h (Rung.passed f y) = written_counts j y

  pub accepted_counts : (j : Lent Synthesis) → Job4 j → j.handed.refusal ≡ no_refusal → CountOutcome k n z w (count_of j)
  accepted_counts j o e =
      let s =
      through (untouched refused old) (Writes text counts (SpellingOf matrix) old) (λ (i : Lent Synthesis). i.handed.refusal ≡ no_refusal)
      (checks k (quad z) (quad w)) (room text (SpellingOf matrix) old then none)
      ((λ p h. omega arith), ((λ p h. omega arith), ((λ p h. omega arith), tt))) j e o in
      pass refused_count (AnswersCount matrix) (checks k (quad z) (quad w)) none s.0 (count_of j) (behind s.1)
    where
      behind : Outcome (untouched refused old) (Writes text counts (SpellingOf matrix) old) (room text (SpellingOf matrix) old then none) j
          → AnswersCount matrix (count_of j)
      behind (Rung.given p t f) = absurd (omega (arith, e, ap (λ (i : Lent Synthesis). i.handed.refusal) f))
      behind (Rung.passed f y) = written_counts j y

  -- so the two are equal, for every triple
  pub t_count_is_job_4's : enough ≤ length old → (j : Lent Synthesis) (c : Count) → Job4 j → CountOutcome k n z w c → count_of j ≡ c
  t_count_is_job_4's l j c o x = count_unique k n z w (count_of j) c (synthesised_counts l j o) x

  pub t_count_is_accepted's : (j : Lent Synthesis) (c : Count) → Job4 j → j.handed.refusal ≡ no_refusal → CountOutcome k n z w c → count_of j ≡ c
  t_count_is_accepted's j c o e x = count_unique k n z w (count_of j) c (accepted_counts j o e) x

-- ---- over the exports
module _ (k : ℤ) (n : ℕ) (zw : List ℤ) (r : ℕ × ℕ) (x : Exports.Counts k n zw r) where
  -- the refusal, and the third number of job 4's array
  pub exports_t_count : (old : List ℕ) → enough ≤ length old → (s : Wrote) → Synthesises counts_of k n zw old s → r ≡ (s.0, get_or s.1.0 2 0)
  exports_t_count old l s y =
      x.is
      ∙ ap (λ (c : Count). (c.refusal, c.tees))
      (sym (t_count_is_job_4's k n (z_of zw) (w_of zw) old l y.job x.job y.outcome x.outcome))
      ∙ sym (ap (λ (w : Wrote). (w.0, get_or w.1.0 2 0)) y.is)

  -- the refusal, and the first number of the rotation's
  pub exports_exponent : (s : ℕ × List ℤ) → Rotates k n zw s → ◌≡◌ {A = ℕ × ℤ} (s.0, get_or s.1 0 (pos 0)) (r.0, pos r.1)
  exports_exponent s y =
      ap (λ (t : ℕ × List ℤ). (t.0, get_or t.1 0 (pos 0))) y.is
      ∙ ap (λ (c : Count). (c.refusal, pos c.tees))
      (exponent_is k n (z_of zw) (w_of zw) y.job x.job y.outcome x.outcome)
      ∙ sym (ap (λ (t : ℕ × ℕ). (t.0, pos t.1)) x.is)
