-- Why demand 3 holds of the exports: each hands on what its job may answer, and the ten numbers are the matrix. Assumes nothing.
use Rattle.std.specs.Prelude.{◌≡◌, List, [], ◌∷◌, ℕ, ℤ, length}
use Rattle.std.proofs.Common.{sym, ◌∙◌, ap, subst}
use Rattle.exact.specs.Meaning.Matrix.{Same}
use Rattle.exact.specs.Meaning.Word.{Letter, word, tees, bytes}
use Rattle.exact.specs.Meaning.Limits.{no_refusal}
use Rattle.exact.specs.Meaning.Lent.{Lent}
use Rattle.unitary.specs.Meaning.{FromGates}
use Rattle.normal_form.specs.Meaning.{Written}
use Rattle.synthesis_of_clifford_t.specs.Meaning.{Synthesis}
use Rattle.handed.specs.Meaning.{ten, counts, counts_of}
use Rattle.dunrossel.specs.Meaning.Exports.{Synthesises}
use Rattle.agreement.specs.Meaning.Demand3.{Within, BothWays}
use Rattle.agreement.specs.Meaning.Exports.{Wrote, Made, k_of, n_of, zw_of, BothCalls, wrote, AgreedCalls, seen, OneCall}
use Rattle.agreement.proofs.Jobs.{ways_agree, one_word, written}

-- what an export leaves of its job's answer
abbrev pub of_normalised : Lent Written → Wrote
of_normalised j = (j.handed.refusal, (counts j.handed, j.buffer))

abbrev pub of_synthesised : Lent Synthesis → Wrote
of_synthesised j = (j.handed.refusal, (counts_of j.handed, j.buffer))

module _ {u : List Letter} (w : Within u) {old₁ old₂ : List ℕ} {first : Wrote} {matrix : Made} {second : Wrote}
    (b : BothCalls u old₁ old₂ first matrix second) where
  abbrev job2 : FromGates
  job2 = b.multiplied.job

  the_ten : matrix.1.0 ≡ ten job2.matrix
  the_ten = ap (λ (x : Made). x.1.0) b.multiplied.is

  handed_on_lem : Synthesises counts_of (k_of (ten job2.matrix)) (n_of (ten job2.matrix)) (zw_of (ten job2.matrix)) old₂ second
  handed_on_lem = subst (λ (x : List ℤ). Synthesises counts_of (k_of x) (n_of x) (zw_of x) old₂ second) the_ten b.synthesised

  ways : BothWays u old₁ old₂ b.normalised.job job2 handed_on_lem.job
  ways =
      record {
        room₁ = b.room₁;
        room₂ = b.room₂;
        normalised = b.normalised.outcome;
        multiplied = b.multiplied.outcome;
        synthesised = handed_on_lem.outcome;
      }

  pub calls_agree : (v : List Letter) × AgreedCalls u v old₁ old₂ first matrix second
  calls_agree =
      let x = ways_agree w ways in
      let a = x.1 in (
        x.0,
        record {
          normal = a.normal;
          same = a.same;
          first_is = b.normalised.is ∙ ap of_normalised a.first_is;
          matrix_taken = ap (λ (y : Made). y.0) b.multiplied.is ∙ a.matrix_taken;
          second_is = handed_on_lem.is ∙ ap of_synthesised a.second_is;
        },
      )

-- ---- two words with one matrix
abbrev seen_of : List Letter → Wrote
seen_of v = (no_refusal, (0 ∷ length v ∷ tees v ∷ [], bytes v))

call_seen : (v : List Letter) (old : List ℕ) (r : Wrote) → r ≡ wrote v old → seen r ≡ seen_of v
call_seen v old r e = ap seen e ∙ (λ i. (no_refusal, (0 ∷ length v ∷ tees v ∷ [], written v old i)))

module _ {u u' : List Letter} (w : Within u) (w' : Within u') (s : Same (word u) (word u')) {old₁ old₂ old₁' old₂' : List ℕ}
    {first second first' second' : Wrote} {matrix matrix' : Made} where
  pub calls_one : BothCalls u old₁ old₂ first matrix second → BothCalls u' old₁' old₂' first' matrix' second'
      → OneCall first first' second second'
  calls_one b b' =
      let x = calls_agree w b in
      let y = calls_agree w' b' in
      let a = x.1 in
      let c = y.1 in
      let e : x.0 ≡ y.0 = one_word u u' s a.normal a.same c.normal c.same in
      let first_of = call_seen x.0 old₁ first a.first_is in
      let second-of = call_seen x.0 old₂ second a.second_is in
      record {
        first_same = first_of ∙ ap seen_of e ∙ sym (call_seen y.0 old₁' first' c.first_is);
        ways_same = first_of ∙ sym second-of;
        second_same = second-of ∙ ap seen_of e ∙ sym (call_seen y.0 old₂' second' c.second_is);
      }
