-- From the letters of a reduced triple, normalised, to what job 4 promises. Assumes nothing.
use Rattle.std.specs.Prelude.{◌≡◌, refl, List, ℕ, ◌+◌, ◌≤◌, ◌<◌, ℤ, length, take, drop, Ok, Err}
use Rattle.std.proofs.Common.{sym, ◌∙◌, ap, subst, zero-add, arith, length-append, take_at, to_z-of_z, SFits}
use Rattle.std.specs.Int.{w64}
use Rattle.exact.specs.declared.Refusal.{Refusal}
use Rattle.exact.specs.Meaning.Handed.{number}
use Rattle.exact.specs.Meaning.Matrix.{Matrix}
use Rattle.exact.specs.Meaning.Word.{Letter, bytes, Spelled}
use Rattle.exact.specs.Meaning.Triple.{Triple, entries}
use Rattle.exact.specs.Meaning.Limits.{deepest, no_refusal}
use Rattle.exact.specs.Meaning.Outcome.{Rung, none, ◌then◌}
use Rattle.exact.specs.Meaning.Lent.{Lent, lent, untouched, Writes}
use Rattle.exact.specs.Meaning.Refusals.{long, letter, room}
use Rattle.exact.proofs.Whole.Machine.{held}
use Rattle.exact.proofs.Matrices.Same.{Same-sym, Same-trans}
use Rattle.exact.proofs.Matrices.Triples.{unitary_same}
use Rattle.exact.proofs.Outcomes.Handed.{number_some}
use Rattle.exact.proofs.Outcomes.Ladder.{Passed, skip}
use Rattle.exact.proofs.Outcomes.Places.{of_bytes}
use Rattle.exact.proofs.Outcomes.Lent.{Written, written_as}
use Rattle.ring.specs.declared.ZOmega.{ZOmega}
use Rattle.unitary.specs.declared.DOmegaUnitary.{DOmegaUnitary}
use Rattle.unitary.specs.Meaning.{triple, given, Answers}
use Rattle.unitary.specs.Checks.{CheckOutcome, exponent_size}
use Rattle.unitary.specs.Checked.{passed_taken, refusal_given, passed_on}
use Rattle.unitary.specs.Acts.{Good}
use Rattle.normal_form.specs.declared.Counts.{Counts}
use Rattle.normal_form.specs.Meaning as Normalised
use Rattle.normal_form.specs.Meaning.{Normalises, NormaliseOutcome}
use Rattle.normal_form.specs.Ways.{word_passes}
use Rattle.writing.specs.Put.{Put}
use Rattle.steps.specs.Step.{Ready}
use Rattle.steps.specs.Steps.{letters, steps}
use Rattle.steps.proofs.Steps.{letters_same}
use Rattle.steps.proofs.Counts.{letters_length}
use Rattle.synthesis_of_clifford_t.specs.Meaning.{Synthesis, Spelling, text, refused, counts, synthesised, SpellingOf, SynthesiseOutcome}
use Rattle.synthesis_of_clifford_t.proofs.Counted.{steps_of, spelling_moved}
use Rattle.synthesis_of_clifford_t.specs.Answer.{AnsweredBy}

-- ---- the letters that stand at the start of a working buffer
module _ (first : List ℕ) (u : List Letter) (work : List ℕ) (len : ℕ) (p : Put first 0 (bytes u) work len) where
  len_is : length (bytes u) ≡ len
  len_is = sym (p.next ∙ zero-add (length (bytes u)))

  pub word_is : take len work ≡ bytes u
  word_is = ap (take len) p.is ∙ take_at (bytes u) (drop (0 + length (bytes u)) first) len len_is

  pub len_inside : len ≤ length work
  len_inside = omega (arith, ap length p.is, length-append (bytes u) (drop (0 + length (bytes u)) first), len_is)

  pub word_long : len ≡ length (take len work)
  word_long = sym len_is ∙ sym (ap length word_is)

-- ---- normalised
module _ (t : Triple) (ready : Ready t) (small : t.n < 8) (few : t.k ≤ deepest) (old : List ℕ) (r : Normalised.Written) (new : List ℕ) where
  -- neither too long nor with a byte that is no letter
  plain_passed : Passed (long (bytes (letters t)) then letter (bytes (letters t)) then none)
  plain_passed = word_passes (letters t) (omega (arith, letters_length t ready))

  abbrev in_steps : List Letter → Spelling
  in_steps v = record { letters = v; steps = steps t }

  to_triple : (v : List Letter) → Spelled Normalises (bytes (letters t)) v → SpellingOf (entries t) (in_steps v)
  to_triple v s =
      let a = of_bytes (letters t) s in
      record {
        normal = record { normal = a.normal; same = Same-trans (Same-sym (letters_same t ready)) a.same };
        counted = steps_of t ready small;
      }

  to_letters : (a : Spelling) → SpellingOf (entries t) a → Spelled Normalises (bytes (letters t)) a.letters
  to_letters a s =
      let n = s.normal in
      record { letters = letters t; spelled = refl; holds = record { normal = n.normal; same = Same-trans (letters_same t ready) n.same } }

  module _ (w : List ℕ) (e : w ≡ bytes (letters t)) (o : NormaliseOutcome w old r new) where
    job_3 : Written bytes Normalised.counts (Spelled Normalises (bytes (letters t))) old Normalised.refused (lent r new)
    job_3 =
        skip (untouched Normalised.refused old) (Writes bytes Normalised.counts (Spelled Normalises (bytes (letters t))) old)
        (long (bytes (letters t)) then letter (bytes (letters t)) then none) (room bytes (Spelled Normalises (bytes (letters t))) old then none)
        plain_passed (lent r new) (subst (λ (x : List ℕ). NormaliseOutcome x old r new) e o)

    no_room : (r.refusal ≡ 0 → ⊥) → (s : Synthesis) → s ≡ refused r.refusal 0 → AnsweredBy t old s new
    no_room f s s_is = rw s_is (go job_3)
      where
        go : Written bytes Normalised.counts (Spelled Normalises (bytes (letters t))) old Normalised.refused (lent r new)
            → AnsweredBy t old (refused r.refusal 0) new
        go (Rung.given p h is) =
            Rung.given 0 (record { v = in_steps h.0.v; answer = to_triple h.0.v h.0.answer; more = h.0.more }, refl)
            (λ i. lent (refused (is i).handed.refusal 0) (is i).buffer)
        go (Rung.passed n x) = absurd (f (ap (λ (y : Lent Normalised.Written). y.handed.refusal) x.is))

    with_steps : r.refusal ≡ 0 → (i : ℕ) → i ≡ steps t
        → AnsweredBy t old (record { refusal = no_refusal; bytes = r.bytes; tees = r.tees; steps = i }) new
    with_steps taken i i-is = go job_3
      where
        go : Written bytes Normalised.counts (Spelled Normalises (bytes (letters t))) old Normalised.refused (lent r new)
            → AnsweredBy t old (record { refusal = no_refusal; bytes = r.bytes; tees = r.tees; steps = i }) new
        go (Rung.given p h is) = absurd (omega (arith, taken, ap (λ (y : Lent Normalised.Written). y.handed.refusal) is))
        go (Rung.passed n x) =
            Rung.passed (λ p h. n p (record { v = h.0.v.letters; answer = to_letters h.0.v h.0.answer; more = h.0.more }, h.1))
            (record {
              v = in_steps x.v;
              answer = to_triple x.v x.answer;
              is = λ j.
                  let y = x.is j in
                  lent (record { refusal = no_refusal; bytes = y.handed.bytes; tees = y.handed.tees; steps = i-is j }) y.buffer;
            })

-- ---- as job 3 hands it back
module _ (t : Triple) (ready : Ready t) (small : t.n < 8) (few : t.k ≤ deepest) (old new w : List ℕ) (e : w ≡ bytes (letters t)) where
  pub answer_refused : (f : Refusal) → NormaliseOutcome w old (Normalised.written (Err f)) new → AnsweredBy t old (synthesised (Err f)) new
  answer_refused f o = no_room t ready small few old (Normalised.written (Err f)) new w e o (number_some f) (synthesised (Err f)) refl

  pub answer_written : (c : Counts) → NormaliseOutcome w old (Normalised.written (Ok c)) new → (i : ℕ) → i ≡ steps t
      → AnsweredBy t old (synthesised (Ok (record { bytes = c.bytes; tees = c.tees; steps = i }))) new
  answer_written c o = with_steps t ready small few old (Normalised.written (Ok c)) new w e o refl

-- ---- from the check to job 4
module _ (k : ℤ) (n : ℕ) (z w : ZOmega) (old : List ℕ) where
  abbrev asked : Matrix
  asked = entries (given k n z w)

  pub synthesise_refused : (e : Refusal) → CheckOutcome k z w (number e) → SynthesiseOutcome k n z w old (synthesised (Err e)) old
  synthesise_refused e c =
      refusal_given (untouched refused old) (Writes text counts (SpellingOf asked) old) (room text (SpellingOf asked) old then none) k z w e c

  module _ (fits : SFits w64 k) (checked : CheckOutcome k z w no_refusal) (t : DOmegaUnitary)
      (reduced : Answers (entries (given (held w64 k) n z w)) (triple t)) where
    a : Answers asked (triple t)
    a = subst (λ (y : ℤ). Answers (entries (given y n z w)) (triple t)) (to_z-of_z fits) reduced

    pub reduced_good : Good t
    reduced_good = record {
      unitary = unitary_same (Same-sym a.same) ((passed_taken checked).unitary_there n);
      reduced = a.reduced;
      n_small = a.n_small;
    }

    pub reduced_few : t.k ≤ deepest
    reduced_few = omega (arith, a.reduced.least.least asked a.same, exponent_size k (passed_taken checked).exponent_in)

    pub synthesise_answered : (o : Synthesis) (new : List ℕ) → AnsweredBy (triple t) old o new → SynthesiseOutcome k n z w old o new
    synthesise_answered o new b =
        passed_on (untouched refused old) (Writes text counts (SpellingOf asked) old) (room text (SpellingOf asked) old then none) k z w checked
        (lent o new)
        (written_as text counts counts (SpellingOf (entries (triple t))) (SpellingOf asked) old refused refused (λ x. x) (λ n p. refl) (λ v. refl)
        (spelling_moved a.same) (spelling_moved (Same-sym a.same)) (lent o new) b)
