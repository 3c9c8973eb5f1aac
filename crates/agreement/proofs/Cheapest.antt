-- No cheaper spelling, over the exports: what an accepted call of dunrossel_normalise, dunrossel_synthesise, dunrossel_synthesise_steps or
-- dunrossel_phase_free leaves has the fewest T letters of all words with that matrix, up to a phase too, and all have their parity; so has a word that
-- the bench program prints; and the T count is such a number. Assumes nothing.
use Rattle.std.specs.Prelude.{◌≡◌, List, ℕ, ◌%◌, ℤ}
use Rattle.std.proofs.Common.{sym, ◌∙◌, ap, subst, arith}
use Rattle.exact.specs.Meaning.Matrix.{Matrix, Same, ByOmega}
use Rattle.exact.specs.Meaning.Word.{Letter, word, tees, bytes, Spelled}
use Rattle.exact.specs.Meaning.Triple.{Triple, entries, Unitary}
use Rattle.exact.specs.Meaning.Cheapest.{Cheapest}
use Rattle.exact.specs.Meaning.Limits as Limits
use Rattle.exact.specs.Meaning.Limits.{no_refusal}
use Rattle.exact.specs.Meaning.Outcome.{Rung, none}
use Rattle.exact.specs.Meaning.Lent as Lent
use Rattle.exact.specs.Meaning.Lent.{Lent, lent}
use Rattle.exact.specs.Meaning.Refusals.{handed_in, checks}
use Rattle.exact.specs.Meaning.Record.{Numbers, RightRecord}
use Rattle.exact.proofs.Matrices.Parity.{tees_n}
use Rattle.exact.proofs.Matrices.Same.{Same-sym, Same-trans}
use Rattle.exact.specs.Matrices.Least.{reduce}
use Rattle.exact.proofs.Outcomes.Ladder.{through}
use Rattle.exact.proofs.Outcomes.Checked.{checks_taken}
use Rattle.exact.proofs.Rotation.Laws.{rotation_moved}
use Rattle.exact.proofs.Rotation.Least.{normal_least, least_once}
use Rattle.exact.proofs.Unique.Cheapest.{normal_cheapest, normal_cheapest_phase, SpelledCheapest}
use Rattle.ring.specs.Meaning.{quad}
use Rattle.ring.specs.declared.ZOmega.{ZOmega}
use Rattle.unitary.specs.Meaning.{given}
use Rattle.normal_form.specs.Meaning.{Normalises, DropsPhase}
use Rattle.normal_form.specs.Theorems.{HasNormal, has_normal}
use Rattle.normal_form.specs.Cheapest.{normalise_cheapest, phase_free_cheapest_5}
use Rattle.steps.specs.Steps.{letters}
use Rattle.steps.proofs.Synthesised.{synthesised}
use Rattle.synthesis_of_clifford_t.specs.Meaning.{Synthesis, Spelling, SpellingOf}
use Rattle.synthesis_of_clifford_t.proofs.OneMatrix.{seen}
use Rattle.synthesis_of_clifford_t.proofs.Cheapest.{synthesised_cheapest}
use Rattle.rotation.specs.Meaning.{Count, refused_count, AnswersCount, CountOutcome}
use Rattle.rotation.specs.Answers.{counted}
use Rattle.handed.specs.Meaning.{z_of, w_of, counts_of, steps_of}
use Rattle.dunrossel.specs.Meaning.Exports.{Writes, Synthesises}
use Rattle.dunrossel.specs.Meaning.Bench as Bench
use Rattle.dunrossel.specs.Meaning.Bench.{printed, word_text, word_size, NumbersOutcome, BenchOutcome}
use Rattle.agreement.specs.Meaning.Exports.{Wrote}
use Rattle.agreement.proofs.Again.{text_of}
use Rattle.agreement.proofs.Phase.{tees_in, job_taken}

-- the bytes that a call left spell a normal word, and it has as many T letters as the call counted
abbrev pub LeftCheapest : Matrix → Wrote → Type 0
LeftCheapest m r = SpelledCheapest m (text_of r) (tees_in r)

-- ---- words
module _ (u : List Letter) {old : List ℕ} {r : Wrote} where
  pub exports_normalise_cheapest : Writes Normalises (bytes u) old r → r.0 ≡ no_refusal → LeftCheapest (word u) r
  exports_normalise_cheapest x e = subst (LeftCheapest (word u)) (sym x.is) (normalise_cheapest u x.outcome (job_taken Normalises x e))

  pub exports_phase_free_cheapest : Writes DropsPhase (bytes u) old r → r.0 ≡ no_refusal → Spelled (Cheapest ByOmega (word u)) (text_of r) (tees_in r)
  exports_phase_free_cheapest x e =
      subst (λ (y : Wrote). Spelled (Cheapest ByOmega (word u)) (text_of y) (tees_in y)) (sym x.is)
      (phase_free_cheapest_5 u x.outcome (job_taken DropsPhase x e))

-- ---- triples
module _ (k : ℤ) (n : ℕ) (zw : List ℤ) where
  abbrev asked : Matrix
  asked = entries (given k n (z_of zw) (w_of zw))

  -- `numbers` are what is handed back of job 4, the bytes and the T letters among them
  module _ {old : List ℕ} {r : Wrote} where
    of_job : (numbers : Synthesis → List ℕ)
        → ((j : Lent Synthesis) → SpelledCheapest asked (seen j).1 j.handed.tees
        → LeftCheapest asked (j.handed.refusal, (numbers j.handed, j.buffer)))
        → Synthesises numbers k n zw old r → r.0 ≡ no_refusal
        → LeftCheapest asked r
    of_job numbers left x e =
        subst (LeftCheapest asked) (sym x.is)
        (left x.job
        (synthesised_cheapest k n (z_of zw) (w_of zw) old x.job.handed x.job.buffer x.outcome (sym (ap (λ (y : Wrote). y.0) x.is) ∙ e)))

    pub exports_synthesise_cheapest : Synthesises counts_of k n zw old r → r.0 ≡ no_refusal → LeftCheapest asked r
    exports_synthesise_cheapest = of_job counts_of (λ j h. h)

    pub exports_steps_cheapest : Synthesises steps_of k n zw old r → r.0 ≡ no_refusal → LeftCheapest asked r
    exports_steps_cheapest = of_job steps_of (λ j h. h)

-- ---- what the bench program prints: a refusal, or a word of the record's matrix
pub record Printed (x : Numbers) (old : List ℕ) (r : Lent ℕ) : Type 0 where
  pub made : Spelling
  pub is : r ≡ printed old (word_text made)
  pub cheapest : Cheapest Same (Bench.asked x) made.letters (tees made.letters)
  pub cheapest_phase : Cheapest ByOmega (Bench.asked x) made.letters (tees made.letters)
  pub parity : tees made.letters % 2 ≡ x.n % 2

pub data Prints (s old : List ℕ) (r : Lent ℕ) : Type 0 where
  no_word : (number : ℕ) → (number ≡ no_refusal → ⊥) → r ≡ Bench.refused old number 0 → Prints s old r
  a_word : (x : Numbers) → RightRecord s x → Printed x old r → Prints s old r

of_answer : (x : Numbers) {old : List ℕ} {r : Lent ℕ} → Lent.Writes word_text word_size (SpellingOf (Bench.asked x)) old r → Printed x old r
of_answer x y =
    let a = y.answer.normal in
    record {
      made = y.v;
      is = y.is;
      cheapest = normal_cheapest a;
      cheapest_phase = normal_cheapest_phase a;
      parity = tees_n y.v.letters (handed_in x.k x.n x.z x.w) (Same-sym a.same);
    }

pub bench_cheapest : (s old : List ℕ) (size : ℕ) (new : List ℕ) → BenchOutcome s old size new → Prints s old (lent size new)
bench_cheapest s old size new (Rung.given p t e) = no_word Limits.record_refusal (λ h. omega (arith, h)) e
bench_cheapest s old size new (Rung.passed f y) = of_numbers y.numbers y.right y.outcome
  where
    of_numbers : (x : Numbers) → RightRecord s x → NumbersOutcome x old (lent size new) → Prints s old (lent size new)
    of_numbers x h (Rung.given p t e) = no_word Limits.exponent_refusal (λ g. omega (arith, g)) e
    of_numbers x h (Rung.passed f (Rung.given p t e)) = no_word Limits.coefficient_refusal (λ g. omega (arith, g)) e
    of_numbers x h (Rung.passed f (Rung.passed g (Rung.given p t e))) = no_word Limits.unitary_refusal (λ i. omega (arith, i)) e
    of_numbers x h (Rung.passed f (Rung.passed g (Rung.passed i y))) = a_word x h (of_answer x y)

-- ---- the T count
-- some word is a cheapest spelling of the matrix, with t T letters
pub record SpelledWith (m : Matrix) (t : ℕ) : Type 0 where
  pub spelling : List Letter
  pub cheapest : Cheapest Same m spelling t

module _ (k : ℤ) (n : ℕ) (z w : ZOmega) (c : Count) (o : CountOutcome k n z w c) (e : c.refusal ≡ no_refusal) where
  abbrev triple : Triple
  triple = given k n z w

  unitary_there : Unitary triple
  unitary_there =
      (checks_taken k (quad z) (quad w)
      (through refused_count (AnswersCount (entries triple)) (λ (j : Count). j.refusal ≡ no_refusal) (checks k (quad z) (quad w)) none
      ((λ p h. omega arith), ((λ p h. omega arith), ((λ p h. omega arith), tt))) c e o).0).unitary_there n

  -- a word with the matrix has a normal word
  normal : HasNormal (letters (reduce triple))
  normal = has_normal (letters (reduce triple))

  same : Same (entries triple) (word normal.v)
  same = Same-trans (Same-sym (synthesised triple unitary_there)) normal.same

  count_is : tees normal.v ≡ c.tees
  count_is = let a = counted k n z w c o e in least_once (normal_least normal.normal (rotation_moved same a.is)) a.least

  pub count_cheapest : SpelledWith (entries triple) c.tees
  count_cheapest =
      record {
        spelling = normal.v;
        cheapest =
            subst (Cheapest Same (entries triple) normal.v) count_is (normal_cheapest (record { normal = normal.normal; same = same }));
      }

  pub count_parity : c.tees % 2 ≡ n % 2
  count_parity = ap (λ t. t % 2) (sym count_is) ∙ tees_n normal.v triple (Same-sym same)
