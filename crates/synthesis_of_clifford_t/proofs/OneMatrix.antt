-- Job 4's outcomes by the matrix alone: at most two steps for each reduced k, 119 in all, and how many exactly; and triples with one matrix, however they are
-- written and whatever memory is lent, get the same word and the same numbers. Assumes nothing.
use Rattle.std.specs.Prelude.{◌≡◌, refl, List, ℕ, zero, suc, ◌-◌, ◌*◌, ◌≤◌, ◌<◌, ℤ, nat_abs, take}
use Rattle.std.proofs.Common.{sym, ◌∙◌, ap, subst, arith}
use Rattle.exact.specs.Meaning.Number.{residue}
use Rattle.exact.specs.Meaning.Matrix.{Same}
use Rattle.exact.specs.Meaning.Triple.{Triple}
use Rattle.exact.specs.Meaning.Limits.{deepest, no_refusal}
use Rattle.exact.specs.Meaning.Lent.{Lent, lent, untouched, Writes}
use Rattle.exact.proofs.Cases.Letters.{bytes_length}
use Rattle.exact.proofs.Algebra.Norm.{norm}
use Rattle.exact.proofs.Outcomes.Ladder.{Passed, accepted, always}
use Rattle.exact.proofs.Outcomes.Checked.{checks_taken}
use Rattle.exact.proofs.Outcomes.Lent.{text_there}
use Rattle.ring.specs.Meaning.{quad}
use Rattle.ring.specs.declared.ZOmega.{ZOmega}
use Rattle.unitary.specs.Meaning.{Answers}
use Rattle.unitary.specs.Checks.{exponent_size}
use Rattle.steps.specs.Meaning.{Takes}
use Rattle.steps.specs.Step.{Ready}
use Rattle.steps.proofs.Followed.{takes_few}
use Rattle.steps.proofs.Exactly.{takes_0001, takes_1010, takes_under}
use Rattle.synthesis_of_clifford_t.specs.Meaning.{Synthesis, Spelling, text, refused, counts, SpellingOf, asked, refusals, SynthesiseOutcome}
use Rattle.synthesis_of_clifford_t.proofs.Counted.{answer_ready, steps_from, spelling_moved, one_spelling}

-- what is handed back, and the bytes that were written
abbrev pub seen : Lent Synthesis → Synthesis × List ℕ
seen j = (j.handed, take j.handed.bytes j.buffer)

module _ (k : ℤ) (n : ℕ) (z w : ZOmega) (old : List ℕ) (r : Synthesis) (new : List ℕ) (o : SynthesiseOutcome k n z w old r new) where
  -- accepted, it is an answer
  pub answer_there : r.refusal ≡ no_refusal → Writes text counts (SpellingOf (asked k n z w old)) old (lent r new)
  answer_there e =
      accepted (untouched refused old) (Writes text counts (SpellingOf (asked k n z w old)) old) (λ (j : Lent Synthesis). j.handed.refusal ≡ no_refusal)
      (refusals k n z w old) ((λ p h. omega arith), ((λ p h. omega arith), ((λ p h. omega arith), ((λ p h. omega arith), tt)))) (lent r new) e o

  pub seen_is : (y : Writes text counts (SpellingOf (asked k n z w old)) old (lent r new)) → seen (lent r new) ≡ (counts y.v, text y.v)
  seen_is y =
      ap seen y.is
      ∙ (λ i. (counts y.v, text_there (text y.v) old (counts y.v).bytes (sym (bytes_length y.v.letters)) i))

  -- what holds of the numbers of every refusal and of every answer
  each : (P : Synthesis → Type 0) → ((m p : ℕ) → P (refused m p))
      → (Passed (refusals k n z w old) → (a : Spelling) → SpellingOf (asked k n z w old) a → P (counts a))
      → P r
  each P f g =
      always (untouched refused old) (Writes text counts (SpellingOf (asked k n z w old)) old) (λ (j : Lent Synthesis). P j.handed) f
      (refusals k n z w old) (λ h j y. subst (λ (x : Lent Synthesis). P x.handed) (sym y.is) (g h y.v y.answer)) (lent r new) o

  -- refused, there are none
  pub steps_refused : (r.refusal ≡ no_refusal → ⊥) → r.steps ≡ 0
  steps_refused = each (λ s. (s.refusal ≡ no_refusal → ⊥) → s.steps ≡ 0) (λ m p f. refl) (λ h a s f. absurd (f refl))

  -- and never more than 119, since k is at most 60
  pub steps_most : r.steps ≤ 2 * deepest - 1
  steps_most =
      each (λ s. s.steps ≤ 2 * deepest - 1) (λ m p. omega arith)
      (λ h a s. few a s (exponent_size k (checks_taken k (quad z) (quad w) (h.0, (h.1.0, (h.1.1.0, tt)))).exponent_in))
    where
      few : (a : Spelling) → SpellingOf (asked k n z w old) a → nat_abs k ≤ deepest → a.steps ≤ 2 * deepest - 1
      few a s l = go t.k refl
        where
          t : Triple
          t = s.counted.start

          again : Ready t
          again = answer_ready (asked k n z w old) a.letters s.normal.same t s.counted.reduced

          low : t.k ≤ deepest
          low = omega (arith, s.counted.reduced.reduced.least.least (asked k n z w old) s.counted.reduced.same)

          go : (m : ℕ) → t.k ≡ m → a.steps ≤ 2 * deepest - 1
          go zero e = omega (arith, takes_few a.steps t again s.counted.takes)
          go (suc m) e = omega (arith, low, takes_under a.steps t again s.counted.takes (omega (arith, e)))

  -- ---- t is the reduced triple
  module _ (t : Triple) (a : Answers (asked k n z w old) t) where
    ready : (s : Spelling) → SpellingOf (asked k n z w old) s → Ready t
    ready s h = answer_ready (asked k n z w old) s.letters h.normal.same t a

    takes : (s : Spelling) → SpellingOf (asked k n z w old) s → Takes s.steps t
    takes s h = steps_from (asked k n z w old) s.letters h.normal.same s.steps h.counted t a

    pub steps_few : r.steps ≤ 2 * t.k
    steps_few = each (λ s. s.steps ≤ 2 * t.k) (λ m p. omega arith) (λ h a s. takes_few a.steps t (ready a s) (takes a s))

    pub steps_under : 0 < t.k → r.steps < 2 * t.k
    steps_under more = each (λ s. s.steps < 2 * t.k) (λ m p. omega arith) (λ h a s. takes_under a.steps t (ready a s) (takes a s) more)

    pub steps_at_0 : t.k ≡ 0 → r.steps ≡ 0
    steps_at_0 e = omega (arith, steps_few)

    module _ (e : r.refusal ≡ no_refusal) (more : 0 < t.k) where
      y : Writes text counts (SpellingOf (asked k n z w old)) old (lent r new)
      y = answer_there e

      counted : r.steps ≡ y.v.steps
      counted = ap (λ (j : Lent Synthesis). j.handed.steps) y.is

      pub steps_at_0001 : residue (norm t.z) ≡ 0b0001 → r.steps ≡ 2 * t.k - 1
      steps_at_0001 f = counted ∙ takes_0001 y.v.steps t (ready y.v y.answer) (takes y.v y.answer) more f

      pub steps_at_1010 : residue (norm t.z) ≡ 0b1010 → r.steps ≡ 2 * t.k - 2
      steps_at_1010 f = counted ∙ takes_1010 y.v.steps t (ready y.v y.answer) (takes y.v y.answer) more f

-- ---- two triples with one matrix
module _ (k : ℤ) (n : ℕ) (z w : ZOmega) (old : List ℕ) (j : Lent Synthesis)
    (k' : ℤ) (n' : ℕ) (z' w' : ZOmega) (old' : List ℕ) (j' : Lent Synthesis) where
  pub one_matrix : Same (asked k n z w old) (asked k' n' z' w' old')
      → SynthesiseOutcome k n z w old j.handed j.buffer → SynthesiseOutcome k' n' z' w' old' j'.handed j'.buffer
      → j.handed.refusal ≡ no_refusal → j'.handed.refusal ≡ no_refusal
      → seen j ≡ seen j'
  one_matrix s o o' e e' =
      let y = answer_there k n z w old j.handed j.buffer o e in
      let y' = answer_there k' n' z' w' old' j'.handed j'.buffer o' e' in
      seen_is k n z w old j.handed j.buffer o y
      ∙ ap (λ (a : Spelling). (counts a, text a))
      (one_spelling (asked k' n' z' w' old') y.v y'.v (spelling_moved s y.v y.answer) y'.answer)
      ∙ sym (seen_is k' n' z' w' old' j'.handed j'.buffer o' y')
