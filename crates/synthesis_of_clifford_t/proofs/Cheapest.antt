-- Job 4 writes a cheapest spelling, through its outcome: what an accepted call wrote has the fewest T letters of all words with the triple's matrix, up
-- to a phase too, the number handed back is theirs, and all such words have its parity, which is n's. Assumes nothing.
use Rattle.std.specs.Prelude.{◌≡◌, List, ℕ, ◌%◌, ℤ, take}
use Rattle.std.proofs.Common.{◌∙◌, ap}
use Rattle.exact.specs.Meaning.Limits.{no_refusal}
use Rattle.exact.specs.Meaning.Lent.{lent, Writes}
use Rattle.exact.proofs.Matrices.Parity.{tees_n}
use Rattle.exact.proofs.Matrices.Same.{Same-sym}
use Rattle.exact.proofs.Unique.Cheapest.{SpelledCheapest, normal_spelled}
use Rattle.ring.specs.declared.ZOmega.{ZOmega}
use Rattle.unitary.specs.Meaning.{given}
use Rattle.synthesis_of_clifford_t.specs.Meaning.{Synthesis, text, counts, SpellingOf, asked, SynthesiseOutcome}
use Rattle.synthesis_of_clifford_t.proofs.OneMatrix.{seen, answer_there, seen_is}

module _ (k : ℤ) (n : ℕ) (z w : ZOmega) (old : List ℕ) (r : Synthesis) (new : List ℕ) (o : SynthesiseOutcome k n z w old r new)
    (e : r.refusal ≡ no_refusal) where
  answer : Writes text counts (SpellingOf (asked k n z w old)) old (lent r new)
  answer = answer_there k n z w old r new o e

  written : seen (lent r new) ≡ (counts answer.v, text answer.v)
  written = seen_is k n z w old r new o answer

  counted : r.tees ≡ (counts answer.v).tees
  counted = ap (λ (s : Synthesis × List ℕ). s.0.tees) written

  pub synthesised_cheapest : SpelledCheapest (asked k n z w old) (take r.bytes new) r.tees
  synthesised_cheapest =
      normal_spelled answer.v.letters answer.answer.normal (ap (λ (s : Synthesis × List ℕ). s.1) written) counted

  pub synthesised_parity : r.tees % 2 ≡ n % 2
  synthesised_parity = ap (λ t. t % 2) counted ∙ tees_n answer.v.letters (given k n z w) (Same-sym answer.answer.normal.same)
