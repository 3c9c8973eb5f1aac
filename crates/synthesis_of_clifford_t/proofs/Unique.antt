-- Two outcomes that job 4 allows for one input are equal. Assumes nothing.
use Rattle.std.specs.Prelude.{◌≡◌, List, ℕ, ℤ}
use Rattle.exact.specs.Meaning.Lent.{lent, untouched, Writes}
use Rattle.exact.proofs.Outcomes.Ladder.{one_outcome}
use Rattle.exact.proofs.Outcomes.Places.{one_plain}
use Rattle.exact.proofs.Outcomes.Lent.{one_written}
use Rattle.ring.specs.declared.ZOmega.{ZOmega}
use Rattle.synthesis_of_clifford_t.specs.Meaning.{Synthesis, text, refused, counts, SpellingOf, asked, refusals, SynthesiseOutcome}
use Rattle.synthesis_of_clifford_t.proofs.Counted.{one_spelling}

module _ (k : ℤ) (n : ℕ) (z w : ZOmega) (old : List ℕ) where
  pub synthesise_unique : (r : Synthesis) (new : List ℕ) (r' : Synthesis) (new' : List ℕ)
      → SynthesiseOutcome k n z w old r new
      → SynthesiseOutcome k n z w old r' new'
      → lent r new ≡ lent r' new'
  synthesise_unique r new r' new' =
      one_outcome (untouched refused old) (Writes text counts (SpellingOf (asked k n z w old)) old) (refusals k n z w old)
      (one_plain, (one_plain, (one_plain, (one_plain, tt))))
      (λ h. one_written text counts (SpellingOf (asked k n z w old)) old (one_spelling (asked k n z w old))) (lent r new) (lent r' new')
