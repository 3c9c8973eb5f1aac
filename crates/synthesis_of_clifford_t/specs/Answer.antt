-- From the letters of a reduced triple, normalised, to what job 4 promises. Assumes nothing.
use Rattle.std.specs.Prelude.{List, ℕ}
use Rattle.exact.specs.Meaning.Triple.{Triple, entries}
use Rattle.exact.specs.Meaning.Lent.{lent}
use Rattle.exact.proofs.Outcomes.Lent.{Written}
use Rattle.synthesis_of_clifford_t.specs.Meaning.{Synthesis, text, refused, counts, SpellingOf}

-- the normal word of a reduced triple and its steps, where there is room for the word
abbrev pub AnsweredBy : Triple → List ℕ → Synthesis → List ℕ → Type 0
AnsweredBy t old r new = Written text counts (SpellingOf (entries t)) old refused (lent r new)
