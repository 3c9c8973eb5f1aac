-- What the bench program answers, for every input: the text of refusal 8 where the bytes are no right record, else that of what job 4 says of its
-- numbers, in which refusal 7 has no place.
use Rattle.std.specs.Prelude.{List, [], ℕ, length}
use Rattle.exact.specs.Meaning.Matrix.{Matrix}
use Rattle.exact.specs.Meaning.Word.{tees, bytes}
use Rattle.exact.specs.Meaning.Triple.{entries}
use Rattle.exact.specs.Meaning.Limits.{no_refusal}
use Rattle.exact.specs.Meaning.Outcome.{Outcome, none, ◌then◌}
use Rattle.exact.specs.Meaning.Lent.{Lent, lent, over, Writes}
use Rattle.exact.specs.Meaning.Refusals.{handed_in, checks, malformed}
use Rattle.exact.specs.Meaning.Record.{Numbers, RightRecord, answer_text}
use Rattle.synthesis_of_clifford_t.specs.Meaning.{Spelling, SpellingOf}

-- ---- what is printed: its size, and the lent bytes at the end
abbrev pub printed : List ℕ → List ℕ → Lent ℕ
printed old text = lent (length text) (over text old)

-- of a refusal, which names no place
abbrev pub refused : List ℕ → ℕ → ℕ → Lent ℕ
refused old n p = printed old (answer_text n [] 0 0)

-- of a word and its steps
abbrev pub word_text : Spelling → List ℕ
word_text a = answer_text no_refusal (bytes a.letters) (tees a.letters) a.steps

abbrev pub word_size : Spelling → ℕ
word_size a = length (word_text a)

-- ---- the answer to a record's numbers: those refusals of job 4 that can arise, or the normal word of their matrix and the steps to it
abbrev pub asked : Numbers → Matrix
asked x = entries (handed_in x.k x.n x.z x.w)

abbrev pub NumbersOutcome : Numbers → List ℕ → Lent ℕ → Type 0
NumbersOutcome x old r = Outcome (refused old) (Writes word_text word_size (SpellingOf (asked x)) old) (checks x.k x.z x.w) r

pub record OfRecord (s old : List ℕ) (r : Lent ℕ) : Type 0 where
  pub numbers : Numbers
  pub right : RightRecord s numbers
  pub outcome : NumbersOutcome numbers old r

abbrev pub BenchOutcome : List ℕ → List ℕ → ℕ → List ℕ → Type 0
BenchOutcome s old size new = Outcome (refused old) (OfRecord s old) (malformed s then none) (lent size new)
