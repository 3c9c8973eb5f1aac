-- Two outcomes that an export allows for one input are equal: its number, its results and its lent bytes, by its job's own theorem; and so are two
-- answers of the bench program. Assumes nothing.
use Rattle.std.specs.Prelude.{◌≡◌, List, ℕ, ℤ}
use Rattle.std.proofs.Common.{subst}
use Rattle.exact.specs.Meaning.Word.{Letter}
use Rattle.exact.specs.Meaning.Outcome.{none, ◌then◌}
use Rattle.exact.specs.Meaning.Lent as Lent
use Rattle.exact.specs.Meaning.Lent.{lent}
use Rattle.exact.specs.Meaning.Refusals.{checks, malformed}
use Rattle.exact.specs.Meaning.Record.{Numbers}
use Rattle.exact.proofs.Outcomes.Ladder.{Only, one_outcome, one_handed}
use Rattle.exact.proofs.Outcomes.Places.{one_plain}
use Rattle.exact.proofs.Outcomes.Checked.{checks_one}
use Rattle.exact.proofs.Outcomes.Lent.{one_written}
use Rattle.record.specs.RecordLaws.{record_once}
use Rattle.dunrossel.specs.Meaning.Bench.{refused, word_text, word_size, asked, NumbersOutcome, OfRecord, BenchOutcome}
use Rattle.unitary.specs.Unique.{reduce_unique, matrix_unique}
use Rattle.normal_form.specs.Unique.{outcome_unique}
use Rattle.clifford.proofs.Unique.{Product-unique, Inverse-unique, Split-unique}
use Rattle.synthesis_of_clifford_t.specs.Meaning.{Synthesis, SpellingOf}
use Rattle.synthesis_of_clifford_t.proofs.Counted.{one_spelling}
use Rattle.synthesis_of_clifford_t.proofs.Unique.{synthesise_unique}
use Rattle.circuit.specs.Meaning.{Edition}
use Rattle.qasm.specs.Meaning.{WriteOutcome, ReadOutcome}
use Rattle.qasm.specs.Unique.{write_unique, read_unique}
use Rattle.slot.specs.Meaning.{slot_of}
use Rattle.slot.proofs.Unique.{add_unique, length_unique}
use Rattle.view.proofs.Unique.{view_unique}
use Rattle.rotation.specs.Unique.{count_unique, rotation_unique}
use Rattle.dunrossel.specs.Meaning.Exports.{Reduces, Multiplies, Views, Counts, Rotates, Writes, Synthesises, Converts, Extends, Measures}
use Rattle.dunrossel.specs.Meaning.Exports.{argument, Multiplied, Inverted, Parted}
use Rattle.handed.specs.Meaning.{z_of, w_of}

pub reduces_unique : (k : ℤ) (n : ℕ) (zw : List ℤ) → Only (Reduces k n zw)
reduces_unique k n zw = one_handed _ _ (reduce_unique k n (z_of zw) (w_of zw))

pub multiplies_unique : (w : List ℕ) → Only (Multiplies w)
multiplies_unique w = one_handed _ _ (matrix_unique w)

pub views_unique : (k : ℤ) (n : ℕ) (zw : List ℤ) → Only (Views k n zw)
views_unique k n zw = one_handed _ _ (view_unique k n (z_of zw) (w_of zw))

pub counts_unique : (k : ℤ) (n : ℕ) (zw : List ℤ) → Only (Counts k n zw)
counts_unique k n zw = one_handed _ _ (count_unique k n (z_of zw) (w_of zw))

pub rotates_unique : (k : ℤ) (n : ℕ) (zw : List ℤ) → Only (Rotates k n zw)
rotates_unique k n zw = one_handed _ _ (rotation_unique k n (z_of zw) (w_of zw))

pub writes_unique : (Answer : List Letter → List Letter → Type 0) → ((u : List Letter) → Only (Answer u)) → (w old : List ℕ)
    → Only (Writes Answer w old)
writes_unique Answer one w old = one_handed _ _ (λ r s. outcome_unique one w old r.handed r.buffer s.handed s.buffer)

pub synthesises_unique : (numbers : Synthesis → List ℕ) (k : ℤ) (n : ℕ) (zw : List ℤ) (old : List ℕ) → Only (Synthesises numbers k n zw old)
synthesises_unique numbers k n zw old =
    one_handed _ _ (λ r s. synthesise_unique k n (z_of zw) (w_of zw) old r.handed r.buffer s.handed s.buffer)

pub circuit_unique : (e : Edition) (w old : List ℕ) → Only (Converts (WriteOutcome e w old))
circuit_unique e w old = one_handed _ _ (λ r s. write_unique old r s e w)

pub letters_unique : (t old : List ℕ) → Only (Converts (ReadOutcome t old))
letters_unique t old = one_handed _ _ (λ r s. read_unique old r s t)

pub extends_unique : (letter : ℕ) (syllables rest : List ℕ) → Only (Extends letter syllables rest)
extends_unique letter syllables rest = one_handed _ _ (add_unique letter (slot_of syllables rest))

pub measures_unique : (syllables rest : List ℕ) → Only (Measures syllables rest)
measures_unique syllables rest = one_handed _ _ (length_unique (slot_of syllables rest))

pub multiplied_unique : (x y : List ℤ) → Only (Multiplied x y)
multiplied_unique x y = one_handed _ _ (Product-unique (argument x) (argument y))

pub inverted_unique : (x : List ℤ) → Only (Inverted x)
inverted_unique x = one_handed _ _ (Inverse-unique (argument x))

pub parted_unique : (x : List ℤ) → Only (Parted x)
parted_unique x = one_handed _ _ (Split-unique (argument x))

-- ---- the bench program
one_numbers : (x : Numbers) (old : List ℕ) → Only (NumbersOutcome x old)
one_numbers x old =
    one_outcome (refused old) (Lent.Writes word_text word_size (SpellingOf (asked x)) old) (checks x.k x.z x.w) (checks_one x.k x.z x.w)
    (λ h. one_written word_text word_size (SpellingOf (asked x)) old (one_spelling (asked x)))

one_record : (s old : List ℕ) → Only (OfRecord s old)
one_record s old r t x y =
    one_numbers y.numbers old r t
    (subst (λ (n : Numbers). NumbersOutcome n old r) (record_once s x.numbers y.numbers x.right y.right) x.outcome) y.outcome

module _ (s old : List ℕ) (size : ℕ) (new : List ℕ) (size' : ℕ) (new' : List ℕ) where
  pub bench_unique : BenchOutcome s old size new → BenchOutcome s old size' new' → lent size new ≡ lent size' new'
  bench_unique =
      one_outcome (refused old) (OfRecord s old) (malformed s then none) (one_plain, tt) (λ h. one_record s old) (lent size new)
      (lent size' new')
