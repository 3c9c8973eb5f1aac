-- 376 bytes are enough for job 4: what it writes is never longer. Assumes nothing.
use Rattle.std.specs.Prelude.{refl, List, ℕ, ◌≤◌, ℤ, length}
use Rattle.std.proofs.Common.{sym, arith}
use Rattle.exact.specs.Meaning.Number.{Ω}
use Rattle.exact.specs.Meaning.Word.{Letter}
use Rattle.exact.specs.Meaning.Normal.{NormalOf}
use Rattle.exact.specs.Meaning.Triple.{entries}
use Rattle.exact.specs.Meaning.Limits.{enough}
use Rattle.exact.specs.Meaning.Lent.{Lent, lent, untouched, Writes}
use Rattle.exact.specs.Meaning.Refusals.{handed_in}
use Rattle.exact.proofs.Matrices.Same.{Same-sym, Same-trans}
use Rattle.exact.specs.Matrices.Least.{reduce}
use Rattle.exact.proofs.Matrices.Least.{reduce_reduces}
use Rattle.exact.proofs.Cases.Letters.{bytes_length}
use Rattle.exact.proofs.Outcomes.Ladder.{always}
use Rattle.exact.proofs.Outcomes.Checked.{Taken, checks_taken}
use Rattle.exact.proofs.Outcomes.Lent.{written_there}
use Rattle.ring.specs.Meaning.{quad}
use Rattle.ring.specs.declared.ZOmega.{ZOmega}
use Rattle.unitary.specs.Checks.{exponent_size}
use Rattle.steps.proofs.Synthesised.{reduce_ready}
use Rattle.steps.proofs.Counts.{answer_enough}
use Rattle.synthesis_of_clifford_t.specs.Meaning.{Synthesis, text, refused, counts, SpellingOf, asked, refusals, SynthesiseOutcome}

pub answer_short : (k : ℤ) (n : ℕ) (z w : Ω) → Taken k z w → (v : List Letter) → NormalOf (entries (handed_in k n z w)) v → length v ≤ enough
answer_short k n z w taken v a =
    let t = handed_in k n z w in
    let r = reduce_reduces t in
    answer_enough (reduce t) v (reduce_ready t (taken.unitary_there n))
    (omega (arith, r.reduced.least.least (entries t) r.same, exponent_size k taken.exponent_in)) a.normal
    (Same-trans (Same-sym a.same) (Same-sym r.same))

-- what is handed back as written is there, and not too long
module _ (k : ℤ) (n : ℕ) (z w : ZOmega) (old : List ℕ) (r : Synthesis) (new : List ℕ) (o : SynthesiseOutcome k n z w old r new) where
  pub bytes_there : r.bytes ≤ length new
  bytes_there =
      written_there text counts (SpellingOf (asked k n z w old)) old refused (λ x. x.bytes) (λ n p. refl) (λ a. sym (bytes_length a.letters))
      (refusals k n z w old) (lent r new) o

  pub bytes_few : r.bytes ≤ enough
  bytes_few =
      always (untouched refused old) (Writes text counts (SpellingOf (asked k n z w old)) old)
      (λ (x : Lent Synthesis). x.handed.bytes ≤ enough) (λ m p. omega arith) (refusals k n z w old)
      (λ h x y.
      rw y.is
      (answer_short k n (quad z) (quad w) (checks_taken k (quad z) (quad w) (h.0, (h.1.0, (h.1.1.0, tt)))) y.v.letters y.answer.normal))
      (lent r new) o
