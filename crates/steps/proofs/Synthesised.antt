-- Exact synthesis whole: the letters that a unitary triple, reduced first, is taken apart into have its matrix, phase included; what
-- a reduction answers; and what follows for words: their normal words' lengths, by the least exponent. Assumes nothing.
use Rattle.std.specs.Prelude.{◌≡◌, List, ℕ, zero, suc, ◌+◌, ◌*◌, ◌≤◌, length}
use Rattle.std.proofs.Common.{ap, arith}
use Rattle.exact.specs.Meaning.Matrix.{Same, Least}
use Rattle.exact.specs.Meaning.Word.{Letter, word}
use Rattle.exact.specs.Meaning.Triple.{Triple, entries, Unitary}
use Rattle.exact.specs.Meaning.Normal.{Normal}
use Rattle.exact.specs.Meaning.Limits.{deepest, enough}
use Rattle.exact.proofs.Matrices.Same.{Same-sym, Same-trans, Same-of}
use Rattle.exact.proofs.Matrices.Triples.{unitary_same, triple_of, word_triple, word_unitary}
use Rattle.exact.specs.Matrices.Least.{reduce}
use Rattle.exact.proofs.Matrices.Least.{Reduces, reduce_reduces, answer_unique, least_unique, least_same}
use Rattle.steps.specs.Meaning.{power}
use Rattle.steps.specs.Step.{Ready, Ended, Stepped, reduction, next}
use Rattle.steps.specs.Steps.{letters}
use Rattle.steps.proofs.Steps.{letters_same}
use Rattle.steps.proofs.Counts.{answer_length}

-- ---- what a reduction answers
pub reduction_ended : (t : Triple) → t.k ≡ 0 → reduction t ≡ Ended
reduction_ended t e = ap (λ k. elim k [ zero ↦ Ended | suc k ↦ Stepped (power t) (next t) ]) e

pub reduction_stepped : (t : Triple) (k : ℕ) → t.k ≡ suc k → reduction t ≡ Stepped (power t) (next t)
reduction_stepped t k e = ap (λ k. elim k [ zero ↦ Ended | suc k ↦ Stepped (power t) (next t) ]) e

-- ---- every unitary triple
pub reduce_ready : (t : Triple) → Unitary t → Ready (reduce t)
reduce_ready t u = record { unitary = unitary_same (Same-sym (reduce_reduces t).same) u; reduced = (reduce_reduces t).reduced }

pub synthesised : (t : Triple) → Unitary t → Same (word (letters (reduce t))) (entries t)
synthesised t u = Same-trans (letters_same (reduce t) (reduce_ready t u)) (reduce_reduces t).same

-- triples with one matrix have the same letters
pub letters_alike : (s t : Triple) → Unitary s → Same (entries s) (entries t) → letters (reduce s) ≡ letters (reduce t)
letters_alike s t u h =
    let p : Reduces s (reduce s) = reduce_reduces s in
    let q : Reduces t (reduce t) = reduce_reduces t in
    ap letters
    (answer_unique (reduce_ready s u).unitary p.reduced q.reduced p.n_small q.n_small
    (Same-trans p.same (Same-trans h (Same-sym q.same))))

-- ---- words
reduced_word : (u : List Letter) → Same (entries (reduce (triple_of u))) (word u)
reduced_word u = Same-trans (reduce_reduces (triple_of u)).same (Same-of (word_triple u))

pub word_synthesised : (u : List Letter) → Same (word (letters (reduce (triple_of u)))) (word u)
word_synthesised u = Same-trans (synthesised (triple_of u) (word_unitary u)) (Same-of (word_triple u))

-- a normal word with a word's matrix, by that matrix's least exponent
pub word_length : (u v : List Letter) (k : ℕ) → Least (word u) k → Normal v → Same (word v) (word u) → length v ≤ 6 * k + 16
word_length u v k l n h =
    let r = reduce (triple_of u) in
    let q : Ready r = reduce_ready (triple_of u) (word_unitary u) in
    let k_is : k ≡ r.k = least_unique l (least_same (reduced_word u) q.reduced.least) in
    omega (arith, answer_length r v q n (Same-trans h (Same-sym (reduced_word u))))

pub word_enough : (u v : List Letter) (k : ℕ) → Least (word u) k → k ≤ deepest → Normal v → Same (word v) (word u) → length v ≤ enough
word_enough u v k l d n h = omega (arith, word_length u v k l n h)
