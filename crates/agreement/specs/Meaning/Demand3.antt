-- Demand 3 over the public jobs: the words that it speaks of, what both ways give for one word, and what they give for two with one matrix.
use Rattle.std.specs.Prelude.{◌≡◌, List, ℕ, ◌≤◌, pos, length, take}
use Rattle.exact.specs.Meaning.Matrix.{Same}
use Rattle.exact.specs.Meaning.Word.{Letter, word, bytes}
use Rattle.exact.specs.Meaning.Normal.{Normal}
use Rattle.exact.specs.Meaning.Endings.{AllShallow}
use Rattle.exact.specs.Meaning.Limits.{longest, enough, no_refusal}
use Rattle.exact.specs.Meaning.Lent.{Lent, lent, over}
use Rattle.unitary.specs.Meaning.{FromGates, MatrixOutcome}
use Rattle.normal_form.specs.Meaning as Job3
use Rattle.normal_form.specs.Meaning.{Written, NormaliseOutcome}
use Rattle.synthesis_of_clifford_t.specs.Meaning as Job4
use Rattle.synthesis_of_clifford_t.specs.Meaning.{Synthesis, StepsOf, SynthesiseOutcome}

-- a word over all six letters, not too long, none of whose endings is too deep
pub record Within (u : List Letter) : Type 0 where
  pub few : length u ≤ longest
  pub shallow : AllShallow u

-- job 4 on the matrix that job 2 answers
abbrev pub Synthesises : FromGates → List ℕ → Synthesis → List ℕ → Type 0
Synthesises m old r new = SynthesiseOutcome (pos m.matrix.k) m.matrix.n m.matrix.z m.matrix.w old r new

-- job 3; and job 2, then job 4 on its matrix: any outcomes that the jobs' promises allow, each with room
pub record BothWays (u : List Letter) (old₁ old₂ : List ℕ) (first : Lent Written) (matrix : FromGates) (second : Lent Synthesis) : Type 0 where
  pub room₁ : enough ≤ length old₁
  pub room₂ : enough ≤ length old₂
  pub normalised : NormaliseOutcome (bytes u) old₁ first.handed first.buffer
  pub multiplied : MatrixOutcome (bytes u) matrix
  pub synthesised : Synthesises matrix old₂ second.handed second.buffer

-- all are accepted, and v is the answer of both ways; the second also has the steps of the word's matrix
pub record Agreed (u v : List Letter) (old₁ old₂ : List ℕ) (first : Lent Written) (matrix : FromGates) (second : Lent Synthesis) : Type 0 where
  pub normal : Normal v
  pub same : Same (word v) (word u)
  pub first_is : first ≡ lent (Job3.counts v) (over (bytes v) old₁)
  pub matrix_taken : matrix.refusal ≡ no_refusal
  pub steps : ℕ
  pub counted : StepsOf (word u) steps
  pub second_is : second ≡ lent (Job4.counts (record { letters = v; steps = steps })) (over (bytes v) old₂)

-- ---- two words: what is handed back, and the bytes that were written
pub record Seen : Type 0 where
  pub refusal : ℕ
  pub bytes : ℕ
  pub tees : ℕ
  pub text : List ℕ

abbrev pub seen_first : Lent Written → Seen
seen_first j = record { refusal = j.handed.refusal; bytes = j.handed.bytes; tees = j.handed.tees; text = take j.handed.bytes j.buffer }

abbrev pub seen_second : Lent Synthesis → Seen
seen_second j = record { refusal = j.handed.refusal; bytes = j.handed.bytes; tees = j.handed.tees; text = take j.handed.bytes j.buffer }

-- the same for both words and both ways
pub record OneOutcome (first first' : Lent Written) (second second' : Lent Synthesis) : Type 0 where
  pub first_same : seen_first first ≡ seen_first first'
  pub ways_same : seen_first first ≡ seen_second second
  pub second_same : seen_second second ≡ seen_second second'
  pub steps_same : second.handed.steps ≡ second'.handed.steps
