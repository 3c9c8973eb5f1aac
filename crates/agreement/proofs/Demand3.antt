-- Demand 3, over the promises of the jobs and over those of the exports. For a word of I, H, S, X, W, T of at most 4,096 letters each of whose
-- endings has least exponent at most 60, normalising it and synthesising its multiplied-out matrix, each given 376 bytes or more, are accepted
-- and write the same bytes, a normal word with the word's matrix. Two such words with one matrix have one outcome, whatever the lent bytes held
-- and however many there were. The words are in Meaning.Demand3 and Meaning.Exports, the reasons in Jobs and Calls. Assumes nothing.
use Rattle.std.specs.Prelude.{List, ℕ}
use Rattle.exact.specs.Meaning.Matrix.{Same}
use Rattle.exact.specs.Meaning.Word.{Letter, word}
use Rattle.exact.specs.Meaning.Lent.{Lent}
use Rattle.unitary.specs.Meaning.{FromGates}
use Rattle.normal_form.specs.Meaning.{Written}
use Rattle.synthesis_of_clifford_t.specs.Meaning.{Synthesis}
use Rattle.agreement.specs.Meaning.Demand3.{Within, BothWays, Agreed, OneOutcome}
use Rattle.agreement.specs.Meaning.Exports.{Wrote, Made, BothCalls, AgreedCalls, OneCall}
use Rattle.agreement.proofs.Jobs.{ways_agree, ways_one}
use Rattle.agreement.proofs.Calls.{calls_agree, calls_one}

-- ---- the jobs
pub demand_3 : {u : List Letter} {old₁ old₂ : List ℕ} {first : Lent Written} {matrix : FromGates} {second : Lent Synthesis}
    → Within u → BothWays u old₁ old₂ first matrix second
    → (v : List Letter) × Agreed u v old₁ old₂ first matrix second
demand_3 w b = ways_agree w b

pub one_outcome : {u u' : List Letter} {old₁ old₂ old₁' old₂' : List ℕ} {first first' : Lent Written} {matrix matrix' : FromGates}
    {second second' : Lent Synthesis}
    → Within u → Within u' → Same (word u) (word u')
    → BothWays u old₁ old₂ first matrix second → BothWays u' old₁' old₂' first' matrix' second'
    → OneOutcome first first' second second'
one_outcome w w' s b b' = ways_one w w' s b b'

-- ---- the exports
pub exports_demand_3 : {u : List Letter} {old₁ old₂ : List ℕ} {first second : Wrote} {matrix : Made}
    → Within u → BothCalls u old₁ old₂ first matrix second
    → (v : List Letter) × AgreedCalls u v old₁ old₂ first matrix second
exports_demand_3 w b = calls_agree w b

pub exports_one_outcome : {u u' : List Letter} {old₁ old₂ old₁' old₂' : List ℕ} {first first' second second' : Wrote}
    {matrix matrix' : Made}
    → Within u → Within u' → Same (word u) (word u')
    → BothCalls u old₁ old₂ first matrix second → BothCalls u' old₁' old₂' first' matrix' second'
    → OneCall first first' second second'
exports_one_outcome w w' s b b' = calls_one w w' s b b'
