-- An I put in at any place of a word that demand 3 speaks of: demand 3 speaks of that word too, unless it is too long with it, and both ways give
-- what they gave without, over the jobs and over the exports. Assumes nothing.
use Rattle.std.specs.Prelude.{List, [], ◌∷◌, ◌++◌, ℕ, zero, suc, ◌≤◌, length, drop}
use Rattle.std.proofs.Common.{arith}
use Rattle.exact.specs.Meaning.Matrix.{Same}
use Rattle.exact.specs.Meaning.Word.{Letter, I, word}
use Rattle.exact.specs.Meaning.Endings.{Shallow, AllShallow}
use Rattle.exact.specs.Meaning.Limits.{longest}
use Rattle.exact.specs.Meaning.Lent.{Lent}
use Rattle.exact.proofs.Matrices.Same.{Same-sym}
use Rattle.exact.proofs.Matrices.Least.{least_same}
use Rattle.unitary.specs.Meaning.{FromGates}
use Rattle.normal_form.specs.Meaning.{Written}
use Rattle.normal_form.specs.Identity.{I_nothing}
use Rattle.synthesis_of_clifford_t.specs.Meaning.{Synthesis}
use Rattle.agreement.specs.Meaning.Demand3.{Within, BothWays, OneOutcome}
use Rattle.agreement.specs.Meaning.Exports.{Wrote, Made, BothCalls, OneCall}
use Rattle.agreement.proofs.Demand3.{one_outcome, exports_one_outcome}

-- ---- no ending gets deeper
shallow_same : {u v : List Letter} → Same (word u) (word v) → Shallow u → Shallow v
shallow_same s h = record { k = h.k; least = least_same s h.least; few = h.few }

shallow_rest : (l : Letter) (u : List Letter) → AllShallow (l ∷ u) → AllShallow u
shallow_rest l u h = record { at = λ i k. h.at (suc i) (omega arith) }

-- an ending with the I is one without, or the same matrix
put_in : (u v : List Letter) → AllShallow (u ++ v) → (i : ℕ) → i ≤ length (u ++ (I ∷ v)) → Shallow (drop i (u ++ (I ∷ v)))
put_in [] v h zero k = shallow_same (Same-sym (I_nothing [] v)) (h.at 0 (omega arith))
put_in [] v h (suc i) k = h.at i (omega arith)
put_in (l ∷ u) v h zero k = shallow_same (Same-sym (I_nothing (l ∷ u) v)) (h.at 0 (omega arith))
put_in (l ∷ u) v h (suc i) k = put_in u v (shallow_rest l (u ++ v) h) i (omega arith)

module _ (u v : List Letter) (w : Within (u ++ v)) (few : length (u ++ (I ∷ v)) ≤ longest) where
  pub I_within : Within (u ++ (I ∷ v))
  I_within = record { few = few; shallow = record { at = put_in u v w.shallow } }

  pub I_both_ways : {old₁ old₂ old₁' old₂' : List ℕ} {first first' : Lent Written} {matrix matrix' : FromGates} {second second' : Lent Synthesis}
      → BothWays (u ++ (I ∷ v)) old₁ old₂ first matrix second → BothWays (u ++ v) old₁' old₂' first' matrix' second'
      → OneOutcome first first' second second'
  I_both_ways = one_outcome I_within w (I_nothing u v)

  pub I_both_calls : {old₁ old₂ old₁' old₂' : List ℕ} {first first' second second' : Wrote} {matrix matrix' : Made}
      → BothCalls (u ++ (I ∷ v)) old₁ old₂ first matrix second → BothCalls (u ++ v) old₁' old₂' first' matrix' second'
      → OneCall first first' second second'
  I_both_calls = exports_one_outcome I_within w (I_nothing u v)
