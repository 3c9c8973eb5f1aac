-- What `agree` promises: the outcomes of both ways, and yes exactly when both are accepted with the same bytes.
use Rattle.std.specs.Prelude.{◌≡◌, Bool, List, ℕ, take}
use Rattle.exact.specs.Meaning.Limits.{no_refusal}
use Rattle.exact.specs.Meaning.Outcome.{Refusal, Outcome, none, ◌then◌, HandsOn, Decides}
use Rattle.exact.specs.Meaning.Lent.{Lent, lent, untouched}
use Rattle.unitary.specs.Meaning.{FromGates, MatrixOutcome}
use Rattle.normal_form.specs.Meaning as Job3
use Rattle.normal_form.specs.Meaning.{Written, written, NormaliseOutcome}
use Rattle.synthesis_of_clifford_t.specs.Meaning.{Synthesis}
use Rattle.agreement.specs.declared.Agreement as declared
use Rattle.agreement.specs.Meaning.Demand3.{Synthesises}

-- ---- the second way: job 2, and job 4 where it is accepted
-- a refusal of job 2, at its place
abbrev pub earlier : FromGates → Refusal
earlier m = record { number = m.refusal; At = λ p. (m.refusal ≡ no_refusal → ⊥) × (p ≡ m.place) }

-- job 4's answer as job 3 hands one back
abbrev pub handed_on : Lent Synthesis → Lent Written
handed_on j = lent (record { refusal = j.handed.refusal; place = 0; bytes = j.handed.bytes; tees = j.handed.tees }) j.buffer

abbrev pub Job4Of : FromGates → List ℕ → Lent Synthesis → Type 0
Job4Of m old j = Synthesises m old j.handed j.buffer

abbrev pub Second : FromGates → List ℕ → Written → List ℕ → Type 0
Second m old r new = Outcome (untouched Job3.refused old) (HandsOn (Job4Of m old) handed_on) (earlier m then none) (lent r new)

-- both accepted, with the same bytes
pub record Alike (first : Written) (new₁ : List ℕ) (second : Written) (new₂ : List ℕ) : Type 0 where
  pub first_taken : first.refusal ≡ no_refusal
  pub second_taken : second.refusal ≡ no_refusal
  pub same_bytes : take first.bytes new₁ ≡ take second.bytes new₂

-- ---- what `agree` hands back: both ways' answers, and whether they are alike
pub record Agreement : Type 0 where
  pub yes : Bool
  pub first : Written
  pub second : Written

-- of the results
abbrev pub agreed : declared.Agreement → Agreement
agreed a = record { yes = a.yes; first = written a.first; second = written a.second }

pub record AgreeOutcome (bs old₁ old₂ : List ℕ) (r : Agreement) (new₁ new₂ : List ℕ) : Type 0 where
  pub first_is : NormaliseOutcome bs old₁ r.first new₁
  pub matrix : FromGates
  pub matrix_is : MatrixOutcome bs matrix
  pub second_is : Second matrix old₂ r.second new₂
  pub yes_is : Decides (Alike r.first new₁ r.second new₂) r.yes
