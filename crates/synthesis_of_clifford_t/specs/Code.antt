-- The step in code: what each function on the way hands on, and that the answer is the case of the definition `reduction`. Assumes nothing.
use Rattle.std.specs.Prelude.{ℕ, Option, Some, None}
use Rattle.unitary.specs.Meaning.{triple}
use Rattle.steps.specs.Step.{Reduction, Ended, Stepped}
use Rattle.synthesis_of_clifford_t.specs.declared.reduced.Reduced.{Reduced}

-- a reduction's answer as the definition has it
abbrev pub answer_of : Option (ℕ × Reduced) → Reduction
answer_of (Some s) = Stepped s.0 (triple s.1.matrix)
answer_of None = Ended
