-- How many letters: before normalising at most 6k+12, of which at most 2k+1 are T; and a normal word with that matrix
-- has at most 6k+16. Assumes nothing.
use Rattle.std.specs.Prelude.{◌+◌, ◌*◌, ◌≤◌, length}
use Rattle.exact.specs.Meaning.Triple.{Triple}
use Rattle.steps.specs.Step.{Ready}
use Rattle.steps.specs.Steps.{letters}

abbrev pub FewLetters : Type 0
FewLetters = (t : Triple) → Ready t → length (letters t) ≤ 6 * t.k + 12
