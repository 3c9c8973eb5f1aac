-- `normal_form::reader_table` meets its contract. Assumes nothing.
use mathlib.Core.Path.{refl}
use Rattle.clifford.specs.Cliffords.{mul_c, inv_c, tconj_c}
use Rattle.reading.specs.Steps.{right}
use Rattle.normal_form.proofs.reader_table.Goals as goal

pub invariant_of-result : goal.invariant_of-result
unfolding mul_c inv_c tconj_c
invariant_of-result c = record { right = right refl tt }
