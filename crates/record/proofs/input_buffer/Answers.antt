-- `input_buffer` meets its contract: one byte more than the longest right record. Assumes nothing.
use mathlib.Core.Path.{refl}
use Rattle.record.proofs.input_buffer.Goals as goal

pub returns : goal.returns
returns c = refl
