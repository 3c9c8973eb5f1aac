-- `slot::told::behind` meets its contract. Assumes nothing.
use native.Mathlib.Omega.{arith}
use Rattle.slot.proofs.Tests.{behind_start, behind_more, behind_end}
use Rattle.slot.proofs.told.behind.Goals as goal

pub loop-place-init : goal.loop-place-init
loop-place-init c = behind_start (omega arith)

pub loop-place-preserved : goal.loop-place-preserved
loop-place-preserved c = search behind_more

pub returns : goal.returns
returns c = search behind_end
