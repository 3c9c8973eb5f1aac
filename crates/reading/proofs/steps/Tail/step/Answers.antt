-- `reading::steps::Tail::step` meets its contract. Assumes nothing.
use Prim.Native.Nat.{◌%◌, ◌<◌}
use native.Mathlib.Omega.{arith}
use Rattle.reading.specs.Steps.{change_of, row_of, row_few, change_few, stepped}
use Rattle.reading.proofs.steps.Tail.step.Goals as goal

pub bounds-table-change : goal.bounds-table-change
bounds-table-change c = let change : change_of c.args.table.bytes.now c.args.first c.args.second < 49 = search change_few in omega (arith, change)

pub bounds-table-row : goal.bounds-table-row
bounds-table-row c =
    let row : row_of c.args.table.bytes.now c.args.first c.args.second % 32 < 17 = search row_few in omega (arith, row)

pub returns : goal.returns
returns c = search stepped
