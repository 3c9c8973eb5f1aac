-- `reading::table::Table::number` meets its contract. Assumes nothing.
use native.Mathlib.Omega.{arith}
use Rattle.reading.specs.Steps.{number_under, number_over, number_none, number_some}
use Rattle.reading.proofs.table.Table.number.Goals as goal

pub returns-then-n-gt-IDENTITY : goal.returns-then-n-gt-IDENTITY
returns-then-n-gt-IDENTITY c = number_none _ c.args.self.right c.args.b (omega arith) (omega arith) (omega arith)

pub returns-else-n-gt-IDENTITY : goal.returns-else-n-gt-IDENTITY
returns-else-n-gt-IDENTITY c = number_some _ c.args.self.right c.args.b (omega arith) (omega arith) (omega arith)

pub returns-in_default : goal.returns-in_default
returns-in_default c = search number_under

pub returns-in_default-2 : goal.returns-in_default-2
returns-in_default-2 c = search number_over
