-- `clifford::cinv_row` meets its contract. Assumes nothing.
use Rattle.clifford.proofs.Tables.{cinv_row}
use Rattle.clifford.proofs.cinv_row.Goals as goal

pub returns : goal.returns
returns c = cinv_row c.args.i c.requires
