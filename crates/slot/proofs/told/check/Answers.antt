-- `slot::told::check` meets its contract. Assumes nothing.
use Rattle.slot.proofs.Standing.{ranges_by, wrong_ranges}
use Rattle.slot.proofs.told.check.Goals as goal

pub check_codes-requires : goal.check_codes-requires
check_codes-requires c = search ranges_by

pub returns-else-ranged : goal.returns-else-ranged
returns-else-ranged c = search wrong_ranges
