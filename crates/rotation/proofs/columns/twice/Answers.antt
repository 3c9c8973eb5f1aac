-- `columns::twice` meets its contract.
use Rattle.rotation.specs.Columns.{twice_is}
use Rattle.rotation.proofs.columns.twice.Goals as goal

pub returns : goal.returns
returns c = search twice_is
