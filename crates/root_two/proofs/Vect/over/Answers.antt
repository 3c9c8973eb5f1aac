-- `root_two::Vect::over` meets its contract, part by part.
use Rattle.root_two.specs.Code.{lift_each}
use Rattle.root_two.proofs.Vect.over.Goals as goal

pub returns : goal.returns
returns c = search lift_each
