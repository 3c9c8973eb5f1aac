-- The sum of two `Root`s is what `+` promises.
use Rattle.root_two.specs.Code.{added}
use Rattle.root_two.proofs.RootAdd.add.Goals as goal

pub returns : goal.returns
returns c = search added
