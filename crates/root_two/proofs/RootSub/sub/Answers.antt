-- The difference of two `Root`s is what `-` promises.
use Rattle.root_two.specs.Code.{subtracted}
use Rattle.root_two.proofs.RootSub.sub.Goals as goal

pub returns : goal.returns
returns c = search subtracted
