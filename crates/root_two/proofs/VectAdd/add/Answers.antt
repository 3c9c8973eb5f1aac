-- The sum of two `Vect`s is what `+` promises: the last part's sum is as small as it needs to be, too.
use Rattle.root_two.specs.Code.{addable}
use Rattle.root_two.proofs.VectAdd.add.Goals as goal

pub add-requires-3 : goal.add-requires-3
add-requires-3 c = search addable
