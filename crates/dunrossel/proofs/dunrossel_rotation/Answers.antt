-- `dunrossel::dunrossel_rotation` meets its contract: the rotation on the numbers of the array.
use mathlib.Core.Path.{refl}
use Rattle.dunrossel.specs.Handed.{rotates_as}
use Rattle.dunrossel.proofs.dunrossel_rotation.Goals as goal

pub returns-in-Ok : goal.returns-in-Ok
returns-in-Ok c = rotates_as _ _ c.args.zw.now c.ranges.k _ c.triple_of.ensures _ _ _ c.in-Ok.ensures refl c.put_rotation.ensures

pub returns-in-Err : goal.returns-in-Err
returns-in-Err c = rotates_as _ _ c.args.zw.now c.ranges.k _ c.triple_of.ensures _ _ _ c.in-Err.ensures c.number.ensures refl
