-- `dunrossel::dunrossel_view` meets its contract: job 7 on the numbers of the array.
use mathlib.Core.Path.{refl}
use Rattle.dunrossel.specs.Handed.{views_as}
use Rattle.dunrossel.proofs.dunrossel_view.Goals as goal

pub returns-in-Ok : goal.returns-in-Ok
returns-in-Ok c = views_as _ _ c.args.zw.now c.ranges.k _ c.triple_of.ensures _ _ _ c.in-Ok.ensures refl c.put_view.ensures

pub returns-in-Err : goal.returns-in-Err
returns-in-Err c = views_as _ _ c.args.zw.now c.ranges.k _ c.triple_of.ensures _ _ _ c.in-Err.ensures c.number.ensures refl
