-- `dunrossel::dunrossel_t_count` meets its contract: the T count on the numbers of the array.
use mathlib.Core.Path.{refl}
use Rattle.dunrossel.specs.Handed.{counts_tees_as}
use Rattle.dunrossel.proofs.dunrossel_t_count.Goals as goal

pub returns-in-Ok : goal.returns-in-Ok
returns-in-Ok c = counts_tees_as _ _ c.args.zw.now c.ranges.k _ c.triple_of.ensures _ _ _ c.in-Ok.ensures refl refl

pub returns-in-Err : goal.returns-in-Err
returns-in-Err c = counts_tees_as _ _ c.args.zw.now c.ranges.k _ c.triple_of.ensures _ _ _ c.in-Err.ensures c.number.ensures refl
