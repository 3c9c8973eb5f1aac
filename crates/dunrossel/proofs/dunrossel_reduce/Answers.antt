-- `dunrossel::dunrossel_reduce` meets its contract: job 1 on the numbers of the array.
use mathlib.Core.Path.{refl}
use Rattle.dunrossel.specs.Handed.{reduces_taken, reduces_refused}
use Rattle.dunrossel.proofs.dunrossel_reduce.Goals as goal

pub returns-in-Ok : goal.returns-in-Ok
returns-in-Ok c = reduces_taken _ _ c.args.zw.now c.ranges.k _ c.triple_of.ensures _ _ c.in-Ok.ensures c.put_ten.ensures

pub returns-in-Err : goal.returns-in-Err
returns-in-Err c = reduces_refused _ _ c.args.zw.now c.ranges.k _ c.triple_of.ensures _ _ _ c.in-Err.ensures c.number.ensures refl
