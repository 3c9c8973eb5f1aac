-- `lent::put` meets its contract: one byte more is put. Assumes nothing.
use Rattle.lent.specs.Written.{putting_more}
use Rattle.lent.proofs.put.Goals as goal

pub loop-i-preserved : goal.loop-i-preserved
loop-i-preserved c = search putting_more
