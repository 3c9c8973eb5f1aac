-- `float::power` meets its contract. Assumes nothing.
use Rattle.view.proofs.Powers.{power_casts, power_is}
use Rattle.view.proofs.float.power.Goals as goal

pub int_to_float-result : goal.int_to_float-result
int_to_float-result c = power_casts c.args.s c.requires

pub returns : goal.returns
returns c = power_is c.args.s c.requires
