-- `unitary::power_of_two` meets its contract: the shift loses no bit.
use Rattle.unitary.specs.Checks.{shifted}
use Rattle.unitary.proofs.power_of_two.Goals as goal

pub returns : goal.returns
returns c = shifted c.args.k c.requires
