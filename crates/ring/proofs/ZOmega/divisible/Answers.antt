-- `ring::ZOmega::divisible` meets its contract: both sums are even.
use Rattle.ring.specs.Parities.{first_even}
use Rattle.ring.proofs.ZOmega.divisible.Goals as goal

pub returns-then-not-odd : goal.returns-then-not-odd
returns-then-not-odd c = search first_even
