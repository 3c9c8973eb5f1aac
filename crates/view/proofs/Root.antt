-- The root-two constant is Rn over 2 to the 52, and Rn is the whole number nearest to 2 to the 52 times root two: twice that, squared, is
-- between the squares of 2·Rn - 1 and 2·Rn + 1. Assumes nothing.
use Rattle.std.specs.Prelude.{refl, false, ℕ, ◌+◌, ◌-◌, ◌*◌, ◌^◌, ◌<◌}
use Rattle.std.proofs.Common.{lit<}
use Rattle.std.specs.Float.Ieee.{of_bits}
use Rattle.std.specs.Float.Ieee.Exact.{HasValue}
use Rattle.view.specs.Meaning.Near.{root_two}

abbrev pub Rn : ℕ
Rn = 6369051672525773

pub root_value : HasValue root_two false Rn (2 ^ 52)
unfolding of_bits
root_value = (refl, refl)

pub root_nearest : ((2 * Rn - 1) * (2 * Rn - 1) < 2 * (2 ^ 53 * 2 ^ 53)) × (2 * (2 ^ 53 * 2 ^ 53) < (2 * Rn + 1) * (2 * Rn + 1))
root_nearest = (lit< tt, lit< tt)
