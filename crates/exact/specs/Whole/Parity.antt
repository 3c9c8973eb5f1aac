-- Parities of whole numbers: of a sum, a negative, a product; and the half of an even number. Assumes nothing.
use Rattle.std.specs.Prelude.{ℤ}
use Rattle.std.specs.Int.Signed.{shr_z}

-- ---- half, rounded down as a shift does
abbrev pub half : ℤ → ℤ
half z = shr_z z 2
