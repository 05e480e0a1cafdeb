-- The bit pattern of an f64, as IEEE 754 has it.
use Rattle.std.specs.Prelude.{ℕ, Float}
use Rattle.std.specs.Float.{binary64}
use Rattle.std.specs.Float.Ieee.{is_nan, to_bits}
use Rattle.laws.specs.Choice.{pick}

-- of every NaN one and the same
unfoldable pub bits_of : Float → ℕ
bits_of x = pick (is_nan x) 0x7ff8000000000000 (to_bits binary64 x)
