-- Powers that C hands over as bits. Rattle leaves open which value the bits of what is no number give, so the code puts the infinity in
-- its place: both are out of the bench's bounds, and the answer is the same.
use Rattle.std.specs.Prelude.{false, cond, ℕ, Float}
use Rattle.std.specs.Float.{inf, binary32}
use Rattle.std.specs.Float.Ieee.{of_bits}
use Rattle.std.specs.Float.Ieee.Scale.{finite}

-- the float with these bits, or the infinity for one that is not finite
unfoldable pub float_from : ℕ → Float
float_from n = cond (finite (of_bits binary32 n)) (of_bits binary32 n) (inf false)
